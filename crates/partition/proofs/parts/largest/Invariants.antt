-- `partition::parts::largest` meets its contract. The invariant: the best part so far is one of the parts, and no size is above the number
-- of members counted. Assumes nothing.
use Rattle.std.proofs.Common.{ℕ, ◌<◌, ◌≤◌, get_or, length, ◌≡◌}
use Rattle.partition.proofs.parts.largest.Given as goal

abbrev pub invariant-loop-m : goal.invariant-loop-m
invariant-loop-m l = (length l.sizes ≡ 256) × (l.best < l.parts) × ((m : ℕ) → m < 256 → get_or l.sizes m 0 ≤ l.m-index)
