-- `weigh::begin_of` meets its contract. The invariant: the symbols passed are below s.
-- Assumes nothing.
use Rattle.std.proofs.Common.{ℕ, ◌<◌, get_or}
use Rattle.weigh.proofs.begin_of.Given as goal

abbrev pub invariant-loop-j : goal.invariant-loop-j
invariant-loop-j l = (i : ℕ) → i < l.j → get_or l.t.symbol i 0 < l.s
