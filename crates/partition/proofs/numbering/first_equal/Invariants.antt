-- `partition::numbering::first_equal` meets its contract. The invariant: no state below p has q's final weight. Assumes nothing.
use Rattle.std.proofs.Common.{ℕ, ◌<◌, get_or}
use Rattle.std.specs.Prelude.{◌≢◌}
use Rattle.partition.proofs.numbering.first_equal.Given as goal

abbrev pub invariant-loop-p : goal.invariant-loop-p
invariant-loop-p l = (k : ℕ) → k < l.p → get_or l.finals k 0 ≢ get_or l.finals l.q 0
