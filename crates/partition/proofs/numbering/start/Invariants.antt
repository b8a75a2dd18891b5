-- `partition::numbering::start` meets its contract. The invariant is the promise itself, for the states below q. Assumes nothing.
use Rattle.std.proofs.Common.{◌≤◌}
use Rattle.partition.specs.Numbering.{Started}
use Rattle.partition.proofs.numbering.start.Given as goal

abbrev pub invariant-loop-q : goal.invariant-loop-q
invariant-loop-q g l = (l.number ≤ l.q) × Started l.direction l.q l.finals l.list l.number
