-- The invariant is `Groups`: the groups so far and the rest make up the number.
use Rattle.numbers.proofs.Groups.{Groups}
use Rattle.numbers.proofs.long_number.Given as goal

abbrev pub invariant-loop-at : goal.invariant-loop-at
invariant-loop-at l = Groups l.table l.first l.low l.value l.unit l.at
