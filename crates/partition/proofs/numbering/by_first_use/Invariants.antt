-- `partition::numbering::by_first_use` meets its contract. The invariant is `FirstUsing`: the states below q have their new numbers, and
-- the blocks met have names. Assumes nothing.
use Rattle.partition.proofs.FirstUsing.{FirstUsing}
use Rattle.partition.proofs.numbering.by_first_use.Given as goal

abbrev pub invariant-loop-q : goal.invariant-loop-q
invariant-loop-q l = FirstUsing l.found.list l.list l.names l.number l.q
