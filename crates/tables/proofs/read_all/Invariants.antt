-- The invariant is `SoFar`: what is read from here on continues what was read.
use Rattle.tables.proofs.Filling.{SoFar}
use Rattle.tables.proofs.read_all.Given as goal

abbrev pub invariant-loop-slot : goal.invariant-loop-slot
invariant-loop-slot g l = SoFar (goal.F-post g l.item) l.fn.place l.slot-items l.slot-index l.next
