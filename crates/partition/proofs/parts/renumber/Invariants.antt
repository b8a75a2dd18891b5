-- `partition::parts::renumber` meets its contract. The invariant is the promise itself, for the members so far. Assumes nothing.
use Rattle.std.proofs.Common.{length}
use Rattle.partition.specs.Parts.{Renumbered}
use Rattle.partition.proofs.parts.renumber.Given as goal

abbrev pub invariant-loop-p : goal.invariant-loop-p
invariant-loop-p l =
    Renumbered (length l.yielded) l.block.0 l.total l.keeper l.members l.part l.initial.blocks.list l.initial.dirty l.blocks.list l.dirty
