-- `adding::key_of` meets its contract: the blocks of the children before place k are packed, and then the target's.
-- Assumes nothing.
use Rattle.theory.specs.Blocks.{block_of}
use Rattle.adding.proofs.Children.{Keying}
use Rattle.adding.proofs.key_of.Given as goal

abbrev pub invariant-loop-child : goal.invariant-loop-child
invariant-loop-child l = Keying (block_of l.blocks.list) l.child-items l.packed l.child-index
