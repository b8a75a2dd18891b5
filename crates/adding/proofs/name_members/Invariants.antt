-- `adding::name_members` meets its contract: of the states below q the greatest in each block is named.
-- Assumes nothing.
use Rattle.theory.specs.Blocks.{block_of}
use Rattle.adding.proofs.Naming.{Naming}
use Rattle.adding.proofs.name_members.Given as goal

abbrev pub invariant-loop-q : goal.invariant-loop-q
invariant-loop-q l = Naming (block_of l.blocks.list) l.names.list l.q
