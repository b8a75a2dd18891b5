-- `grouping::keys::sum_up_members` meets its contract. The invariant: the profiles of the members so far are there. Assumes nothing.
use Rattle.theory.specs.Blocks.{block_of}
use Rattle.grouping.specs.Keys.{entry_in}
use Rattle.grouping.specs.Steps.{AllProfiledIn}
use Rattle.grouping.proofs.keys.sum_up_members.Given as goal
use Rattle.theory.specs.Arithmetic.{arithmetic_number}

abbrev pub invariant-loop-p : goal.invariant-loop-p
invariant-loop-p l =
    AllProfiledIn (entry_in l.direction l.table (block_of l.blocks.list)) (arithmetic_number l.table.arithmetic) l.uses l.p-index l.members l.ends l.entries
