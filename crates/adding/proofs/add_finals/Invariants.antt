-- `adding::add_finals` meets its contract: what is added so far, and the final weights that are left, make up the sum.
-- Assumes nothing.
use Rattle.theory.specs.Blocks.{block_of}
use Rattle.adding.proofs.Totals.{Totalling}
use Rattle.adding.proofs.add_finals.Given as goal
use Rattle.theory.specs.Arithmetic.{arithmetic_number}

abbrev pub invariant-loop-q : goal.invariant-loop-q
invariant-loop-q l = Totalling (arithmetic_number l.table.arithmetic) l.table.states l.table.finals (block_of l.blocks.list) l.sums l.q
