-- `Weigher::fill_row` meets its contract. The invariant is `Adding`.
-- Assumes nothing.
use Rattle.weigh.specs.Rows.{sources_of}
use Rattle.weigh.proofs.Adding.{Adding}
use Rattle.weigh.proofs.Weigher.fill_row.Given as goal
use Rattle.theory.specs.Arithmetic.{arithmetic_number}

abbrev pub invariant-loop-j : goal.invariant-loop-j
invariant-loop-j l = Adding (arithmetic_number l.self.table.now.arithmetic) (sources_of l.self l.row l.initial.sheet) l.self.table.now.target l.row l.sheet l.j
