-- `Weigher::product_of` meets its contract. The invariant is `Multiplying`.
-- Assumes nothing.
use Rattle.weigh.specs.Rows.{sources_of}
use Rattle.weigh.proofs.Multiplying.{Multiplying}
use Rattle.weigh.proofs.Weigher.product_of.Given as goal
use Rattle.theory.specs.Arithmetic.{arithmetic_number}

abbrev pub invariant-loop-k : goal.invariant-loop-k
invariant-loop-k l =
    Multiplying (arithmetic_number l.self.table.now.arithmetic) (sources_of l.self l.row l.sheet) l.row.rank l.j l.k l.x
