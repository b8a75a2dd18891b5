-- `weigh::weigh_nodes` meets its contract. The invariant is `Filling`.
-- Assumes nothing.
use Rattle.tables.specs.Record.{table_of}
use Rattle.weigh.proofs.Filling.{Filling}
use Rattle.weigh.proofs.weigh_nodes.Given as goal

abbrev pub invariant-loop-at : goal.invariant-loop-at
invariant-loop-at l = Filling (table_of l.t) l.tree l.initial.sheet l.sheet l.stack l.top l.at
