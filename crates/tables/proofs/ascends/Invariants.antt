-- The invariant: the children passed are the same, so what is left of the two keys decides.
use Rattle.std.proofs.Common.{get_or}
use Rattle.model.specs.Table.{lower, key}
use Rattle.tables.specs.Record.{row_at}
use Rattle.tables.specs.Rows.{columns_of, key_below}
use Rattle.tables.proofs.Order.{Left}
use Rattle.tables.proofs.ascends.Given as goal

abbrev pub invariant-loop-above : goal.invariant-loop-above
invariant-loop-above l =
    Left l.above-iterator.a.rest.now l.above-iterator.b.rest.now (get_or l.table.target l.i 0) (get_or l.table.target l.j 0)
    (lower (key_below (columns_of l.table) l.j) (key (row_at (columns_of l.table) l.j)))
