-- The numbers from here on are left.
use Rattle.std.proofs.Common.{List, ℕ, ◌∷◌, ◌++◌, length, drop}
use Rattle.model.specs.Table.{Table}
use Rattle.format.specs.Written.{transitions_numbers, table_numbers}
use Rattle.tables.specs.Record.{table_of}
use Rattle.tables.specs.Rows.{columns_of}
use Rattle.writer.proofs.Rows.{rows_left}
use Rattle.writer.proofs.Walks.{Walked}
use Rattle.writer.proofs.put_table.Given as goal

-- how many transitions there are, and the transitions
abbrev pub after_finals : Table → List ℕ
after_finals X = length X.transitions ∷ transitions_numbers X.transitions

abbrev pub invariant-loop-rank : goal.invariant-loop-rank
invariant-loop-rank g l =
    let X = table_of l.table in
    Walked g.S.Sink.took (table_numbers X) l.fn.sink l.sink (drop l.rank-index l.rank-items ++ (X.finals ++ after_finals X))

abbrev pub invariant-loop-code : goal.invariant-loop-code
invariant-loop-code g l =
    let X = table_of l.table in
    Walked g.S.Sink.took (table_numbers X) l.fn.sink l.sink (drop l.code-index l.code-items ++ after_finals X)

abbrev pub invariant-loop-j : goal.invariant-loop-j
invariant-loop-j g l =
    Walked g.S.Sink.took (table_numbers (table_of l.table)) l.fn.sink l.sink (rows_left (columns_of l.table) l.table.count l.j)
