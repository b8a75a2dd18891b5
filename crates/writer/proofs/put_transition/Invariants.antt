-- The children from here on, the target and the code are left.
use Rattle.std.proofs.Common.{[], ◌∷◌, ◌++◌, get_or, drop}
use Rattle.format.specs.Written.{transition_numbers}
use Rattle.tables.specs.Record.{row_at}
use Rattle.tables.specs.Rows.{columns_of}
use Rattle.writer.proofs.Walks.{Walked}
use Rattle.writer.proofs.put_transition.Given as goal

abbrev pub invariant-loop-child : goal.invariant-loop-child
invariant-loop-child g l =
    Walked g.S.Sink.took (transition_numbers (row_at (columns_of l.table) l.j)) l.fn.sink l.sink
    (drop l.child-index l.child-items ++ (get_or l.table.target l.j 0 ∷ get_or l.table.code l.j 0 ∷ []))
