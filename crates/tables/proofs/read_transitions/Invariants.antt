-- The invariant is `Rowing`: so many transitions are in the columns, each above the one before. The rest of the record is as it was.
use Rattle.std.proofs.Common.{take}
use Rattle.tables.specs.Rows.{columns_of}
use Rattle.tables.specs.Steps.{HeadKept}
use Rattle.tables.proofs.Rows.{Rowing}
use Rattle.tables.proofs.read_transitions.Given as goal

abbrev pub invariant-loop-j : goal.invariant-loop-j
invariant-loop-j l =
    let t = l.fn.table in
    record { head : HeadKept t l.table; rows : Rowing l.bytes (take t.symbols t.ranks) t.states t.count l.fn.place.at (columns_of l.table) l.j l.next.at }
