-- `collapse::put_table` meets its contract: the form is put at the front of the room if it fits. Assumes nothing.
use Rattle.std.proofs.Common.{refl, sym}
use Rattle.tables.specs.Record.{table_of}
use Rattle.tables.specs.Rows.{columns_of, rows_length}
use Rattle.collapse.proofs.Fitting.{put_filled, put_counted}
use Rattle.collapse.proofs.put_table.Goals as goal

pub returns-clause-answer : goal.returns-clause-answer
returns-clause-answer c =
    let t = c.args.table.now in
    put_counted (table_of t) _ _ _ c.write.ensures c.in_default.ensures _ _ refl (sym (rows_length (columns_of t) 0 t.count))

pub returns-clause-room : goal.returns-clause-room
returns-clause-room c = put_filled (table_of c.args.table.now) _ _ _ c.write.ensures c.in_default.ensures
