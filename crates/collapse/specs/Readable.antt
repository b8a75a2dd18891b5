-- A record that is a table within document 01's bounds.
use Rattle.model.specs.Table.{Proper}
use Rattle.tables.specs.Record.{table_of, Holds}
use Rattle.tables.specs.declared.TableRecord.{TableRecord}

pub record Readable (r : TableRecord) : Type 0 where
  pub holds : Holds r (table_of r)
  pub proper : Proper (table_of r)
