-- A record that can be written: its numbers stand inside its arrays.
use Rattle.std.specs.Prelude.{ℕ, ◌+◌, ◌*◌, ◌≤◌, ◌<◌, ◌≡◌, length, get_or, take}
use Rattle.model.specs.Table.{Proper}
use Rattle.tables.specs.Record.{Columns, table_of}
use Rattle.tables.specs.declared.TableRecord.{TableRecord}

-- transition j stands inside the columns
pub record RowInside (c : Columns) (j : ℕ) : Type 0 where
  pub symbol : j < length c.symbol
  pub known : get_or c.symbol j 0 < length c.ranks
  pub children : j * 4 + get_or c.ranks (get_or c.symbol j 0) 0 ≤ length c.children
  pub target : j < length c.target
  pub code : j < length c.code

-- the record is a table within document 01's bounds
pub record Writable (r : TableRecord) : Type 0 where
  pub proper : Proper (table_of r)
  pub symbols : r.symbols ≡ length (take r.symbols r.ranks)
