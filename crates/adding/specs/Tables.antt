-- What is said of columns, keys and codes, said of a table record and of entries.
use Rattle.std.specs.Prelude.{ℕ, List}
use Rattle.model.specs.Table.{Table, Transition}
use Rattle.theory.specs.declared.Direction.{Direction}
use Rattle.tables.specs.declared.TableRecord.{TableRecord}
use Rattle.tables.specs.Record.{row_at, rows_from}
use Rattle.tables.specs.Rows.{columns_of}
use Rattle.profiles.specs.declared.Entries.{Entries}
use Rattle.profiles.specs.Entries.{Entry, entries}
use Rattle.adding.specs.Keys.{transition_of}
use Rattle.adding.specs.Rows.{Rows, gathered, Gathered, RowPut, Unpacked, table_from}
use Rattle.theory.specs.Arithmetic.{arithmetic_number}

-- all transitions can be read
abbrev pub RowsIn : TableRecord → Type 0
RowsIn t = Rows t.ranks t.symbol t.count

-- transition j
abbrev pub row_in : TableRecord → ℕ → Transition
row_in t j = row_at (columns_of t) j

-- the transition that an entry is, over the ranks of the table
abbrev pub entry_in : TableRecord → ℕ → ℕ → Transition
entry_in t key code = transition_of t.ranks (record { key = key; code = code })

-- the first entries
abbrev pub first_entries : Entries → ℕ → List Entry
first_entries e many = entries e.keys e.codes 0 many

-- the entries of the transitions that count are the first ones
abbrev pub GatheredIn : Direction → TableRecord → (ℕ → ℕ) → (ℕ → ℕ) → Entries → ℕ → Type 0
GatheredIn d t b r e many = Gathered (gathered b r d (rows_from (columns_of t) 0 t.count)) t.count e.keys e.codes many

-- transition i of the table after is t, and those before it are as they were
abbrev pub RowPutIn : ℕ → Transition → TableRecord → TableRecord → Type 0
RowPutIn i t before after = RowPut i t (columns_of before) (columns_of after)

-- the transitions of the table are these entries
abbrev pub UnpackedIn : TableRecord → List Entry → Type 0
UnpackedIn t es = Unpacked t.count es (columns_of t)

-- the table that the entries are, with this number of states and these final codes; arithmetic, symbols and ranks are the old table's
abbrev pub table_from_entries : TableRecord → ℕ → List ℕ → List Entry → Table
table_from_entries t states finals es = table_from (arithmetic_number t.arithmetic) states t.symbols t.ranks finals es
