-- The transitions of a record as entries, and entries as transitions of a record.
use Rattle.std.specs.Prelude.{ℕ, ◌/◌, ◌≤◌, ◌<◌, ◌≡◌, cond, List, [], ◌∷◌, map, length, get_or, take}
use Rattle.model.specs.Table.{Table, Transition}
use Rattle.theory.specs.declared.Direction.{Direction}
use Rattle.theory.specs.Entry.{block_key}
use Rattle.tables.specs.Rows.{Row}
use Rattle.tables.specs.Record.{Columns, row_at, rows_from}
use Rattle.tables.specs.Steps.{Kept, Long}
use Rattle.profiles.specs.Entries.{Entry, entries}
use Rattle.adding.specs.Keys.{pack, transition_of}
use Rattle.adding.specs.Named.{counted}

-- the first so many transitions can be read
abbrev pub Rows : List ℕ → List ℕ → ℕ → Type 0
Rows ranks symbol count = (count ≤ 4000) × ((j : ℕ) → j < count → Row ranks symbol j)

-- a transition's entry: the key of its blocks, with its code
abbrev pub entry_of : (ℕ → ℕ) → Transition → Entry
entry_of b t = record { key = pack (block_key b t); code = t.code }

-- the entries of the transitions that count
abbrev pub gathered : (ℕ → ℕ) → (ℕ → ℕ) → Direction → List Transition → List Entry
gathered b r d [] = []
gathered b r d (t ∷ ts) = cond (counted b r d t) (entry_of b t ∷ gathered b r d ts) (gathered b r d ts)

-- these entries are in the arrays, at most one for each transition
pub record Gathered (es : List Entry) (count : ℕ) (keys codes : List ℕ) (many : ℕ) : Type 0 where
  pub few : many ≤ count
  pub held : entries keys codes 0 many ≡ es
  pub keys_long : length keys ≡ 16000
  pub codes_long : length codes ≡ 16000

-- the key's symbol has a rank of at most 4
pub record KeyKnown (ranks : List ℕ) (key : ℕ) : Type 0 where
  pub known : key / 1099511627776 < 128
  pub rank_small : get_or ranks (key / 1099511627776) 0 ≤ 4

-- transition i of the columns is t, and those before it are as they were
pub record RowPut (i : ℕ) (t : Transition) (before columns : Columns) : Type 0 where
  pub put : row_at columns i ≡ t
  pub kept : Kept i before columns
  pub long : Long columns

-- the first transitions of the columns are these entries
pub record Unpacked (count : ℕ) (es : List Entry) (columns : Columns) : Type 0 where
  pub rows : rows_from columns 0 count ≡ map (transition_of columns.ranks) es
  pub long : Long columns

-- the table that these numbers, ranks, final codes and entries are
abbrev pub table_from : ℕ → ℕ → ℕ → List ℕ → List ℕ → List Entry → Table
table_from arithmetic states symbols ranks finals es =
    record {
      arithmetic = arithmetic;
      states = states;
      ranks = take symbols ranks;
      finals = take states finals;
      transitions = map (transition_of ranks) es;
    }
