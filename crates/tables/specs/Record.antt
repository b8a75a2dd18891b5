-- Which table a table record is.
use Rattle.std.specs.Prelude.{ℕ, zero, suc, ◌*◌, ◌≡◌, List, [], ◌∷◌, length, get_or, take, drop}
use Rattle.std.proofs.Common.{ap}
use Rattle.theory.specs.Arithmetic.{arithmetic_number}
use Rattle.model.specs.Table.{Table, Transition, key}
use Rattle.tables.specs.declared.TableRecord.{TableRecord}

-- the columns in which a record keeps its transitions: the children of transition j stand from 4 * j on
pub record Columns : Type 0 where
  pub ranks : List ℕ
  pub symbol : List ℕ
  pub children : List ℕ
  pub target : List ℕ
  pub code : List ℕ

abbrev pub columns : List ℕ → List ℕ → List ℕ → List ℕ → List ℕ → Columns
columns ranks symbol children target code = record { ranks = ranks; symbol = symbol; children = children; target = target; code = code }

-- transition j of the columns
abbrev pub row_at : Columns → ℕ → Transition
row_at c j =
    record {
      symbol = get_or c.symbol j 0;
      children = take (get_or c.ranks (get_or c.symbol j 0) 0) (drop (j * 4) c.children);
      target = get_or c.target j 0;
      code = get_or c.code j 0;
    }

-- k transitions of the columns, from transition j on
unfoldable pub rows_from : Columns → ℕ → ℕ → List Transition
rows_from c j zero = []
rows_from c j (suc k) = row_at c j ∷ rows_from c (suc j) k

-- the key of transition j, and of the one before it; below the first transition stands the empty key
abbrev pub key_at : List ℕ → List ℕ → List ℕ → List ℕ → ℕ → List ℕ
key_at ranks symbol children target j = key (row_at (columns ranks symbol children target []) j)

abbrev pub key_before : List ℕ → List ℕ → List ℕ → List ℕ → ℕ → List ℕ
key_before ranks symbol children target zero = []
key_before ranks symbol children target (suc j) = key_at ranks symbol children target j

-- the table that these numbers, ranks, final codes and columns are
abbrev pub table_in : ℕ → ℕ → ℕ → ℕ → List ℕ → Columns → Table
table_in arithmetic states symbols count finals c =
    record {
      arithmetic = arithmetic;
      states = states;
      ranks = take symbols c.ranks;
      finals = take states finals;
      transitions = rows_from c 0 count;
    }

-- the table that a record is
abbrev pub table_of : TableRecord → Table
table_of r = table_in (arithmetic_number r.arithmetic) r.states r.symbols r.count r.finals (columns r.ranks r.symbol r.children r.target r.code)

-- this record is that table
pub record Holds (r : TableRecord) (X : Table) : Type 0 where
  pub table : table_of r ≡ X
  pub symbols : r.symbols ≡ length X.ranks

pub states_of : (r : TableRecord) (X : Table) → Holds r X → r.states ≡ X.states
states_of r X h = ap (λ (Y : Table). Y.states) h.table
