-- The rows of a record's columns.
use Rattle.std.specs.Prelude.{ℕ, zero, suc, ◌+◌, ◌≤◌, ◌<◌, ◌≡◌, refl, List, [], ◌∷◌, length, get_or, take, drop}
use Rattle.std.proofs.Common.{ap, arith, take-take}
use Rattle.std.proofs.Math.Decide.{dec_le}
use Rattle.std.proofs.Math.Seq.{take-nil}
use Rattle.model.specs.Table.{Transition, Each}
use Rattle.tables.specs.Record.{Columns, columns, row_at, rows_from, key_before}
use Rattle.tables.specs.declared.TableRecord.{TableRecord}

-- transition j can be read: its symbol has a rank of at most 4
pub record Row (ranks symbol : List ℕ) (j : ℕ) : Type 0 where
  pub inside : j < 4000
  pub known : get_or symbol j 0 < 128
  pub rank_small : get_or ranks (get_or symbol j 0) 0 ≤ 4

-- the same of a record
abbrev pub RowIn : TableRecord → ℕ → Type 0
RowIn t j = Row t.ranks t.symbol j

abbrev pub columns_of : TableRecord → Columns
columns_of r = columns r.ranks r.symbol r.children r.target r.code

-- the key of the transition before transition j; below the first stands the empty key
abbrev pub key_below : Columns → ℕ → List ℕ
key_below c j = key_before c.ranks c.symbol c.children c.target j

pub rows_length : (c : Columns) (m k : ℕ) → length (rows_from c m k) ≡ k
unfolding rows_from
rows_length c m zero = refl
rows_length c m (suc k) = ap suc (rows_length c (suc m) k)

-- what holds of each transition holds of transition i
pub each_row : (P : Transition → Type 0) (c : Columns) (m k : ℕ) → Each P (rows_from c m k) → (i : ℕ) → m ≤ i → i < m + k → P (row_at c i)
unfolding rows_from
each_row P c m zero h i l n = absurd (omega arith)
each_row P c m (suc k) h i l n = go (dec_le (suc m) i) (each_row P c (suc m) k h.1 i)
  where
    go : Dec (suc m ≤ i) → (suc m ≤ i → i < suc m + k → P (row_at c i)) → P (row_at c i)
    go (yes later) rest = rest later (omega arith)
    go (no first) rest = let same : i ≡ m = omega arith in rw same h.0

-- a part of a list that ends before b is a part of its first b members
pub part_of_front : {A : Type 0} (r a b : ℕ) (l : List A) → a + r ≤ b → take r (drop a (take b l)) ≡ take r (drop a l)
part_of_front r a b [] h = rw take-nil
part_of_front r zero b (x ∷ l) h = take-take r b (x ∷ l) (omega arith)
part_of_front r (suc a) zero (x ∷ l) h = absurd (omega arith)
part_of_front r (suc a) (suc b) (x ∷ l) h = part_of_front r a b l (omega arith)
