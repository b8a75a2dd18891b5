-- The numbers of a table's transitions, row by row.
use Rattle.std.proofs.Common.{◌≡◌, ℕ, suc, ◌+◌, ◌-◌, ◌<◌, ◌≤◌, List, [], ◌++◌, refl, ap, arith, add-one}
use Rattle.format.specs.Written.{transition_numbers, transitions_numbers}
use Rattle.tables.specs.Record.{Columns, row_at, rows_from}

-- the numbers of rows j to count
abbrev pub rows_left : Columns → ℕ → ℕ → List ℕ
rows_left c count j = transitions_numbers (rows_from c j (count - j))

rows_pieces : (c : Columns) (j k : ℕ) → transitions_numbers (rows_from c j (suc k)) ≡ transition_numbers (row_at c j) ++ transitions_numbers (rows_from c (suc j) k)
unfolding rows_from
rows_pieces c j k = refl

rows_none : (c : Columns) (j : ℕ) → transitions_numbers (rows_from c j 0) ≡ []
unfolding rows_from
rows_none c j = refl

pub rows_all : (c : Columns) (count : ℕ) → transitions_numbers (rows_from c 0 count) ≡ rows_left c count 0
rows_all c count = ap (λ (k : ℕ). transitions_numbers (rows_from c 0 k)) (omega arith)

pub rows_open : (c : Columns) (count j : ℕ) → j < count → rows_left c count j ≡ transition_numbers (row_at c j) ++ rows_left c count (j + 1)
rows_open c count j h =
    let e : count - j ≡ suc (count - (j + 1)) = omega arith in
    rw (e, add-one j) (rows_pieces c j (count - suc j))

pub rows_close : (c : Columns) (count j : ℕ) → count ≤ j → rows_left c count j ≡ []
rows_close c count j h = let e : count - j ≡ 0 = omega arith in rw e (rows_none c j)
