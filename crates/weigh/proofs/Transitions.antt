-- The transitions that columns hold: each of them, sums over them, and the rise of their symbols.
use Prim.Native.Nat.{ℕ, zero, suc, ◌+◌, ◌≤◌, ◌<◌}
use mathlib.Core.Path.{◌≡◌, refl, ap}
use mathlib.Core.Bool.{Bool, true, false, cond}
use mathlib.Core.List.{List, ◌∷◌}
use native.Mathlib.Omega.{arith}
use native.Mathlib.Decide.{dec_le}
use lib.Dec.{T, eqb, eqb→eq, ltb, ltb→lt}
use lib.ListN.{get_or}
use Rattle.model.specs.Table.{Transition, Ascending, key, lower}
use Rattle.theory.specs.Equality.{of_true}
use Rattle.theory.specs.Semiring.{Operations}
use Rattle.theory.specs.Sum.{sum}
use Rattle.theory.specs.Below.{up_from}
use Rattle.tables.specs.Record.{Columns, row_at, rows_from}
use Rattle.weigh.specs.Index.{Begins, Rising}

-- a sum over transitions is a sum over their numbers
pub sum_rows : (S : Operations) (f : Transition → S.Carrier) (c : Columns) (m k : ℕ) → sum S (rows_from c m k) f ≡ sum S (up_from m k) (λ j. f (row_at c j))
unfolding rows_from
sum_rows S f c m zero = refl
sum_rows S f c m (suc k) = ap (S.plus (f (row_at c m))) (sum_rows S f c (suc m) k)

-- the symbols of ascending transitions never fall
lower_first : (x y : ℕ) (xs ys : List ℕ) → T (lower (x ∷ xs) (y ∷ ys)) → x ≤ y
lower_first x y xs ys h = go (eqb x y) refl h
  where
    go : (e : Bool) → eqb x y ≡ e → T (cond e (lower xs ys) (ltb x y)) → x ≤ y
    go true e t = let same = eqb→eq x y (of_true _ e) in omega arith
    go false e t = let less = ltb→lt x y t in omega arith

above_first : (c : Columns) (s : ℕ) (rest : List ℕ) (m k : ℕ) → Ascending (s ∷ rest) (rows_from c m k) → (j : ℕ) → m ≤ j → j < m + k → s ≤ get_or c.symbol j 0
unfolding rows_from
above_first c s rest m zero up j l n = absurd (omega arith)
above_first c s rest m (suc k) up j l n =
    go (dec_le (suc m) j) (lower_first s (get_or c.symbol m 0) rest _ up.0)
    (above_first c (get_or c.symbol m 0) _ (suc m) k up.1 j)
  where
    go : Dec (suc m ≤ j) → s ≤ get_or c.symbol m 0 → (suc m ≤ j → j < suc m + k → get_or c.symbol m 0 ≤ get_or c.symbol j 0) → s ≤ get_or c.symbol j 0
    go (yes later) first rising = let more = rising later (omega arith) in omega arith
    go (no here) first rising = let same : j ≡ m = omega arith in rw same first

rising_from : (c : Columns) (before : List ℕ) (m k : ℕ) → Ascending before (rows_from c m k) → (i j : ℕ) → m ≤ i → i ≤ j → j < m + k → get_or c.symbol i 0 ≤ get_or c.symbol j 0
unfolding rows_from
rising_from c before m zero up i j l n o = absurd (omega arith)
rising_from c before m (suc k) up i j l n o =
    go (dec_le (suc m) i) (dec_le (suc m) j) (rising_from c (key (row_at c m)) (suc m) k up.1 i j)
    (above_first c (get_or c.symbol m 0) _ (suc m) k up.1 j)
  where
    go : Dec (suc m ≤ i) → Dec (suc m ≤ j) → (suc m ≤ i → i ≤ j → j < suc m + k → get_or c.symbol i 0 ≤ get_or c.symbol j 0)
        → (suc m ≤ j → j < suc m + k → get_or c.symbol m 0 ≤ get_or c.symbol j 0) → get_or c.symbol i 0 ≤ get_or c.symbol j 0
    go (yes later) d rest first = rest later n (omega arith)
    go (no here) (yes later) rest first = let same : i ≡ m = omega arith in rw same (first later (omega arith))
    go (no here) (no there) rest first = let same : i ≡ j = omega arith in rw same (omega arith)

pub rising : (c : Columns) (before : List ℕ) (count : ℕ) → Ascending before (rows_from c 0 count) → Rising c.symbol count
rising c before count up i j l n = rising_from c before 0 count up i j (omega arith) l (omega arith)

-- the transitions of one symbol stand from its beginning up to the next symbol's
module _ (symbol : List ℕ) (count s from to : ℕ) (begins : Begins symbol count s from) (ends : Begins symbol count (s + 1) to) where
  pub range_ordered : from ≤ to
  range_ordered = go (dec_le from to)
    where
      go : Dec (from ≤ to) → from ≤ to
      go (yes l) = l
      go (no l) =
          let within = begins.within in
          let less = begins.below to (omega arith) in
          let more = ends.above to (omega arith) (omega arith) in
          absurd (omega arith)

  pub range_symbol : (j : ℕ) → from ≤ j → j < to → get_or symbol j 0 ≡ s
  range_symbol j l m =
      let within = ends.within in
      let less = ends.below j m in
      let more = begins.above j l (omega arith) in
      omega arith
