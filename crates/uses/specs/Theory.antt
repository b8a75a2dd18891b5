-- The theory's uses of a table are the numbered ones, so that a sum over the uses of a state is a sum over the state's list.
use Rattle.std.specs.Prelude.{ℕ, zero, suc, ◌+◌, ◌*◌, ◌/◌, ◌%◌, ◌≤◌, ◌<◌, Bool, true, false, ◌&&◌, ◌∷◌, map, ◌≡◌, refl, ltb, eqb, get_or, drop}
use Rattle.std.proofs.Math.Path.{sym, ap}
use Rattle.std.proofs.Common.{ap₂, ◌∙◌, ltb-true, lt-ltb, get_or-take, get_or-drop}
use native.Mathlib.Omega.{arith}
use Rattle.std.proofs.Math.ListN.{length}
use Rattle.model.specs.Table.{Each}
use Rattle.tables.specs.Record.{Columns, row_at, rows_from}
use Rattle.theory.specs.Arithmetic.{arithmetic, Weight, meaning}
use Rattle.theory.specs.Below.{up_from, below, each_below}
use Rattle.theory.specs.declared.Direction.{Direction}
use Rattle.theory.specs.declared.Direction.TheVariants.{Backward as backward, Forward as forward}
use Rattle.model.proofs.Each.{each_implies, each_map, each-flat_map}
use Rattle.theory.specs.Profile.{Use, counted}
use Rattle.theory.specs.Semiring.{Operations, Laws}
use Rattle.theory.specs.Sum.{only, sum, sum_same, sum-each, sum-map, sum-flat_map, only_comm, zero_plus}
use Rattle.theory.specs.Uses.{uses, use_into, use_at}
use Rattle.uses.specs.Numbers.{places, number_at, limit, use_test, state_of, numbers_of, is_use_of, uses_of}
use Rattle.uses.specs.Places.{sum_numbers, sum_chosen}
use Rattle.theory.proofs.Laws.{laws}

-- the transition that the use u is of
abbrev pub row_for : Direction → ℕ → ℕ
row_for backward u = u
row_for forward u = u / 4

-- the theory's use with the number u
abbrev pub use_of : (a : ℕ) → Direction → Columns → ℕ → Use (Weight a)
use_of a backward c u = use_into a (row_at c u)
use_of a forward c u = use_at a (row_at c (u / 4)) (u % 4)

-- the rank of transition j's symbol
abbrev pub rank_at : Columns → ℕ → ℕ
rank_at c j = get_or c.ranks (get_or c.symbol j 0) 0

-- each transition has as many children as its symbol's rank, at most 4
abbrev pub Ranked : Columns → ℕ → Type 0
Ranked c count = (j : ℕ) → j < count → (length (row_at c j).children ≡ rank_at c j) × (rank_at c j ≤ 4)

rows_numbered : (c : Columns) (i n : ℕ) → rows_from c i n ≡ map (row_at c) (up_from i n)
unfolding rows_from
rows_numbered c i zero = refl
rows_numbered c i (suc n) = ap (◌∷◌ (row_at c i)) (rows_numbered c (suc i) n)

-- a sum over the first r of four places
sum_first : (S : Operations) (L : Laws S) (r : ℕ) (f : ℕ → S.Carrier) → r ≤ 4 → sum S (below r) f ≡ sum S (below 4) (λ k. only S (ltb k r) (f k))
sum_first S L zero f l = simp (zero_plus S L)
sum_first S L (suc zero) f l = simp (zero_plus S L)
sum_first S L (suc (suc zero)) f l = simp (zero_plus S L)
sum_first S L (suc (suc (suc zero))) f l = simp (zero_plus S L)
sum_first S L (suc (suc (suc (suc zero)))) f l = refl
sum_first S L (suc (suc (suc (suc (suc r))))) f l = absurd (omega arith)

-- the place k of transition j
pub place_row : (j k : ℕ) → k < 4 → (j * 4 + k) / 4 ≡ j
place_row j k l = omega arith

pub place_place : (j k : ℕ) → k < 4 → (j * 4 + k) % 4 ≡ k
place_place j k l = omega arith

module _ (a : ℕ) (c : Columns) where
  -- what a number adds to a sum over the uses
  abbrev numbered : Direction → (Use (Weight a) → Weight a) → ℕ → Weight a
  numbered d f u = only (arithmetic a) (use_test d c.ranks c.symbol u) (f (use_of a d c u))

  one_row : (j : ℕ) (f : Use (Weight a) → Weight a) → length (row_at c j).children ≡ rank_at c j → rank_at c j ≤ 4
      → sum (arithmetic a) (map (use_at a (row_at c j)) (below (length (row_at c j).children))) f ≡ sum (arithmetic a) (below 4) (λ k. numbered forward f (number_at forward k j))
  one_row j f many few =
      sum-map (arithmetic a) (use_at a (row_at c j)) (below (length (row_at c j).children)) f
      ∙ ap (λ (r : ℕ). sum (arithmetic a) (below r) (λ k. f (use_at a (row_at c j) k))) many
      ∙ sum_first (arithmetic a) (laws a) (rank_at c j) (λ k. f (use_at a (row_at c j) k)) few
      ∙ sum-each (arithmetic a) (λ k. k < 4) (below 4) (each_below 4) (λ k. only (arithmetic a) (ltb k (rank_at c j)) (f (use_at a (row_at c j) k))) (λ k. numbered forward f (number_at forward k j))
      (λ k l. rw (place_row j k l, place_place j k l))

  by_rows : (d : Direction) (count : ℕ) → Ranked c count → (f : Use (Weight a) → Weight a)
      → sum (arithmetic a) (uses a d (rows_from c 0 count)) f ≡ sum (arithmetic a) (below count) (λ j. sum (arithmetic a) (below (places d)) (λ k. numbered d f (number_at d k j)))
  unfolding uses
  by_rows backward count h f = rw (rows_numbered c 0 count) (sum-map (arithmetic a) (use_into a) (map (row_at c) (below count)) f
      ∙ sum-map (arithmetic a) (row_at c) (below count) _
      ∙ sum_same (arithmetic a) (below count) _ _ (λ j.
      let e : j ≡ number_at backward 0 j = omega arith in
      ap (λ (i : ℕ). f (use_into a (row_at c i))) e ∙ sym ((laws a).plus_zero _)))
  by_rows forward count h f = rw (rows_numbered c 0 count) (sum-flat_map (arithmetic a) (laws a) _ (map (row_at c) (below count)) f
      ∙ sum-map (arithmetic a) (row_at c) (below count) _
      ∙ sum-each (arithmetic a) (λ j. j < count) (below count) (each_below count) _ _ (λ j l. one_row j f (h j l).0 (h j l).1))

  -- what holds of each use by number holds of each of the theory's uses
  pub each_use : (d : Direction) (count : ℕ) → Ranked c count → (P : Use (Weight a) → Type 0) → ((u : ℕ) → u < limit d count → use_test d c.ranks c.symbol u ≡ true → P (use_of a d c u))
      → Each P (uses a d (rows_from c 0 count))
  unfolding uses
  each_use backward count h P own = rw (rows_numbered c 0 count) (each_map P (use_into a) (map (row_at c) (below count)) (each_map _ (row_at c) (below count)
      (each_implies (λ j. j < count) _ (λ j l. own j l refl) (below count) (each_below count))))
  each_use forward count h P own = rw (rows_numbered c 0 count) (each-flat_map P _ (map (row_at c) (below count)) (each_map _ (row_at c) (below count)
      (each_implies (λ j. j < count) _ (λ j l. each_map P (use_at a (row_at c j)) (below (length (row_at c j).children))
      (each_implies (λ k. k < length (row_at c j).children) _ (at_place j l) (below (length (row_at c j).children)) (each_below (length (row_at c j).children)))) (below count) (each_below count))))
    where
      at_place : (j : ℕ) → j < count → (k : ℕ) → k < length (row_at c j).children → P (use_at a (row_at c j) k)
      at_place j l k m =
          let inside : k < rank_at c j = omega (arith, (h j l).0) in
          let small : k < 4 = omega (arith, (h j l).1) in
          rw (place_row j k small, place_place j k small) at (own (j * 4 + k) (omega arith) (rw (place_row j k small, place_place j k small) (lt-ltb k (rank_at c j) inside)))

  -- a use is of the state that the column has at its number
  pub use_state : (d : Direction) (u : ℕ) → use_test d c.ranks c.symbol u ≡ true → (use_of a d c u).state ≡ state_of d c.children c.target u
  use_state backward u e = refl
  use_state forward u e =
      let l = ltb-true (u % 4) (rank_at c (u / 4)) e in
      let here : u / 4 * 4 + u % 4 ≡ u = omega arith in
      get_or-take (rank_at c (u / 4)) (drop (u / 4 * 4) c.children) (u % 4) 0 l ∙ get_or-drop (u / 4 * 4) c.children (u % 4) 0 ∙ ap (λ (i : ℕ). get_or c.children i 0) here

  pub use_weight : (d : Direction) (u : ℕ) → (use_of a d c u).weight ≡ meaning a (get_or c.code (row_for d u) 0)
  use_weight backward u = refl
  use_weight forward u = refl

  -- a sum over the uses of p is a sum over its list
  pub sum_of_state : (d : Direction) (count p : ℕ) → Ranked c count → (g : Use (Weight a) → Bool)
      → sum (arithmetic a) (uses a d (rows_from c 0 count)) (λ v. only (arithmetic a) (g v) (counted (arithmetic a) p v))
      ≡ sum (arithmetic a) (uses_of d count c.ranks c.symbol c.children c.target p) (λ u. only (arithmetic a) (g (use_of a d c u)) (meaning a (get_or c.code (row_for d u) 0)))
  sum_of_state d count p h g =
      by_rows d count h _
      ∙ sym (sum_numbers (arithmetic a) (laws a) d count _)
      ∙ sum_same (arithmetic a) (numbers_of d count) _ _ (λ u. adds u (use_test d c.ranks c.symbol u) refl)
      ∙ sym (sum_chosen (arithmetic a) (laws a) (is_use_of d c.ranks c.symbol c.children c.target p) (numbers_of d count) _)
    where
      adds : (u : ℕ) (t : Bool) → use_test d c.ranks c.symbol u ≡ t
          → only (arithmetic a) t (only (arithmetic a) (g (use_of a d c u)) (counted (arithmetic a) p (use_of a d c u)))
          ≡ only (arithmetic a) (t && eqb (state_of d c.children c.target u) p) (only (arithmetic a) (g (use_of a d c u)) (meaning a (get_or c.code (row_for d u) 0)))
      adds u false e = refl
      adds u true e =
          ap (only (arithmetic a) (g (use_of a d c u))) (ap₂ (λ (s : ℕ) (w : Weight a). only (arithmetic a) (eqb s p) w) (use_state d u e) (use_weight d u))
          ∙ only_comm (arithmetic a) (g (use_of a d c u)) (eqb (state_of d c.children c.target u) p) (meaning a (get_or c.code (row_for d u) 0))
