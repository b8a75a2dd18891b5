-- The lists of the index: each use of a state stands in the state's region, and each number there is a use.
use Prim.Native.Nat.{ℕ, zero, suc, ◌+◌, ◌-◌, ◌≤◌, ◌<◌}
use mathlib.Core.Bool.{true}
use mathlib.Core.List.{List, [], ◌∷◌, Memᴰ}
use mathlib.Core.Path.{◌≡◌, refl, sym, ap, ◌∙◌, subst}
use native.Mathlib.Decide.{dec_lt}
use native.Mathlib.Omega.{arith}
use lib.ListN.{length, get_or, take}
use lib.Seq.{get_or-take, get_or-drop, slice}
use Rattle.model.specs.Table.{Each}
use Rattle.theory.specs.declared.Direction.{Direction}
use Rattle.theory.specs.declared.Direction.TheVariants.{Backward as backward, Forward as forward}
use Rattle.model.proofs.Each.{each_at}
use Rattle.uses.specs.Numbers.{limit, numbers_of, chosen, is_use_of, total_below, start_of, Indexed}
use Rattle.uses.specs.Places.{each_number, number_met, each_chosen, met_chosen}
use Rattle.uses.specs.Theory.{row_for}
use Rattle.tables.specs.Rows.{Row}
use Rattle.uses.specs.Lists.{start, listed}
use Rattle.uses.specs.Tables.{IndexOf, ListsUses}
use Rattle.uses.specs.declared.Uses.{Uses}
use Rattle.tables.specs.declared.TableRecord.{TableRecord}

-- where a member stands
met_at : (us : List ℕ) {u : ℕ} → Memᴰ u us → (m : ℕ) × (m < length us) × (get_or us m 0 ≡ u)
met_at [] {u = u} x = elim x [ ]
met_at (v ∷ us) (Memᴰ.head e) = (0, omega arith, sym e)
met_at (v ∷ us) (Memᴰ.tail n) = let r = met_at us n in (suc r.0, omega (arith, r.1), r.2)

-- where a place below the sum of sizes lies
located_in : (size : ℕ → ℕ) (n i : ℕ) → i < total_below size n → (p : ℕ) × (p < n) × (total_below size p ≤ i) × (i < total_below size (suc p))
unfolding total_below
located_in size zero i h = absurd (omega arith)
located_in size (suc n) i h = go (dec_lt i (total_below size n)) (located_in size n i)
  where
    go : Dec (i < total_below size n) → (i < total_below size n → (p : ℕ) × (p < n) × (total_below size p ≤ i) × (i < total_below size p + size p)) → (p : ℕ) × (p < suc n) × (total_below size p ≤ i) × (i < total_below size p + size p)
    go (yes l) ih = let r = ih l in (r.0, omega (arith, r.1), r.2, r.3)
    go (no l) ih = (n, omega arith, omega arith, h)

slice_at : (f t m : ℕ) (l : List ℕ) → f + m < t → get_or (slice f t l) m 0 ≡ get_or l (f + m) 0
slice_at f t m l h = get_or-drop f (take t l) m 0 ∙ get_or-take t l (f + m) 0 h

module _ {lists : ℕ → List ℕ} {starts list : List ℕ} (index : Indexed lists starts list) where
  ends : (p : ℕ) → start_of lists (suc p) ≡ start_of lists p + length (lists p)
  unfolding total_below
  ends p = refl

  -- the region of p has p's list
  pub listed_is : (p : ℕ) → p < 256 → listed starts list p ≡ lists p
  listed_is p l = rw (index.begin p (omega arith), index.begin (suc p) l) (index.there p l)

  in_region : (p u m : ℕ) → p < 256 → m < length (lists p) → get_or (lists p) m 0 ≡ u → (i : ℕ) × (start starts p ≤ i) × (i < start starts (suc p)) × (get_or list i 0 ≡ u)
  in_region p u m l h e = (
    start_of lists p + m,
    omega (arith, index.begin p (omega arith)),
    omega (arith, index.begin (suc p) l, ends p),
    sym (slice_at (start_of lists p) (start_of lists (suc p)) m list (omega (arith, ends p))) ∙ ap (λ (us : List ℕ). get_or us m 0) (index.there p l) ∙ e,
  )

  -- what holds of each member of each list holds of each number in the regions
  each_listed : (P : ℕ → Type 0) → ((p : ℕ) → p < 256 → Each P (lists p)) → (i : ℕ) → i < start starts 256 → P (get_or list i 0)
  each_listed P h i l =
      let r = located_in (λ p. length (lists p)) 256 i (rw (index.begin 256 (omega arith)) at l) in
      let m = i - start_of lists r.0 in
      let place : start_of lists r.0 + m ≡ i = omega (arith, r.2) in
      let short : m < length (lists r.0) = omega (arith, r.2, r.3, ends r.0) in
      subst P (sym (ap (λ (us : List ℕ). get_or us m 0) (index.there r.0 r.1)) ∙ slice_at (start_of lists r.0) (start_of lists (suc r.0)) m list (omega (arith, r.3)) ∙ ap (λ (x : ℕ). get_or list x 0) place)
      (each_at P (lists r.0) m 0 (h r.0 r.1) short)

module _ (t : TableRecord) (d : Direction) (side : Uses) (index : IndexOf d t side) where
  -- a use of p is listed in p's region
  pub use_listed : (p u : ℕ) → p < 256 → u < limit d t.count → is_use_of d t.ranks t.symbol t.children t.target p u ≡ true
      → (i : ℕ) × (start side.starts p ≤ i) × (i < start side.starts (suc p)) × (get_or side.list i 0 ≡ u)
  use_listed p u l h e =
      let own = is_use_of d t.ranks t.symbol t.children t.target p in
      let r = met_at (chosen own (numbers_of d t.count)) (met_chosen own (numbers_of d t.count) (number_met d t.count u h) e) in
      in_region index p u r.0 l r.1 r.2

  pub uses_listed : ((j : ℕ) → j < t.count → Row t.ranks t.symbol j) → ListsUses d t side
  uses_listed row = record {
    ascend = λ p l. omega (arith, index.begin p (omega arith), index.begin (suc p) l, ends index p);
    few = omega (arith, index.begin 256 (omega arith), index.few);
    starts_long = index.starts_long;
    list_long = index.list_long;
    rows = each_listed index (λ u. Row t.ranks t.symbol (row_for d u)) (λ p l. each_chosen _ _ (numbers_of d t.count) (each_number _ d t.count (λ u h. row (row_for d u) (of_row d u h))));
  }
    where
      of_row : (d : Direction) (u : ℕ) → u < limit d t.count → row_for d u < t.count
      of_row backward u h = h
      of_row forward u h = omega arith
