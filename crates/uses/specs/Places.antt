-- The numbers of uses, listed place by place: they are those below the limit, and a sum over them goes by transitions as well.
use Rattle.std.specs.Prelude.{ℕ, zero, suc, ◌+◌, ◌/◌, ◌%◌, ◌≤◌, ◌<◌, Bool, true, false, cond, ◌≡◌, refl}
use mathlib.Core.List.Memᴰ
use mathlib.Core.List.{List, [], ◌∷◌, map, flat_map, Memᴰ}
use Rattle.std.proofs.Common.{sym, ap, ◌∙◌, arith}
use Rattle.std.proofs.Math.Decide.{ℕ_discrete}
use Rattle.model.specs.Table.{Each}
use Rattle.theory.specs.Below.{up_from, below, each_below}
use Rattle.theory.specs.declared.Direction.{Direction}
use Rattle.theory.specs.declared.Direction.TheVariants.{Backward as backward, Forward as forward}
use Rattle.model.proofs.Each.{each_implies, each_map, each-flat_map}
use Rattle.theory.specs.Semiring.{Operations, Laws}
use Rattle.theory.specs.Sum.{only, sum, sum_same, sum-map, sum-flat_map, sum-exchange, zero_plus}
use Rattle.uses.specs.Numbers.{places, number_at, limit, at_place, numbers_of, chosen}

number_below : (d : Direction) (count k j : ℕ) → k < places d → j < count → number_at d k j < limit d count
number_below backward count k j l m = omega arith
number_below forward count k j l m = omega arith

-- what holds of each number below the limit holds of each number listed
pub each_number : (P : ℕ → Type 0) (d : Direction) (count : ℕ) → ((u : ℕ) → u < limit d count → P u) → Each P (numbers_of d count)
unfolding numbers_of
each_number P d count h = each-flat_map P (at_place d count) (below (places d)) (each_implies (λ k. k < places d) _ (λ k l. each_map P (number_at d k) (below count)
    (each_implies (λ j. j < count) _ (λ j m. h (number_at d k j) (number_below d count k j l m)) (below count) (each_below count))) (below (places d)) (each_below (places d)))

met-up_from : (i n q : ℕ) → i ≤ q → q < i + n → Memᴰ q (up_from i n)
met-up_from i zero q l h = absurd (omega arith)
met-up_from i (suc n) q l h = go (ℕ_discrete q i) (met-up_from (suc i) n q)
  where
    go : Dec (q ≡ i) → (suc i ≤ q → q < suc i + n → Memᴰ q (up_from (suc i) n)) → Memᴰ q (up_from i (suc n))
    go (yes e) ih = Memᴰ.head e
    go (no d) ih = Memᴰ.tail (ih (omega arith) (omega arith))

met-map : (f : ℕ → ℕ) {x : ℕ} {xs : List ℕ} → Memᴰ x xs → Memᴰ (f x) (map f xs)
met-map f (Memᴰ.head e) = Memᴰ.head (ap f e)
met-map f (Memᴰ.tail m) = Memᴰ.tail (met-map f m)

met-flat_map : (f : ℕ → List ℕ) {x y : ℕ} (xs : List ℕ) → Memᴰ x xs → Memᴰ y (f x) → Memᴰ y (flat_map f xs)
unfolding flat_map
met-flat_map f {y = y} [] x3 m = elim x3 [ ]
met-flat_map f (x ∷ xs) (Memᴰ.head e) m = Memᴰ.append_left (flat_map f xs) (rw e at m)
met-flat_map f (x ∷ xs) (Memᴰ.tail n) m = Memᴰ.append_right (f x) (met-flat_map f xs n m)

-- each number below the limit is listed
pub number_met : (d : Direction) (count u : ℕ) → u < limit d count → Memᴰ u (numbers_of d count)
unfolding numbers_of
number_met backward count u l = met-flat_map (at_place backward count) (below 1) (met-up_from 0 1 0 (omega arith) (omega arith)) (Memᴰ.cast (omega arith) (met-map (number_at backward 0) (met-up_from 0 count u (omega arith) (omega arith))))
number_met forward count u l = met-flat_map (at_place forward count) (below 4) (met-up_from 0 4 (u % 4) (omega arith) (omega arith)) (Memᴰ.cast (omega arith) (met-map (number_at forward (u % 4)) (met-up_from 0 count (u / 4) (omega arith) (omega arith))))

-- a sum over the numbers, by transitions and their places
pub sum_numbers : (S : Operations) (L : Laws S) (d : Direction) (count : ℕ) (f : ℕ → S.Carrier)
    → sum S (numbers_of d count) f ≡ sum S (below count) (λ j. sum S (below (places d)) (λ k. f (number_at d k j)))
unfolding numbers_of
sum_numbers S L d count f = sum-flat_map S L (at_place d count) (below (places d)) f ∙ sum_same S (below (places d)) _ _ (λ k. sum-map S (number_at d k) (below count) f)
    ∙ sum-exchange S L (below (places d)) (below count) (λ k j. f (number_at d k j))

-- what holds of each number that is chosen
pub each_chosen : (test : ℕ → Bool) (P : ℕ → Type 0) (us : List ℕ) → Each P us → Each P (chosen test us)
each_chosen test P [] m = tt
each_chosen test P (u ∷ us) m = go (test u) (each_chosen test P us m.1)
  where
    go : (c : Bool) → Each P (chosen test us) → Each P (cond c (u ∷ chosen test us) (chosen test us))
    go true rest = (m.0, rest)
    go false rest = rest

-- a number that passes the test is chosen
pub met_chosen : (test : ℕ → Bool) {u : ℕ} (us : List ℕ) → Memᴰ u us → test u ≡ true → Memᴰ u (chosen test us)
met_chosen test {u = u} [] x'' t = elim x'' [ ]
met_chosen test (v ∷ us) (Memᴰ.head e) t = let here : test v ≡ true = rw (sym e) t in rw here (Memᴰ.head e)
met_chosen test {u} (v ∷ us) (Memᴰ.tail m) t = go (test v) (met_chosen test us m t)
  where
    go : (c : Bool) → Memᴰ u (chosen test us) → Memᴰ u (cond c (v ∷ chosen test us) (chosen test us))
    go true m = Memᴰ.tail m
    go false m = m

-- a sum over those that are chosen
pub sum_chosen : (S : Operations) (L : Laws S) (test : ℕ → Bool) (us : List ℕ) (f : ℕ → S.Carrier) → sum S (chosen test us) f ≡ sum S us (λ u. only S (test u) (f u))
sum_chosen S L test [] f = refl
sum_chosen S L test (u ∷ us) f = go (test u) (sum_chosen S L test us f)
  where
    go : (c : Bool) → sum S (chosen test us) f ≡ sum S us (λ v. only S (test v) (f v))
        → sum S (cond c (u ∷ chosen test us) (chosen test us)) f ≡ S.plus (only S c (f u)) (sum S us (λ v. only S (test v) (f v)))
    go true ih = ap (S.plus (f u)) ih
    go false ih = ih ∙ sym (zero_plus S L _)
