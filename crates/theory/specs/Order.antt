-- Strict orders that a test decides: of numbers, and of lists as transitions are ordered (document 01, "Bytes").
use Rattle.std.specs.Prelude.{◌≡◌, refl, ◌⊎◌, Bool, true, false, cond, List, [], ◌∷◌, ℕ, ◌<◌, T, ltb, eqb}
use Rattle.std.proofs.Common.{sym, ap₂, ◌∙◌, subst, inl, inr, arith, ltb→lt, lt→ltb}
use Rattle.std.proofs.Math.Decide.{dec_lt}
use Rattle.model.specs.Table.{lower}
use Rattle.theory.specs.Equality.{numbers, equal_or_not, same_true, same_false}

-- a strict order that a test decides
pub record Order (K : Type 0) : Type 0 where
  pub under : K → K → Bool
  pub under_not_self : (j : K) → T (under j j) → ⊥
  pub under_trans : (i j k : K) → T (under i j) → T (under j k) → T (under i k)
  pub under_total : (j k : K) → T (under j k) ⊎ ((j ≡ k) ⊎ T (under k j))

pub ltb_not_self : (j : ℕ) → T (ltb j j) → ⊥
ltb_not_self j t = omega (arith, ltb→lt j j t)

pub ltb_trans : (i j k : ℕ) → T (ltb i j) → T (ltb j k) → T (ltb i k)
ltb_trans i j k s t = lt→ltb i k (omega (arith, ltb→lt i j s, ltb→lt j k t))

pub ltb_total : (j k : ℕ) → T (ltb j k) ⊎ ((j ≡ k) ⊎ T (ltb k j))
ltb_total j k = go (dec_lt j k) (dec_lt k j)
  where
    go : Dec (j < k) → Dec (k < j) → T (ltb j k) ⊎ ((j ≡ k) ⊎ T (ltb k j))
    go (yes l) d = inl (lt→ltb j k l)
    go (no h) (yes l) = inr (inr (lt→ltb k j l))
    go (no h) (no i) = inr (inl (omega arith))

abbrev pub number_order : Order ℕ
number_order = record {
  under = ltb;
  under_not_self = ltb_not_self;
  under_trans = ltb_trans;
  under_total = ltb_total;
}

-- the order of keys: the first place where two lists differ decides
lower_head : (x y : ℕ) (xs ys : List ℕ) → T (ltb x y) → T (lower (x ∷ xs) (y ∷ ys))
lower_head x y xs ys t = subst (λ (c : Bool). T (cond c (lower xs ys) (ltb x y))) (sym (same_false numbers x y (λ e. omega (arith, ltb→lt x y t)))) t

lower_tail : (x : ℕ) (xs ys : List ℕ) → T (lower xs ys) → T (lower (x ∷ xs) (x ∷ ys))
lower_tail x xs ys t = subst (λ (c : Bool). T (cond c (lower xs ys) (ltb x x))) (sym (same_true numbers x)) t

lower_cases : (x y : ℕ) (xs ys : List ℕ) → T (lower (x ∷ xs) (y ∷ ys)) → T (ltb x y) ⊎ ((x ≡ y) × T (lower xs ys))
lower_cases x y xs ys t = go (equal_or_not numbers x y)
  where
    go : (x ≡ y) ⊎ (eqb x y ≡ false) → T (ltb x y) ⊎ ((x ≡ y) × T (lower xs ys))
    go (inl e) = inr (e, subst (λ (c : Bool). T (cond c (lower xs ys) (ltb x y))) (subst (λ (z : ℕ). eqb x z ≡ true) e (same_true numbers x)) t)
    go (inr e) = inl (subst (λ (c : Bool). T (cond c (lower xs ys) (ltb x y))) e t)

pub lower_not_self : (xs : List ℕ) → T (lower xs xs) → ⊥
lower_not_self [] t = t
lower_not_self (x ∷ xs) t = elim (lower_cases x x xs xs t) [ inl s ↦ omega (arith, ltb→lt x x s) | inr r ↦ lower_not_self xs r.1 ]

pub lower_trans : (xs ys zs : List ℕ) → T (lower xs ys) → T (lower ys zs) → T (lower xs zs)
lower_trans [] [] zs s t = absurd s
lower_trans [] (y ∷ ys) [] s t = t
lower_trans [] (y ∷ ys) (z ∷ zs) s t = tt
lower_trans (x ∷ xs) [] zs s t = absurd s
lower_trans (x ∷ xs) (y ∷ ys) [] s t = absurd t
lower_trans (x ∷ xs) (y ∷ ys) (z ∷ zs) s t = go (lower_cases x y xs ys s) (lower_cases y z ys zs t) (lower_trans xs ys zs)
  where
    go : T (ltb x y) ⊎ ((x ≡ y) × T (lower xs ys)) → T (ltb y z) ⊎ ((y ≡ z) × T (lower ys zs)) → (T (lower xs ys) → T (lower ys zs) → T (lower xs zs)) → T (lower (x ∷ xs) (z ∷ zs))
    go (inl l) (inl m) ih = lower_head x z xs zs (lt→ltb x z (omega (arith, ltb→lt x y l, ltb→lt y z m)))
    go (inl l) (inr m) ih = lower_head x z xs zs (lt→ltb x z (omega (arith, ltb→lt x y l, m.0)))
    go (inr l) (inl m) ih = lower_head x z xs zs (lt→ltb x z (omega (arith, l.0, ltb→lt y z m)))
    go (inr l) (inr m) ih = subst (λ (w : ℕ). T (lower (x ∷ xs) (w ∷ zs))) (l.0 ∙ m.0) (lower_tail x xs zs (ih l.1 m.1))

pub lower_total : (xs ys : List ℕ) → T (lower xs ys) ⊎ ((xs ≡ ys) ⊎ T (lower ys xs))
lower_total [] [] = inr (inl refl)
lower_total [] (y ∷ ys) = inl tt
lower_total (x ∷ xs) [] = inr (inr tt)
lower_total (x ∷ xs) (y ∷ ys) = go (ltb_total x y) (lower_total xs ys)
  where
    go : T (ltb x y) ⊎ ((x ≡ y) ⊎ T (ltb y x)) → T (lower xs ys) ⊎ ((xs ≡ ys) ⊎ T (lower ys xs))
        → T (lower (x ∷ xs) (y ∷ ys)) ⊎ ((◌≡◌ {A = List ℕ} (x ∷ xs) (y ∷ ys)) ⊎ T (lower (y ∷ ys) (x ∷ xs)))
    go (inl l) r = inl (lower_head x y xs ys l)
    go (inr (inr l)) r = inr (inr (lower_head y x ys xs l))
    go (inr (inl e)) (inl l) = inl (subst (λ (w : ℕ). T (lower (x ∷ xs) (w ∷ ys))) e (lower_tail x xs ys l))
    go (inr (inl e)) (inr (inl f)) = inr (inl (ap₂ ◌∷◌ e f))
    go (inr (inl e)) (inr (inr l)) = inr (inr (subst (λ (w : ℕ). T (lower (w ∷ ys) (x ∷ xs))) e (lower_tail x ys xs l)))

abbrev pub list_order : Order (List ℕ)
list_order = record { under = lower; under_not_self = lower_not_self; under_trans = lower_trans; under_total = lower_total }
