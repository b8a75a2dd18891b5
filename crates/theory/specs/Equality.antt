-- Types whose equality is a test that computes: numbers, lists of numbers, pairs.
use Rattle.std.specs.Prelude.{◌≡◌, refl, ◌⊎◌, ◌≢◌, Bool, true, false, ◌&&◌, List, [], ◌∷◌, ◌++◌, ℕ, T, eqb}
use Rattle.std.proofs.Common.{sym, ap, ap₂, subst, ◌∙◌, inl, inr, eqb→eq}
use Rattle.std.proofs.Math.Bool.{and-true, and-false, and_assoc}
use Rattle.std.proofs.Math.Facts.{yes_and}
use store.Enc.{and_l, and_r}
use Rattle.std.proofs.Math.Dec.{eqb_refl}

-- a test that holds of equal members of a type and of no others
pub record Equality (K : Type 0) : Type 0 where
  pub same : K → K → Bool
  pub same_equal : (a b : K) → T (same a b) → a ≡ b
  pub same_self : (a : K) → T (same a a)

pub true_of : (c : Bool) → T c → c ≡ true
true_of true t = refl
true_of false t = absurd t

pub not_both : (c : Bool) → c ≡ true → c ≡ false → ⊥
not_both c t f = subst T (sym t ∙ f) tt

pub of_true : (c : Bool) → c ≡ true → T c
of_true c e = subst T (sym e) tt

-- tests that hold together are equal
pub test_iff : (c d : Bool) → (T c → T d) → (T d → T c) → c ≡ d
test_iff true true f g = refl
test_iff true false f g = absurd (f tt)
test_iff false true f g = absurd (g tt)
test_iff false false f g = refl

module _ {K : Type 0} (E : Equality K) where
  pub same_true : (a : K) → E.same a a ≡ true
  same_true a = true_of (E.same a a) (E.same_self a)

  pub equal_same : (a b : K) → a ≡ b → T (E.same a b)
  equal_same a b e = subst (λ x. T (E.same a x)) e (E.same_self a)

  -- two members are equal, or the test fails
  pub equal_or_not : (a b : K) → (a ≡ b) ⊎ (E.same a b ≡ false)
  equal_or_not a b = go (E.same a b) refl
    where
      go : (c : Bool) → E.same a b ≡ c → (a ≡ b) ⊎ (E.same a b ≡ false)
      go true e = inl (E.same_equal a b (of_true (E.same a b) e))
      go false e = inr e

  pub same_false : (a b : K) → a ≢ b → E.same a b ≡ false
  same_false a b h = elim (equal_or_not a b) [ inl e ↦ absurd (h e) | inr e ↦ e ]

  pub false_differ : (a b : K) → E.same a b ≡ false → a ≢ b
  false_differ a b n e = subst T n (equal_same a b e)

  pub same_comm : (a b : K) → E.same a b ≡ E.same b a
  same_comm a b = go (equal_or_not a b)
    where
      go : (a ≡ b) ⊎ (E.same a b ≡ false) → E.same a b ≡ E.same b a
      go (inl e) = rw e
      go (inr e) = e ∙ sym (same_false b a (λ d. false_differ a b e (sym d)))

abbrev pub numbers : Equality ℕ
numbers = record { same = eqb; same_equal = eqb→eq; same_self = eqb_refl }

-- two lists of numbers are the same
abbrev pub same_list : List ℕ → List ℕ → Bool
same_list [] [] = true
same_list [] (y ∷ ys) = false
same_list (x ∷ xs) [] = false
same_list (x ∷ xs) (y ∷ ys) = eqb x y && same_list xs ys

pub same_list_equal : (xs ys : List ℕ) → T (same_list xs ys) → xs ≡ ys
same_list_equal [] [] t = refl
same_list_equal [] (y ∷ ys) t = absurd t
same_list_equal (x ∷ xs) [] t = absurd t
same_list_equal (x ∷ xs) (y ∷ ys) t =
    ap₂ ◌∷◌ (eqb→eq x y (and_l (eqb x y) (same_list xs ys) t)) (same_list_equal xs ys (and_r (eqb x y) (same_list xs ys) t))

pub same_list_self : (xs : List ℕ) → T (same_list xs xs)
same_list_self [] = tt
same_list_self (x ∷ xs) = yes_and (eqb x x) (same_list xs xs) (eqb_refl x) (same_list_self xs)

-- lists with a last entry
empty_last : (ys : List ℕ) (y : ℕ) → (same_list [] (ys ++ (y ∷ [])) ≡ false) × (same_list (ys ++ (y ∷ [])) [] ≡ false)
empty_last [] y = (refl, refl)
empty_last (x ∷ ys) y = (refl, refl)

pub same_list_last : (xs ys : List ℕ) (x y : ℕ) → same_list (xs ++ (x ∷ [])) (ys ++ (y ∷ [])) ≡ (same_list xs ys && eqb x y)
same_list_last [] [] x y = and-true (eqb x y)
same_list_last [] (z ∷ ys) x y = ap (◌&&◌ (eqb x z)) (empty_last ys y).0 ∙ and-false (eqb x z)
same_list_last (z ∷ xs) [] x y = ap (◌&&◌ (eqb z y)) (empty_last xs x).1 ∙ and-false (eqb z y)
same_list_last (z ∷ xs) (w ∷ ys) x y = ap (◌&&◌ (eqb z w)) (same_list_last xs ys x y) ∙ sym (and_assoc (eqb z w) (same_list xs ys) (eqb x y))

abbrev pub lists : Equality (List ℕ)
lists = record { same = same_list; same_equal = same_list_equal; same_self = same_list_self }

-- pairs, part by part
abbrev pub pairs : {A B : Type 0} → Equality A → Equality B → Equality (A × B)
pairs E F = record {
  same = λ x y. E.same x.0 y.0 && F.same x.1 y.1;
  same_equal = λ x y t. λ i. (
    E.same_equal x.0 y.0 (and_l (E.same x.0 y.0) (F.same x.1 y.1) t) i,
    F.same_equal x.1 y.1 (and_r (E.same x.0 y.0) (F.same x.1 y.1) t) i,
  );
  same_self = λ x. yes_and (E.same x.0 x.0) (F.same x.1 x.1) (E.same_self x.0) (F.same_self x.1);
}
