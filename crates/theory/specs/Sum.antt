-- Finite sums in a commutative semiring.
use Rattle.std.specs.Prelude.{◌≡◌, ◌⊎◌, Bool, true, false, not, ◌&&◌, T}
use Rattle.std.proofs.Math.Path.{refl, ap}
use Rattle.std.proofs.Common.{sym, ap₂, ◌∙◌, inl, inr}
use mathlib.Core.List.{List, [], ◌∷◌, ◌++◌, map, flat_map, Memᴰ}
use Rattle.model.specs.Table.{Each}
use Rattle.theory.specs.Semiring.{Operations, Laws}

module _ (S : Operations) where
  open S use {Carrier, zero as 𝟘, one as 𝟙, plus as ◌⊕◌, times as ◌⊗◌}

  infixl 6 ◌⊕◌
  infixl 7 ◌⊗◌
  -- the weight where the test holds, else zero
  abbrev pub only : Bool → Carrier → Carrier
  only true w = w
  only false w = 𝟘

  -- the sum of f over a list
  abbrev pub sum {ℓ} : {A : Type ℓ} → List A → (A → Carrier) → Carrier
  sum [] f = 𝟘
  sum (x ∷ xs) f = f x ⊕ sum xs f

  -- equal summands
  pub sum_same {ℓ} : {A : Type ℓ} (xs : List A) (f g : A → Carrier) → ((x : A) → f x ≡ g x) → sum xs f ≡ sum xs g
  sum_same [] f g h = refl
  sum_same (x ∷ xs) f g h = ap₂ ◌⊕◌ (h x) (sum_same xs f g h)

  -- summands that are equal at the members of the list, of which P holds
  pub sum-each : {A : Type 0} (P : A → Type 0) (xs : List A) → Each P xs → (f g : A → Carrier) → ((x : A) → P x → f x ≡ g x) → sum xs f ≡ sum xs g
  sum-each P [] m f g h = refl
  sum-each P (x ∷ xs) m f g h = ap₂ ◌⊕◌ (h x m.0) (sum-each P xs m.1 f g h)

  -- what holds of zero, of sums and of each summand holds of the sum
  pub sum_holds : (P : Carrier → Type 0) → P 𝟘 → ((u v : Carrier) → P u → P v → P (u ⊕ v))
      → {A : Type 0} (Q : A → Type 0) (xs : List A) → Each Q xs → (f : A → Carrier) → ((x : A) → Q x → P (f x)) → P (sum xs f)
  sum_holds P z s Q [] m f h = z
  sum_holds P z s Q (x ∷ xs) m f h = s (f x) (sum xs f) (h x m.0) (sum_holds P z s Q xs m.1 f h)

  pub only_holds : (P : Carrier → Type 0) → P 𝟘 → (c : Bool) (w : Carrier) → P w → P (only c w)
  only_holds P z true w h = h
  only_holds P z false w h = z

  pub sum-map {ℓ κ} : {A : Type ℓ} {B : Type κ} (g : A → B) (xs : List A) (f : B → Carrier) → sum (map g xs) f ≡ sum xs (λ x. f (g x))
  sum-map g [] f = refl
  sum-map g (x ∷ xs) f = ap (◌⊕◌ (f (g x))) (sum-map g xs f)

  -- the laws of `only`
  pub only_zero : (c : Bool) → only c 𝟘 ≡ 𝟘
  only_zero true = refl
  only_zero false = refl

  pub only_and : (c d : Bool) (w : Carrier) → only (c && d) w ≡ only c (only d w)
  only_and true d w = refl
  only_and false d w = refl

  pub only_comm : (c d : Bool) (w : Carrier) → only c (only d w) ≡ only d (only c w)
  only_comm true d w = refl
  only_comm false d w = sym (only_zero d)

  pub only_not : (c : Bool) (w : Carrier) → only (not c) (only c w) ≡ 𝟘
  only_not true w = refl
  only_not false w = refl

  module _ (L : Laws S) where
    open L use {plus_comm, plus_assoc, plus_zero, times_comm, times_one, times_zero, times_plus}

    -- the laws of the semiring from the other side
    pub zero_plus : (u : Carrier) → 𝟘 ⊕ u ≡ u
    zero_plus u = plus_comm 𝟘 u ∙ plus_zero u

    pub zero_times : (u : Carrier) → 𝟘 ⊗ u ≡ 𝟘
    zero_times u = times_comm 𝟘 u ∙ times_zero u

    pub plus_left_comm : (u v w : Carrier) → u ⊕ (v ⊕ w) ≡ v ⊕ (u ⊕ w)
    plus_left_comm u v w = rw (← plus_assoc u v w, plus_comm u v) (plus_assoc v u w)

    pub plus_four : (u v w x : Carrier) → (u ⊕ v) ⊕ (w ⊕ x) ≡ (u ⊕ w) ⊕ (v ⊕ x)
    plus_four u v w x = simp (plus_assoc, plus_left_comm v w x)

    pub sum-zero {ℓ} : {A : Type ℓ} (xs : List A) → sum xs (λ x. 𝟘) ≡ 𝟘
    sum-zero [] = refl
    sum-zero (x ∷ xs) = zero_plus _ ∙ sum-zero xs

    pub sum-plus {ℓ} : {A : Type ℓ} (xs : List A) (f g : A → Carrier) → sum xs (λ x. f x ⊕ g x) ≡ sum xs f ⊕ sum xs g
    sum-plus [] f g = sym (plus_zero 𝟘)
    sum-plus (x ∷ xs) f g = ap (◌⊕◌ (f x ⊕ g x)) (sum-plus xs f g) ∙ plus_four (f x) (g x) (sum xs f) (sum xs g)

    -- a factor goes into a sum, from the left and from the right
    pub times-sum {ℓ} : {A : Type ℓ} (u : Carrier) (xs : List A) (f : A → Carrier) → u ⊗ sum xs f ≡ sum xs (λ x. u ⊗ f x)
    times-sum u [] f = times_zero u
    times-sum u (x ∷ xs) f = times_plus u (f x) (sum xs f) ∙ ap (◌⊕◌ (u ⊗ f x)) (times-sum u xs f)

    pub sum-times {ℓ} : {A : Type ℓ} (xs : List A) (f : A → Carrier) (u : Carrier) → sum xs f ⊗ u ≡ sum xs (λ x. f x ⊗ u)
    sum-times xs f u = times_comm (sum xs f) u ∙ times-sum u xs f ∙ sum_same xs _ _ (λ x. times_comm u (f x))

    -- a product of two sums is the sum of the products
    pub sum-times-sum {ℓ κ} : {A : Type ℓ} {B : Type κ} (xs : List A) (ys : List B) (f : A → Carrier) (g : B → Carrier)
        → sum xs f ⊗ sum ys g ≡ sum xs (λ x. sum ys (λ y. f x ⊗ g y))
    sum-times-sum xs ys f g = sum-times xs f (sum ys g) ∙ sum_same xs _ _ (λ x. times-sum (f x) ys g)

    -- two sums change places
    pub sum-exchange {ℓ κ} : {A : Type ℓ} {B : Type κ} (xs : List A) (ys : List B) (f : A → B → Carrier)
        → sum xs (λ x. sum ys (f x)) ≡ sum ys (λ y. sum xs (λ x. f x y))
    sum-exchange [] ys f = sym (sum-zero ys)
    sum-exchange (x ∷ xs) ys f = ap (◌⊕◌ (sum ys (f x))) (sum-exchange xs ys f) ∙ sym (sum-plus ys (f x) (λ y. sum xs (λ x. f x y)))

    pub sum-append {ℓ} : {A : Type ℓ} (xs ys : List A) (f : A → Carrier) → sum (xs ++ ys) f ≡ sum xs f ⊕ sum ys f
    sum-append [] ys f = sym (zero_plus _)
    sum-append (x ∷ xs) ys f = ap (◌⊕◌ (f x)) (sum-append xs ys f) ∙ sym (plus_assoc (f x) (sum xs f) (sum ys f))

    pub sum-flat_map {ℓ κ} : {A : Type ℓ} {B : Type κ} (g : A → List B) (xs : List A) (f : B → Carrier) → sum (flat_map g xs) f ≡ sum xs (λ x. sum (g x) f)
    unfolding flat_map
    sum-flat_map g [] f = refl
    sum-flat_map g (x ∷ xs) f = sum-append (g x) (flat_map g xs) f ∙ ap (◌⊕◌ (sum (g x) f)) (sum-flat_map g xs f)

    pub only_times : (c : Bool) (w u : Carrier) → only c w ⊗ u ≡ only c (w ⊗ u)
    only_times true w u = refl
    only_times false w u = zero_times u

    pub times_only : (c : Bool) (u w : Carrier) → u ⊗ only c w ≡ only c (u ⊗ w)
    times_only true u w = refl
    times_only false u w = times_zero u

    pub times_only_one : (c : Bool) (u : Carrier) → u ⊗ only c 𝟙 ≡ only c u
    times_only_one c u = times_only c u 𝟙 ∙ ap (only c) (times_one u)

    pub only_times_only : (c d : Bool) (u v : Carrier) → only c u ⊗ only d v ≡ only (c && d) (u ⊗ v)
    only_times_only true d u v = times_only d u v
    only_times_only false d u v = zero_times (only d v)

    pub only_sum {ℓ} : {A : Type ℓ} (c : Bool) (xs : List A) (f : A → Carrier) → only c (sum xs f) ≡ sum xs (λ x. only c (f x))
    only_sum true xs f = refl
    only_sum false xs f = sym (sum-zero xs)

    -- a member passes the test, or the selected sum is zero
    pub sum-met : {A : Type 0} (xs : List A) (f : A → Bool) (w : A → Carrier) → ((x : A) × Memᴰ x xs × T (f x)) ⊎ (sum xs (λ x. only (f x) (w x)) ≡ 𝟘)
    sum-met [] f w = inr refl
    sum-met {A} (x ∷ xs) f w = go (f x) (λ t. t) (sum-met xs f w)
      where
        go : (c : Bool) → (T c → T (f x)) → ((y : A) × Memᴰ y xs × T (f y)) ⊎ (sum xs (λ y. only (f y) (w y)) ≡ 𝟘)
            → ((y : A) × Memᴰ y (x ∷ xs) × T (f y)) ⊎ (only c (w x) ⊕ sum xs (λ y. only (f y) (w y)) ≡ 𝟘)
        go true h r = inl (x, Memᴰ.head refl, h tt)
        go false h (inl r) = inl (r.0, Memᴰ.tail r.1, r.2)
        go false h (inr e) = inr (zero_plus _ ∙ e)

    -- a sum of products with selected sums, in the other order
    pub sum-exchange-only {ℓ κ} : {A : Type ℓ} {B : Type κ} (xs : List A) (ys : List B) (e : A → B → Bool) (w : A → Carrier) (h : B → Carrier)
        → sum xs (λ x. w x ⊗ sum ys (λ y. only (e x y) (h y))) ≡ sum ys (λ y. sum xs (λ x. only (e x y) (w x)) ⊗ h y)
    sum-exchange-only xs ys e w h =
        sum_same xs _ _ (λ x. times-sum (w x) ys (λ y. only (e x y) (h y))
        ∙ sum_same ys _ _ (λ y. times_only (e x y) (w x) (h y) ∙ sym (only_times (e x y) (w x) (h y))))
        ∙ sum-exchange xs ys (λ x y. only (e x y) (w x) ⊗ h y)
        ∙ sum_same ys _ _ (λ y. sym (sum-times xs (λ x. only (e x y) (w x)) (h y)))
