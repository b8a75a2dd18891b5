-- Sums grouped by keys: a weighted list, summed against a function of its keys, depends only on its sum for each key.
use Rattle.std.specs.Prelude.{◌≡◌, refl, ◌⊎◌, Bool, true, false, not, cond, suc, ◌<◌, ◌≤◌, T, length}
use Rattle.std.proofs.Common.{sym, ap, ap₂, ◌∙◌, subst, inl, inr, arith}
use mathlib.Core.List.Memᴰ
use mathlib.Core.List.{List, [], ◌∷◌, ◌++◌, map, Memᴰ}
use Rattle.model.specs.Table.{Each}
use Rattle.model.proofs.Each.{each_members, each_member}
use Rattle.theory.specs.Equality.{Equality, equal_or_not, equal_same, same_true, false_differ, true_of, test_iff}
use Rattle.theory.specs.Semiring.{Operations, Laws}
use Rattle.theory.specs.Sum.{only, sum, sum_same, sum-each, sum-zero, sum-exchange, sum-times, only_times, only_zero, only_not, times_only_one, zero_plus, sum-met}

-- a list without one key
abbrev pub without : {K : Type 0} → Equality K → K → List K → List K
without E k [] = []
without E k (x ∷ xs) = cond (E.same k x) (without E k xs) (x ∷ without E k xs)

without_few : {K : Type 0} (E : Equality K) (k : K) (l : List K) → length (without E k l) ≤ length l
without_few E k [] = omega arith
without_few E k (x ∷ xs) = go (E.same k x) (without_few E k xs)
  where
    go : (c : Bool) → length (without E k xs) ≤ length xs → length (cond c (without E k xs) (x ∷ without E k xs)) ≤ suc (length xs)
    go true h = omega arith
    go false h = omega arith

pub without_fewer : {K : Type 0} (E : Equality K) (k : K) (l : List K) → Memᴰ k l → length (without E k l) < length l
without_fewer E k [] m = elim m [ ]
without_fewer E k (x ∷ xs) (Memᴰ.head e) = rw (true_of (E.same k x) (equal_same E k x e)) (omega (arith, without_few E k xs))
without_fewer E k (x ∷ xs) (Memᴰ.tail m) = go (E.same k x) (without_fewer E k xs m)
  where
    go : (c : Bool) → length (without E k xs) < length xs → length (cond c (without E k xs) (x ∷ without E k xs)) < suc (length xs)
    go true h = omega arith
    go false h = omega arith

pub without_member : {K : Type 0} (E : Equality K) (k j : K) (l : List K) → E.same k j ≡ false → Memᴰ j l → Memᴰ j (without E k l)
without_member E k j [] n m = elim m [ ]
without_member E k j (x ∷ xs) n (Memᴰ.head e) = let f : E.same k x ≡ false = rw e at n in rw f (Memᴰ.head e)
without_member E k j (x ∷ xs) n (Memᴰ.tail m) = go (E.same k x) (without_member E k j xs n m)
  where
    go : (c : Bool) → Memᴰ j (without E k xs) → Memᴰ j (cond c (without E k xs) (x ∷ without E k xs))
    go true r = r
    go false r = Memᴰ.tail r

-- each key of a list once
abbrev pub distinct : {K : Type 0} → Equality K → List K → List K
distinct E [] = []
distinct E (k ∷ ks) = k ∷ without E k (distinct E ks)

module _ (S : Operations) {K : Type 0} (E : Equality K) where
  open S use {Carrier, zero as 𝟘, plus as ◌⊕◌, times as ◌⊗◌}

  infixl 6 ◌⊕◌
  infixl 7 ◌⊗◌
  -- the sum of the weights w of the members whose key is k
  abbrev pub key_sum : {A : Type 0} → List A → (A → K) → (A → Carrier) → K → Carrier
  key_sum xs κ w k = sum S xs (λ x. only S (E.same (κ x) k) (w x))

  -- the key k stands in the list exactly once: a sum that selects k is what is summed there
  abbrev pub Once : List K → K → Type 0
  Once l k = (h : K → Carrier) → sum S l (λ u. only S (E.same k u) (h u)) ≡ h k

  module _ (L : Laws S) where
    open L use {plus_zero}

    -- sums that are equal for each key of a member are equal for every key
    pub key_sums_met : {A B : Type 0} (xs : List A) (κ : A → K) (w : A → Carrier) (ys : List B) (κ' : B → K) (w' : B → Carrier)
        → Each (λ x. key_sum xs κ w (κ x) ≡ key_sum ys κ' w' (κ x)) xs → Each (λ y. key_sum xs κ w (κ' y) ≡ key_sum ys κ' w' (κ' y)) ys
        → (k : K) → key_sum xs κ w k ≡ key_sum ys κ' w' k
    key_sums_met {A} {B} xs κ w ys κ' w' hx hy k = go (sum-met S L xs (λ x. E.same (κ x) k) w) (sum-met S L ys (λ y. E.same (κ' y) k) w')
      where
        Level : K → Type 0
        Level j = key_sum xs κ w j ≡ key_sum ys κ' w' j

        go : ((x : A) × Memᴰ x xs × T (E.same (κ x) k)) ⊎ (key_sum xs κ w k ≡ 𝟘) → ((y : B) × Memᴰ y ys × T (E.same (κ' y) k)) ⊎ (key_sum ys κ' w' k ≡ 𝟘) → Level k
        go (inl r) s = subst Level (E.same_equal (κ r.0) k r.2) (each_member (λ x. Level (κ x)) xs hx r.1)
        go (inr r) (inl s) = subst Level (E.same_equal (κ' s.0) k s.2) (each_member (λ y. Level (κ' y)) ys hy s.1)
        go (inr r) (inr s) = r ∙ sym s

    sum_without : (k : K) (l : List K) (f : K → Carrier) → sum S (without E k l) f ≡ sum S l (λ u. only S (not (E.same k u)) (f u))
    sum_without k [] f = refl
    sum_without k (x ∷ xs) f = step (E.same k x) ∙ ap (◌⊕◌ (only S (not (E.same k x)) (f x))) (sum_without k xs f)
      where
        step : (c : Bool) → sum S (cond c (without E k xs) (x ∷ without E k xs)) f ≡ only S (not c) (f x) ⊕ sum S (without E k xs) f
        step true = sym (zero_plus S L _)
        step false = refl

    first_once : (k : K) (l : List K) → Once (k ∷ without E k l) k
    first_once k l h =
        ap₂ ◌⊕◌ (ap (λ (c : Bool). only S c (h k)) (same_true E k))
        (sum_without k l _ ∙ sum_same S l _ _ (λ u. only_not S (E.same k u) (h u)) ∙ sum-zero S L l)
        ∙ plus_zero (h k)

    later_once : (j k : K) (l : List K) → E.same j k ≡ false → Once l j → Once (k ∷ without E k l) j
    later_once j k l n o h =
        ap₂ ◌⊕◌ (ap (λ (c : Bool). only S c (h k)) n) (sum_without k l _ ∙ sum_same S l _ _ skip)
        ∙ zero_plus S L _ ∙ o h
      where
        skip : (u : K) → only S (not (E.same k u)) (only S (E.same j u) (h u)) ≡ only S (E.same j u) (h u)
        skip u = go (equal_or_not E k u)
          where
            go : (k ≡ u) ⊎ (E.same k u ≡ false) → only S (not (E.same k u)) (only S (E.same j u) (h u)) ≡ only S (E.same j u) (h u)
            go (inl e) = let f : E.same j u ≡ false = rw e at n in rw f (only_zero S (not (E.same k u)))
            go (inr e) = rw e

    pub distinct_once : (l : List K) (j : K) → Memᴰ j l → Once (distinct E l) j
    distinct_once [] j m = absurd (Memᴰ.not-nil m)
    distinct_once (k ∷ l) j m = go (equal_or_not E j k) (distinct_once l j)
      where
        in_tail : E.same j k ≡ false → Memᴰ j l
        in_tail n = elim (Memᴰ.cases_cons m) [ inl e ↦ absurd (false_differ E j k n e) | inr r ↦ r ]

        go : (j ≡ k) ⊎ (E.same j k ≡ false) → (Memᴰ j l → Once (distinct E l) j) → Once (distinct E (k ∷ l)) j
        go (inl e) ih = subst (Once (distinct E (k ∷ l))) (sym e) (first_once k (distinct E l))
        go (inr n) ih = later_once j k (distinct E l) n (ih (in_tail n))

    -- a sum against a function of the keys is the sum, over a list with each key once, of the sums for that key
    pub sum_regroup : {A : Type 0} (xs : List A) (κ : A → K) (w : A → Carrier) (g : K → Carrier) (U : List K) → Each (λ x. Once U (κ x)) xs
        → sum S xs (λ x. w x ⊗ g (κ x)) ≡ sum S U (λ u. key_sum xs κ w u ⊗ g u)
    sum_regroup xs κ w g U o =
        sum-each S (λ x. Once U (κ x)) xs o _ _ (λ x once. sym (once (λ u. w x ⊗ g u)))
        ∙ sum-exchange S L xs U (λ x u. only S (E.same (κ x) u) (w x ⊗ g u))
        ∙ sum_same S U _ _ (λ u. sum_same S xs _ _ (λ x. sym (only_times S L (E.same (κ x) u) (w x) (g u)))
        ∙ sym (sum-times S L xs (λ x. only S (E.same (κ x) u) (w x)) (g u)))

    -- equal sums for each key give equal sums against each function of the keys
    pub sums_by_key : {A B : Type 0} (xs : List A) (κ : A → K) (w : A → Carrier) (ys : List B) (κ' : B → K) (w' : B → Carrier)
        → ((k : K) → key_sum xs κ w k ≡ key_sum ys κ' w' k)
        → (g : K → Carrier) → sum S xs (λ x. w x ⊗ g (κ x)) ≡ sum S ys (λ y. w' y ⊗ g (κ' y))
    sums_by_key xs κ w ys κ' w' h g =
        let U : List K = distinct E (map κ xs ++ map κ' ys) in
        sum_regroup xs κ w g U (each_members _ xs (λ x m. distinct_once _ _ (Memᴰ.append_left (map κ' ys) (Memᴰ.map κ m))))
        ∙ sum_same S U _ _ (λ u. ap (λ (c : Carrier). c ⊗ g u) (h u))
        ∙ sym (sum_regroup ys κ' w' g U (each_members _ ys (λ y m. distinct_once _ _ (Memᴰ.append_right (map κ xs) (Memᴰ.map κ' m)))))

-- equal sums for each key give equal sums for each key that is a function of theirs
pub key_sums_through : (S : Operations) (L : Laws S) {J K : Type 0} (F : Equality J) (E : Equality K) (f : J → K) {A B : Type 0} (xs : List A) (κ : A → J) (w : A → S.Carrier) (ys : List B) (κ' : B → J) (w' : B → S.Carrier)
    → ((j : J) → key_sum S F xs κ w j ≡ key_sum S F ys κ' w' j) → (k : K) → key_sum S E xs (λ x. f (κ x)) w k ≡ key_sum S E ys (λ y. f (κ' y)) w' k
key_sums_through S L F E f xs κ w ys κ' w' h k =
    sum_same S xs _ _ (λ x. sym (times_only_one S L (E.same (f (κ x)) k) (w x)))
    ∙ sums_by_key S F L xs κ w ys κ' w' h (λ j. only S (E.same (f j) k) S.one)
    ∙ sum_same S ys _ _ (λ y. times_only_one S L (E.same (f (κ' y)) k) (w' y))

-- packed keys: where packing tells the members' keys from j, the sum for j packed is the sum for j
pub key_sum_packed : (S : Operations) {J K : Type 0} (F : Equality J) (E : Equality K) (pack : J → K) {A : Type 0} (xs : List A) (κ : A → J) (w : A → S.Carrier) (j : J)
    → Each (λ x. pack (κ x) ≡ pack j → κ x ≡ j) xs → key_sum S E xs (λ x. pack (κ x)) w (pack j) ≡ key_sum S F xs κ w j
key_sum_packed S F E pack xs κ w j tells = sum-each S (λ x. pack (κ x) ≡ pack j → κ x ≡ j) xs tells _ _ (λ x f. ap (λ (c : Bool). only S c (w x))
    (test_iff (E.same (pack (κ x)) (pack j)) (F.same (κ x) j) (λ t. equal_same F (κ x) j (f (E.same_equal (pack (κ x)) (pack j) t))) (λ t. equal_same E (pack (κ x)) (pack j) (ap pack (F.same_equal (κ x) j t)))))
