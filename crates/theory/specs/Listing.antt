-- Lists of entries with ascending keys: what such a list has for each key decides it, if no entry is zero.
use Rattle.std.specs.Prelude.{◌≡◌, refl, ◌⊎◌, ◌≢◌, Bool, true, false, cond, ◌≤◌, T, length}
use Rattle.std.proofs.Common.{sym, ap, ap₂, ◌∙◌, subst, inl, inr, arith}
use mathlib.Core.List.{List, [], ◌∷◌, Memᴰ}
use Rattle.model.specs.Table.{Each}
use Rattle.theory.specs.Equality.{Equality, equal_or_not, same_true, same_false, same_comm}
use Rattle.theory.specs.Semiring.{Operations, Laws}
use Rattle.theory.specs.Sum.{only, sum, zero_plus}
use Rattle.theory.specs.Grouping.{without, without_fewer, without_member, key_sum}
use Rattle.theory.specs.Order.{Order}

-- Entries X with a key and a value; `none` stands for a value that is not listed.
module _ {X K W : Type 0} (E : Equality K) (O : Order K) (key : X → K) (value : X → W) (none : W) where
  -- each entry is above the one before, the first above k
  abbrev pub Rising : K → List X → Type 0
  Rising k [] = Unit {0}
  Rising k (x ∷ xs) = T (O.under k (key x)) × Rising (key x) xs

  -- what is listed for a key
  abbrev pub listed : List X → K → W
  listed [] k = none
  listed (x ∷ xs) k = cond (E.same (key x) k) (value x) (listed xs k)

  pub rising_above : (j k : K) → T (O.under j k) → (xs : List X) → Rising k xs → Rising j xs
  rising_above j k l [] r = tt
  rising_above j k l (x ∷ xs) r = (O.under_trans j k (key x) l r.0, r.1)

  under_differs : (j k : K) → T (O.under k j) → E.same j k ≡ false
  under_differs j k l = same_false E j k (λ e. O.under_not_self k (subst (λ (i : K). T (O.under k i)) e l))

  pub listed_first : (x : X) (xs : List X) → listed (x ∷ xs) (key x) ≡ value x
  listed_first x xs = ap (λ (c : Bool). cond c (value x) (listed xs (key x))) (same_true E (key x))

  pub listed_skip : (x : X) (xs : List X) (k : K) → E.same (key x) k ≡ false → listed (x ∷ xs) k ≡ listed xs k
  listed_skip x xs k e = ap (λ (c : Bool). cond c (value x) (listed xs k)) e

  -- nothing is listed for a key that is below all entries
  pub listed_below : (k : K) (xs : List X) → Rising k xs → listed xs k ≡ none
  listed_below k [] r = refl
  listed_below k (x ∷ xs) r = listed_skip x xs k (under_differs (key x) k r.0) ∙ listed_below k xs (rising_above k (key x) r.0 xs r.1)

  pub rising_member : (k : K) (xs : List X) → Rising k xs → {x : X} → Memᴰ x xs → T (O.under k (key x))
  rising_member k [] r m = elim m [ ]
  rising_member k (x ∷ xs) r (Memᴰ.head e) = subst (λ (y : X). T (O.under k (key y))) (sym e) r.0
  rising_member k (x ∷ xs) r {x = y} (Memᴰ.tail m) = O.under_trans k (key x) (key y) r.0 (rising_member (key x) xs r.1 m)

  later_differs : (x y : X) → T (O.under (key x) (key y)) → E.same (key x) (key y) ≡ false
  later_differs x y l = same_comm E (key x) (key y) ∙ under_differs (key y) (key x) l

  -- an entry is what is listed for its key
  pub listed_member : (k : K) (xs : List X) → Rising k xs → {x : X} → Memᴰ x xs → listed xs (key x) ≡ value x
  listed_member k [] r m = elim m [ ]
  listed_member k (x ∷ xs) r (Memᴰ.head e) = subst (λ (y : X). listed (x ∷ xs) (key y) ≡ value y) (sym e) (listed_first x xs)
  listed_member k (x ∷ xs) r {x = y} (Memᴰ.tail m) =
      listed_skip x xs (key y) (later_differs x y (rising_member (key x) xs r.1 m)) ∙ listed_member (key x) xs r.1 m

  -- there are no more entries than keys
  pub rising_few : (k : K) (xs : List X) → Rising k xs → (js : List K) → ((x : X) → Memᴰ x xs → Memᴰ (key x) js) → length xs ≤ length js
  rising_few k [] r js h = omega arith
  rising_few k (x ∷ xs) r js h = omega (
    arith,
    without_fewer E (key x) js (h x (Memᴰ.head refl)),
    rising_few (key x) xs r.1 (without E (key x) js)
        (λ y m. without_member E (key x) (key y) js (later_differs x y (rising_member (key x) xs r.1 m)) (h y (Memᴰ.tail m))),
  )

  -- an entry has the key, or nothing is listed for it
  pub listed_met : (k : K) (xs : List X) → ((x : X) × Memᴰ x xs × (key x ≡ k)) ⊎ (listed xs k ≡ none)
  listed_met k [] = inr refl
  listed_met k (x ∷ xs) = go (equal_or_not E (key x) k) (listed_met k xs)
    where
      go : (key x ≡ k) ⊎ (E.same (key x) k ≡ false) → ((y : X) × Memᴰ y xs × (key y ≡ k)) ⊎ (listed xs k ≡ none)
          → ((y : X) × Memᴰ y (x ∷ xs) × (key y ≡ k)) ⊎ (listed (x ∷ xs) k ≡ none)
      go (inl e) r = inl (x, Memᴰ.head refl, e)
      go (inr e) (inl r) = inl (r.0, Memᴰ.tail r.1, r.2)
      go (inr e) (inr n) = inr (listed_skip x xs k e ∙ n)

  -- what holds of each value, and of none, holds of what is listed
  pub listed_holds : (P : W → Type 0) → P none → (xs : List X) → Each (λ x. P (value x)) xs → (k : K) → P (listed xs k)
  listed_holds P z [] m k = z
  listed_holds P z (x ∷ xs) m k = go (E.same (key x) k) (listed_holds P z xs m.1 k)
    where
      go : (c : Bool) → P (listed xs k) → P (cond c (value x) (listed xs k))
      go true h = m.0
      go false h = h

  -- the sum for a key is what is listed for it
  pub sum_listed : (S : Operations) (L : Laws S) (m : W → S.Carrier) → m none ≡ S.zero → (i k : K) (xs : List X) → Rising i xs
      → key_sum S E xs key (λ x. m (value x)) k ≡ m (listed xs k)
  sum_listed S L m z i k [] r = sym z
  sum_listed S L m z i k (x ∷ xs) r = go (equal_or_not E (key x) k) (λ j. sum_listed S L m z (key x) j xs r.1)
    where
      go : (key x ≡ k) ⊎ (E.same (key x) k ≡ false) → ((j : K) → sum S xs (λ y. only S (E.same (key y) j) (m (value y))) ≡ m (listed xs j))
          → sum S (x ∷ xs) (λ y. only S (E.same (key y) k) (m (value y))) ≡ m (listed (x ∷ xs) k)
      go (inl e) ih = subst (λ (j : K). S.plus (only S (E.same (key x) j) (m (value x))) (sum S xs (λ y. only S (E.same (key y) j) (m (value y)))) ≡ m (listed (x ∷ xs) j)) e
          (ap₂ S.plus (ap (λ (c : Bool). only S c (m (value x))) (same_true E (key x))) (ih (key x) ∙ ap m (listed_below (key x) xs r.1) ∙ z)
          ∙ L.plus_zero (m (value x)) ∙ sym (ap m (listed_first x xs)))
      go (inr e) ih = ap (λ (c : Bool). S.plus (only S c (m (value x))) (sum S xs (λ y. only S (E.same (key y) k) (m (value y))))) e
          ∙ zero_plus S L _ ∙ ih k ∙ sym (ap m (listed_skip x xs k e))

  -- lists that list the same for the keys of their entries list the same for each key
  pub listings_met : (xs ys : List X) → ((x : X) → Memᴰ x xs → listed xs (key x) ≡ listed ys (key x)) → ((y : X) → Memᴰ y ys → listed xs (key y) ≡ listed ys (key y))
      → (k : K) → listed xs k ≡ listed ys k
  listings_met xs ys hx hy k = go (listed_met k xs) (listed_met k ys)
    where
      go : ((x : X) × Memᴰ x xs × (key x ≡ k)) ⊎ (listed xs k ≡ none) → ((y : X) × Memᴰ y ys × (key y ≡ k)) ⊎ (listed ys k ≡ none) → listed xs k ≡ listed ys k
      go (inl r) s = subst (λ (j : K). listed xs j ≡ listed ys j) r.2 (hx r.0 r.1)
      go (inr r) (inl s) = subst (λ (j : K). listed xs j ≡ listed ys j) s.2 (hy s.0 s.1)
      go (inr r) (inr s) = r ∙ sym s

  -- Two such lists without zeros that list the same for each key are equal.
  module _ (decided : (x y : X) → key x ≡ key y → value x ≡ value y → x ≡ y) where
    clash : (x : X) (xs ys : List X) → value x ≢ none → Rising (key x) ys → ((k : K) → listed (x ∷ xs) k ≡ listed ys k) → ⊥
    clash x xs ys n r h = n (sym (listed_first x xs) ∙ h (key x) ∙ listed_below (key x) ys r)

    rest : (x y : X) (xs ys : List X) → key x ≡ key y → Rising (key x) xs → Rising (key y) ys
        → ((k : K) → listed (x ∷ xs) k ≡ listed (y ∷ ys) k) → (k : K) → listed xs k ≡ listed ys k
    rest x y xs ys e r s h k = go (equal_or_not E (key x) k)
      where
        go : (key x ≡ k) ⊎ (E.same (key x) k ≡ false) → listed xs k ≡ listed ys k
        go (inl f) = subst (λ (j : K). listed xs j ≡ listed ys j) f (listed_below (key x) xs r ∙ sym (listed_below (key x) ys (subst (λ (j : K). Rising j ys) (sym e) s)))
        go (inr f) = sym (listed_skip x xs k f) ∙ h k ∙ listed_skip y ys k (subst (λ (j : K). E.same j k ≡ false) e f)

    pub listing_unique : (i : K) (xs ys : List X) → Rising i xs → Rising i ys → Each (λ x. value x ≢ none) xs → Each (λ x. value x ≢ none) ys
        → ((k : K) → listed xs k ≡ listed ys k) → xs ≡ ys
    listing_unique i [] [] r s m n h = refl
    listing_unique i [] (y ∷ ys) r s m n h = absurd (clash y ys [] n.0 tt (λ k. sym (h k)))
    listing_unique i (x ∷ xs) [] r s m n h = absurd (clash x xs [] m.0 tt h)
    listing_unique i (x ∷ xs) (y ∷ ys) r s m n h = go (O.under_total (key x) (key y)) (λ s'. listing_unique (key x) xs ys r.1 s' m.1 n.1)
      where
        go : T (O.under (key x) (key y)) ⊎ ((key x ≡ key y) ⊎ T (O.under (key y) (key x)))
            → (Rising (key x) ys → ((k : K) → listed xs k ≡ listed ys k) → xs ≡ ys) → ◌≡◌ {A = List X} (x ∷ xs) (y ∷ ys)
        go (inl l) ih = absurd (clash x xs (y ∷ ys) m.0 (l, s.1) h)
        go (inr (inr l)) ih = absurd (clash y ys (x ∷ xs) n.0 (l, r.1) (λ k. sym (h k)))
        go (inr (inl e)) ih = ap₂ ◌∷◌
            (decided x y e (sym (listed_first x xs) ∙ h (key x) ∙ ap (listed (y ∷ ys)) e ∙ listed_first y ys))
            (ih (subst (λ (j : K). Rising j ys) (sym e) s.1) (rest x y xs ys e r.1 s.1 h))
