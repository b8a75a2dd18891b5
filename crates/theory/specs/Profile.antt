-- The profile of a state: its summed weights, keyed by numbers that stay and by the blocks of states. Both directions compare profiles.
use Rattle.std.specs.Prelude.{◌≡◌, refl, ◌⊎◌, ◌≢◌, Bool, false, ℕ, ◌<◌, eqb}
use Rattle.std.proofs.Common.{sym, ◌∙◌, subst, inl, inr}
use Rattle.std.proofs.Math.Path.{ap}
use mathlib.Core.List.{List, [], ◌∷◌, map, map-map}
use Rattle.model.specs.Table.{Each}
use Rattle.model.proofs.Each.{each_implies, map_each}
use Rattle.theory.specs.Equality.{Equality, numbers, lists, pairs, equal_or_not, false_differ}
use Rattle.theory.specs.Semiring.{Operations, Laws}
use Rattle.theory.specs.Sum.{only, sum, sum-each, sum-zero, only_zero}
use Rattle.theory.specs.Grouping.{key_sum, key_sums_through, key_sum_packed}
use Rattle.theory.specs.Blocks.{Refines, member, member_shares}
use Rattle.theory.specs.Bisimulation.{Agreement}

-- a weight that counts for a state, under numbers that stay and states that are read by their blocks
pub record Use (W : Type 0) : Type 0 where
  pub state : ℕ
  pub fixed : List ℕ
  pub through : List ℕ
  pub weight : W

-- the key of a use under the blocks b
abbrev pub Key : Type 0
Key = List ℕ × List ℕ

abbrev pub keys : Equality Key
keys = pairs lists lists

abbrev pub key_of : {W : Type 0} → (ℕ → ℕ) → Use W → Key
key_of b u = (u.fixed, map b u.through)

module _ (S : Operations) where
  open S use {Carrier, zero as 𝟘}

  -- the weight of a use of p; zero for a use of any other state
  abbrev pub counted : ℕ → Use Carrier → Carrier
  counted p u = only S (eqb u.state p) u.weight

  module _ (uses : List (Use Carrier)) where
    -- the summed weights of p's uses with the key k
    abbrev pub profile : (ℕ → ℕ) → Key → ℕ → Carrier
    profile b k p = sum S uses (λ u. only S (keys.same (key_of b u) k) (counted p u))

    -- p and q have the same profile under b
    abbrev pub SameProfile : (ℕ → ℕ) → ℕ → ℕ → Type 0
    SameProfile b p q = (k : Key) → profile b k p ≡ profile b k q

    -- p depends on no state whose block differs in b and b'
    abbrev pub Independent : (ℕ → ℕ) → (ℕ → ℕ) → ℕ → Type 0
    Independent b b' p = Each (λ u. u.state ≡ p → Each (λ r. b r ≡ b' r) u.through) uses

    -- such a p has the same profile under both
    pub profile_kept : (b b' : ℕ → ℕ) (p : ℕ) → Independent b b' p → (k : Key) → profile b k p ≡ profile b' k p
    profile_kept b b' p m k = sum-each S (λ u. u.state ≡ p → Each (λ r. b r ≡ b' r) u.through) uses m _ _ (λ u h. go u h (equal_or_not numbers u.state p))
      where
        go : (u : Use Carrier) → (u.state ≡ p → Each (λ r. b r ≡ b' r) u.through) → (u.state ≡ p) ⊎ (eqb u.state p ≡ false)
            → only S (keys.same (key_of b u) k) (counted p u) ≡ only S (keys.same (key_of b' u) k) (counted p u)
        go u h (inl e) = ap (λ (l : List ℕ). only S (keys.same (u.fixed, l) k) (counted p u)) (map_each (λ r. b r ≡ b' r) b b' (λ r x. x) u.through (h e))
        go u h (inr e) = ap (λ (c : Bool). only S (keys.same (key_of b u) k) (only S c u.weight)) e ∙ only_zero S (keys.same (key_of b u) k)
            ∙ sym (ap (λ (c : Bool). only S (keys.same (key_of b' u) k) (only S c u.weight)) e ∙ only_zero S (keys.same (key_of b' u) k))

    module _ (L : Laws S) where
      -- a sum without uses: no use of p has the key
      pub profile_unmet : (b : ℕ → ℕ) (k : Key) (p : ℕ) → Each (λ u. u.state ≡ p → key_of b u ≢ k) uses → profile b k p ≡ 𝟘
      profile_unmet b k p m = sum-each S (λ u. u.state ≡ p → key_of b u ≢ k) uses m _ (λ u. 𝟘) (λ u h. go u h (equal_or_not numbers u.state p) (equal_or_not keys (key_of b u) k))
          ∙ sum-zero S L uses
        where
          go : (u : Use Carrier) → (u.state ≡ p → key_of b u ≢ k) → (u.state ≡ p) ⊎ (eqb u.state p ≡ false) → (key_of b u ≡ k) ⊎ (keys.same (key_of b u) k ≡ false)
              → only S (keys.same (key_of b u) k) (counted p u) ≡ 𝟘
          go u h (inl e) (inl f) = absurd (h e f)
          go u h (inl e) (inr f) = ap (λ (c : Bool). only S c (counted p u)) f
          go u h (inr e) f = ap (λ (c : Bool). only S (keys.same (key_of b u) k) (only S c u.weight)) e ∙ only_zero S (keys.same (key_of b u) k)

      -- only the keys of uses of p or of q matter: where their sums are equal, the profiles are the same
      pub profile_met : (b : ℕ → ℕ) (p q : ℕ)
          → Each (λ u. (u.state ≡ p) ⊎ (u.state ≡ q) → profile b (key_of b u) p ≡ profile b (key_of b u) q) uses → SameProfile b p q
      profile_met b p q m k = finish (find uses m)
        where
          Met : Use Carrier → Type 0
          Met u = (u.state ≡ p) ⊎ (u.state ≡ q) → profile b (key_of b u) p ≡ profile b (key_of b u) q

          Unmet : ℕ → Use Carrier → Type 0
          Unmet r u = u.state ≡ r → key_of b u ≢ k

          Answer : List (Use Carrier) → Type 0
          Answer us = (profile b k p ≡ profile b k q) ⊎ (Each (Unmet p) us × Each (Unmet q) us)

          add : (u : Use Carrier) (us : List (Use Carrier)) → Unmet p u → Unmet q u → Answer us → Answer (u ∷ us)
          add u us hp hq (inl e) = inl e
          add u us hp hq (inr r) = inr ((hp, r.0), (hq, r.1))

          look : (u : Use Carrier) (us : List (Use Carrier)) → Met u → Answer us
              → (key_of b u ≡ k) ⊎ (keys.same (key_of b u) k ≡ false) → (u.state ≡ p) ⊎ (eqb u.state p ≡ false) → (u.state ≡ q) ⊎ (eqb u.state q ≡ false) → Answer (u ∷ us)
          look u us h r (inl f) (inl e) y = inl (subst (λ (j : Key). profile b j p ≡ profile b j q) f (h (inl e)))
          look u us h r (inl f) (inr e) (inl d) = inl (subst (λ (j : Key). profile b j p ≡ profile b j q) f (h (inr d)))
          look u us h r (inl f) (inr e) (inr d) = add u us (λ x. absurd (false_differ numbers u.state p e x)) (λ x. absurd (false_differ numbers u.state q d x)) r
          look u us h r (inr f) x y = add u us (λ _. false_differ keys (key_of b u) k f) (λ _. false_differ keys (key_of b u) k f) r

          find : (us : List (Use Carrier)) → Each Met us → Answer us
          find [] n = inr (tt, tt)
          find (u ∷ us) n = look u us n.0 (find us n.1) (equal_or_not keys (key_of b u) k) (equal_or_not numbers u.state p) (equal_or_not numbers u.state q)

          finish : Answer uses → profile b k p ≡ profile b k q
          finish (inl e) = e
          finish (inr r) = profile_unmet b k p r.0 ∙ sym (profile_unmet b k q r.1)

    -- Keys packed into anything that tells the uses' keys apart.
    module _ {K : Type 0} (E : Equality K) (pack : Key → K) (b : ℕ → ℕ) where
      -- the summed weights of p's uses whose key is packed as j
      abbrev pub packed_sum : K → ℕ → Carrier
      packed_sum j p = sum S uses (λ u. only S (E.same (pack (key_of b u)) j) (counted p u))

      module _ (L : Laws S) where
        pub profile_packed : (p q : ℕ) → SameProfile b p q → (j : K) → packed_sum j p ≡ packed_sum j q
        profile_packed p q h = key_sums_through S L keys E pack uses (key_of b) (counted p) uses (key_of b) (counted q) h

        pub packed_profile : Each (λ u. Each (λ v. pack (key_of b v) ≡ pack (key_of b u) → key_of b v ≡ key_of b u) uses) uses
            → (p q : ℕ) → ((j : K) → packed_sum j p ≡ packed_sum j q) → SameProfile b p q
        packed_profile apart p q h = profile_met L b p q (each_implies (λ u. Each (λ v. pack (key_of b v) ≡ pack (key_of b u) → key_of b v ≡ key_of b u) uses) _
            (λ u tells _. sym (at u tells p) ∙ h (pack (key_of b u)) ∙ at u tells q) uses apart)
          where
            at : (u : Use Carrier) → Each (λ v. pack (key_of b v) ≡ pack (key_of b u) → key_of b v ≡ key_of b u) uses → (r : ℕ) → packed_sum (pack (key_of b u)) r ≡ profile b (key_of b u) r
            at u tells r = key_sum_packed S keys E pack uses (key_of b) (counted r) (key_of b u) tells

    -- a profile under coarser blocks is decided by the one under finer blocks
    module _ (n : ℕ) (known : Each (λ u. Each (λ r. r < n) u.through) uses) (c b : ℕ → ℕ) (r : Refines n c b) where
      coarse : ℕ → ℕ
      coarse D = b (member c n D)

      coarse_block : (q : ℕ) → q < n → coarse (c q) ≡ b q
      unfolding coarse
      coarse_block q l = let m = member_shares c n q l in r.keeps (member c n (c q)) q m.0 l m.1

      coarse_key : Key → Key
      coarse_key k = (k.0, map coarse k.1)

      profile_coarse : (k : Key) (p : ℕ) → key_sum S keys uses (λ u. coarse_key (key_of c u)) (counted p) k ≡ profile b k p
      unfolding coarse_key
      profile_coarse k p = sum-each S (λ u. Each (λ r. r < n) u.through) uses known _ _ (λ u l. ap (λ (Ds : List ℕ). only S (keys.same (u.fixed, Ds) k) (counted p u))
          (map-map coarse c u.through ∙ map_each (λ r. r < n) (λ q. coarse (c q)) b coarse_block u.through l))

      module _ (L : Laws S) where
        pub profile_merge : (p q : ℕ) → SameProfile c p q → SameProfile b p q
        profile_merge p q h k = sym (profile_coarse k p) ∙ key_sums_through S L keys keys coarse_key uses (key_of c) (counted p) uses (key_of c) (counted q) h k ∙ profile_coarse k q

  -- What a state shows: a grade, equal for states that may be together at all, and its uses.
  module _ (n : ℕ) (grade : ℕ → Carrier) (uses : List (Use Carrier)) where
    -- equal grades and the same profile
    abbrev pub Alike : (ℕ → ℕ) → ℕ → ℕ → Type 0
    Alike b p q = (grade p ≡ grade q) × SameProfile uses b p q

    module _ (L : Laws S) where
      pub alike_agreement : Each (λ u. Each (λ r. r < n) u.through) uses → Agreement n Alike
      alike_agreement known = record {
        agree_self = λ b p. (refl, λ k. refl);
        agree_sym = λ b p q h. (sym h.0, λ k. sym (h.1 k));
        agree_trans = λ b p q r h i. (h.0 ∙ i.0, λ k. h.1 k ∙ i.1 k);
        agree_merge = λ c b r p q h. (h.0, profile_merge uses n known c b r L p q h.1);
      }
