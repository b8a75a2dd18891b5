-- Profiles are the summed weights of the definitions: two states agree exactly when they have equal grades and the same profile.
use Rattle.std.specs.Prelude.{◌≡◌, refl, ◌⊎◌, Bool, true, false, ◌&&◌, eqb, get_or, take, drop}
use Rattle.std.proofs.Math.Path.{sym, ap}
use Rattle.std.proofs.Common.{◌∙◌, subst, arith, length-take-le}
use Rattle.std.proofs.Math.Bool.{and_comm, and_assoc, and-false}
use mathlib.Core.List.{List, [], ◌∷◌, ◌++◌, map}
use Prim.Native.Nat.{ℕ, zero, suc, ◌<◌, ◌≤◌}
use Rattle.std.proofs.Math.Decide.{dec_lt}
use Rattle.std.proofs.Math.ListN.{length}
use Rattle.model.specs.Table.{Table, Transition, Each, ProperTransition}
use Rattle.model.proofs.Each.{each_implies, each_all, each_map, each-flat_map, each_take, each-drop}
use Rattle.theory.specs.Equality.{numbers, same_list, same_comm, same_false}
use Rattle.theory.specs.Sum.{only, sum, sum_same, sum-each, sum-zero, sum-map, sum-flat_map, only_and, only_zero, only_comm}
use Rattle.theory.specs.Below.{below, each_below, below_once}
use Rattle.theory.specs.Arithmetic.{arithmetic, Weight, meaning}
use Rattle.theory.specs.Weight.{leaving}
use Rattle.theory.specs.Bisimulation.{Agreement}
use Rattle.theory.specs.declared.Direction.{Direction}
use Rattle.theory.specs.declared.Direction.TheVariants.{Backward as backward, Forward as forward}
use Rattle.theory.specs.Direction.{sum_from, sum_into, AgreeForward, Agree}
use Rattle.theory.specs.Profile.{Use, Key, key_of, keys, counted, profile, profile_met, alike_agreement}
use Rattle.theory.specs.Uses.{others, use_into, use_at, uses, grade, AgreeByProfile}
use Rattle.theory.proofs.Laws.{laws}

module _ (a : ℕ) where
  open arithmetic a use {zero as 𝟘}

  zero_three : (c d e : Bool) → only (arithmetic a) c (only (arithmetic a) d (only (arithmetic a) e 𝟘)) ≡ 𝟘
  zero_three c d e = ap (λ w. only (arithmetic a) c (only (arithmetic a) d w)) (only_zero (arithmetic a) e)
      ∙ ap (only (arithmetic a) c) (only_zero (arithmetic a) d) ∙ only_zero (arithmetic a) c

  -- one transition under a backward key: s, its symbol fits; l, its children do; e, its target is the state
  one_into : (s l e : Bool) (w : Weight a) → only (arithmetic a) ((s && true) && l) (only (arithmetic a) e w) ≡ only (arithmetic a) l (only (arithmetic a) (s && e) w)
  one_into true l e w = refl
  one_into false l e w = sym (only_zero (arithmetic a) l)

  -- a backward profile is the summed weights with children in blocks
  pub profile_backward : (X : Table) (b : ℕ → ℕ) (σ : ℕ) (Ds : List ℕ) (p : ℕ)
      → profile (arithmetic a) (uses a backward X.transitions) b (σ ∷ [], Ds) p ≡ sum_from a X b σ Ds p
  unfolding uses
  profile_backward X b σ Ds p = sum-map (arithmetic a) (use_into a) X.transitions _
      ∙ sum_same (arithmetic a) X.transitions _ _ (λ t. one_into (eqb t.symbol σ) (same_list (map b t.children) Ds) (eqb t.target p) (meaning a t.code))

  -- one transition at a place: s, its symbol fits; k, the place; o, the other children; d, the target's block; e, the child there
  one_at : (s k o d e : Bool) (w : Weight a) → only (arithmetic a) ((s && (k && o)) && (d && true)) (only (arithmetic a) e w)
      ≡ only (arithmetic a) k (only (arithmetic a) (o && e) (only (arithmetic a) d (only (arithmetic a) s w)))
  one_at true true true true e w = refl
  one_at true true true false e w = sym (only_zero (arithmetic a) e)
  one_at true true false d e w = refl
  one_at true false o d e w = refl
  one_at false k o d e w = sym (zero_three k (o && e) d)

  -- the child at the place is p and the others are before and after: the children are before, p, after
  fills : (before : List ℕ) (p : ℕ) (after qs : List ℕ) → length before < length qs
      → (same_list (others (length before) qs) (before ++ after) && eqb (get_or qs (length before) 0) p) ≡ same_list qs (before ++ p ∷ after)
  fills [] p after [] l = absurd (omega arith)
  fills [] p after (q ∷ qs) l = and_comm (same_list qs after) (eqb q p)
  fills (x ∷ xs) p after [] l = absurd (omega arith)
  fills (x ∷ xs) p after (q ∷ qs) l = and_assoc (eqb q x) (same_list (others (length xs) qs) (xs ++ after)) (eqb (get_or qs (length xs) 0) p)
      ∙ ap (◌&&◌ (eqb q x)) (fills xs p after qs (omega arith))

  too_few : (before : List ℕ) (p : ℕ) (after qs : List ℕ) → length qs ≤ length before → same_list qs (before ++ p ∷ after) ≡ false
  too_few [] p after [] l = refl
  too_few [] p after (q ∷ qs) l = absurd (omega arith)
  too_few (x ∷ xs) p after [] l = refl
  too_few (x ∷ xs) p after (q ∷ qs) l = ap (◌&&◌ (eqb q x)) (too_few xs p after qs (omega arith)) ∙ and-false (eqb q x)

  module _ (b : ℕ → ℕ) (σ : ℕ) (before : List ℕ) (p : ℕ) (after : List ℕ) (D : ℕ) where
    place : Key
    place = (σ ∷ length before ∷ before ++ after, D ∷ [])

    at_places : (t : Transition)
        → sum (arithmetic a) (below (length t.children)) (λ k. only (arithmetic a) (keys.same (key_of b (use_at a t k)) place) (counted (arithmetic a) p (use_at a t k)))
        ≡ only (arithmetic a) (eqb (b t.target) D) (leaving a σ (before ++ p ∷ after) t)
    unfolding place
    at_places t = sum_same (arithmetic a) (below (length qs)) _ _ (λ k.
        one_at (eqb t.symbol σ) (eqb k (length before)) (same_list (others k qs) (before ++ after)) (eqb (b t.target) D) (eqb (get_or qs k 0) p) w
        ∙ ap (λ (c : Bool). only (arithmetic a) c (rest k)) (same_comm numbers k (length before)))
        ∙ go (dec_lt (length before) (length qs))
      where
        qs : List ℕ
        qs = t.children

        w : Weight a
        w = meaning a t.code

        inner : Weight a
        inner = only (arithmetic a) (eqb (b t.target) D) (only (arithmetic a) (eqb t.symbol σ) w)

        rest : ℕ → Weight a
        rest k = only (arithmetic a) (same_list (others k qs) (before ++ after) && eqb (get_or qs k 0) p) inner

        shape : only (arithmetic a) (same_list qs (before ++ p ∷ after)) inner ≡ only (arithmetic a) (eqb (b t.target) D) (leaving a σ (before ++ p ∷ after) t)
        shape = only_comm (arithmetic a) (same_list qs (before ++ p ∷ after)) (eqb (b t.target) D) (only (arithmetic a) (eqb t.symbol σ) w)
            ∙ ap (only (arithmetic a) (eqb (b t.target) D)) (only_comm (arithmetic a) (same_list qs (before ++ p ∷ after)) (eqb t.symbol σ) w
            ∙ sym (only_and (arithmetic a) (eqb t.symbol σ) (same_list qs (before ++ p ∷ after)) w))

        go : Dec (length before < length qs) → sum (arithmetic a) (below (length qs)) (λ k. only (arithmetic a) (eqb (length before) k) (rest k))
            ≡ only (arithmetic a) (eqb (b t.target) D) (leaving a σ (before ++ p ∷ after) t)
        go (yes l) = below_once (arithmetic a) (laws a) (length qs) (length before) l rest
            ∙ ap (λ (c : Bool). only (arithmetic a) c inner) (fills before p after qs l) ∙ shape
        go (no h) = sum-each (arithmetic a) (λ k. k < length qs) (below (length qs)) (each_below (length qs)) _ (λ k. 𝟘)
            (λ k l. ap (λ (c : Bool). only (arithmetic a) c (rest k)) (same_false numbers (length before) k (λ e. omega arith)))
            ∙ sum-zero (arithmetic a) (laws a) (below (length qs))
            ∙ sym (ap (λ (c : Bool). only (arithmetic a) c inner) (too_few before p after qs (omega arith))) ∙ shape

    -- a forward profile is the summed weights into a block with the state in a place
    pub profile_forward : (X : Table) → profile (arithmetic a) (uses a forward X.transitions) b (σ ∷ length before ∷ before ++ after, D ∷ []) p
        ≡ sum_into a X b σ (before ++ p ∷ after) D
    unfolding uses place
    profile_forward X = sum-flat_map (arithmetic a) (laws a) _ X.transitions _
        ∙ sum_same (arithmetic a) X.transitions _ _ (λ t. sum-map (arithmetic a) (use_at a t) (below (length t.children)) _ ∙ at_places t)

  others_split : (k : ℕ) (qs : List ℕ) → others k qs ≡ take k qs ++ drop (suc k) qs
  others_split zero [] = refl
  others_split (suc k) [] = refl
  others_split zero (q ∷ qs) = refl
  others_split (suc k) (q ∷ qs) = ap (◌∷◌ q) (others_split k qs)

  -- the transitions of X go between its states
  module _ (X : Table) (known : Each (ProperTransition X.ranks X.states) X.transitions) where
    pub uses_known : (d : Direction) → Each (λ u. Each (λ r. r < X.states) u.through) (uses a d X.transitions)
    unfolding uses
    uses_known backward = each_map _ (use_into a) X.transitions
        (each_implies (ProperTransition X.ranks X.states) (λ t. Each (λ r. r < X.states) t.children) (λ t p. p.children_known) X.transitions known)
    uses_known forward = each-flat_map _ _ X.transitions
        (each_implies (ProperTransition X.ranks X.states) _
        (λ t p. each_map (λ u. Each (λ r. r < X.states) u.through) (use_at a t) (below (length t.children))
        (each_all _ (λ k. (p.target_known, tt)) (below (length t.children)))) X.transitions known)

    module _ (b : ℕ → ℕ) (p q : ℕ) where
      -- the sums are equal at one key
      abbrev Level : Direction → Key → Type 0
      Level d k = profile (arithmetic a) (uses a d X.transitions) b k p ≡ profile (arithmetic a) (uses a d X.transitions) b k q

      abbrev Met : Direction → Use (Weight a) → Type 0
      Met d u = (u.state ≡ p) ⊎ (u.state ≡ q) → Level d (key_of b u)

      level_at : AgreeForward a X b p q → (t : Transition) → ProperTransition X.ranks X.states t → (k : ℕ) → k < length t.children → Level forward (key_of b (use_at a t k))
      level_at h t known k l = subst (Level forward) key
          (profile_forward b t.symbol before p after (b t.target) X
          ∙ h.sums_equal t.symbol before after (each_take _ k t.children known.children_known) (each-drop _ (suc k) t.children known.children_known) (b t.target)
          ∙ sym (profile_forward b t.symbol before q after (b t.target) X))
        where
          before : List ℕ
          before = take k t.children

          after : List ℕ
          after = drop (suc k) t.children

          key : ◌≡◌ {A = Key} (t.symbol ∷ length before ∷ before ++ after, b t.target ∷ []) (key_of b (use_at a t k))
          key = λ i. (t.symbol ∷ length-take-le k t.children (omega arith) i ∷ sym (others_split k t.children) i, b t.target ∷ [])

      met : (d : Direction) → Agree a X d b p q → Each (Met d) (uses a d X.transitions)
      unfolding uses
      met backward h = each_map (Met backward) (use_into a) X.transitions (each_all _ (λ t _.
          profile_backward X b t.symbol (map b t.children) p ∙ h.sums_equal t.symbol (map b t.children) ∙ sym (profile_backward X b t.symbol (map b t.children) q)) X.transitions)
      met forward h = each-flat_map (Met forward) _ X.transitions
          (each_implies (ProperTransition X.ranks X.states) _ (λ t k. each_map (Met forward) (use_at a t) (below (length t.children))
          (each_implies (λ i. i < length t.children) _ (λ i l _. level_at h t k i l) (below (length t.children)) (each_below (length t.children)))) X.transitions known)

      -- agreement by 01's definitions is agreement of profiles
      pub agree_profile : (d : Direction) → Agree a X d b p q → AgreeByProfile a X d b p q
      agree_profile backward h = (refl, profile_met (arithmetic a) (uses a backward X.transitions) (laws a) b p q (met backward h))
      agree_profile forward h = (h.finals_equal, profile_met (arithmetic a) (uses a forward X.transitions) (laws a) b p q (met forward h))

      pub profile_agree : (d : Direction) → AgreeByProfile a X d b p q → Agree a X d b p q
      profile_agree backward h = record { sums_equal = λ σ Ds. sym (profile_backward X b σ Ds p) ∙ h.1 (σ ∷ [], Ds) ∙ profile_backward X b σ Ds q }
      profile_agree forward h = record {
        finals_equal = h.0;
        sums_equal = λ σ before after l m D. sym (profile_forward b σ before p after D X) ∙ h.1 (σ ∷ length before ∷ before ++ after, D ∷ []) ∙ profile_forward b σ before q after D X;
      }

    -- agreement is an equivalence and survives merging, in both directions
    pub agreement : (d : Direction) → Agreement X.states (Agree a X d)
    agreement d = record {
      agree_self = λ b p. profile_agree b p p d (A.agree_self b p);
      agree_sym = λ b p q h. profile_agree b q p d (A.agree_sym b p q (agree_profile b p q d h));
      agree_trans = λ b p q r h i. profile_agree b p r d (A.agree_trans b p q r (agree_profile b p q d h) (agree_profile b q r d i));
      agree_merge = λ c b r p q h. profile_agree b p q d (A.agree_merge c b r p q (agree_profile c p q d h));
    }
      where
        A : Agreement X.states (AgreeByProfile a X d)
        A = alike_agreement (arithmetic a) X.states (grade a d X) (uses a d X.transitions) (laws a) (uses_known d)
