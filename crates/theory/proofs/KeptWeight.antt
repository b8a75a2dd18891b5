-- Every tree keeps its weight under a collapse (source 001, lemmas 20 and 5, theorems 21 and 6).
use Rattle.std.specs.Prelude.{◌≡◌, refl, Bool, ℕ, ◌<◌, eqb}
use Rattle.std.proofs.Math.Path.{sym, ap, ap₂, subst}
use Rattle.std.proofs.Common.{◌∙◌}
use mathlib.Core.List.{List, [], ◌∷◌, map}
use Rattle.model.specs.Table.{Table, Transition, Each, ProperTransition, Proper}
use Rattle.model.specs.Tree.{Tree, Forest, node, none, ◌then◌, count}
use Rattle.model.proofs.Each.{each_implies}
use Rattle.theory.specs.Equality.{numbers, lists, same_list, same_comm}
use Rattle.theory.specs.Semiring.{Operations, Laws}
use Rattle.theory.specs.Sum.{only, sum, sum_same, sum-each, sum-zero, sum-exchange, sum-exchange-only, sum-times, sum-times-sum, only_and, only_comm, only_sum, only_times, only_times_only}
use Rattle.theory.specs.Grouping.{key_sum, sums_by_key, sum_regroup, Once}
use Rattle.theory.specs.Below.{below, each_below, below_once}
use Rattle.theory.specs.Words.{words, each_words, sum_words}
use Rattle.theory.specs.Arithmetic.{arithmetic, Weight, meaning, value_of}
use Rattle.theory.specs.Weight.{entering, leaving, final, weight_at, product_at, weight, value}
use Rattle.theory.specs.Blocks.{block_of, FirstUse}
use Rattle.theory.specs.declared.Direction.{Direction}
use Rattle.theory.specs.declared.Direction.TheVariants.{Backward as backward, Forward as forward}
use Rattle.theory.specs.Direction.{sum_into}
use Rattle.theory.specs.Entry.{entering_key_sum, leaving_key_sum}
use Rattle.theory.specs.Collapse.{Collapsed, CollapsedByCoarsest}
use Rattle.theory.proofs.Collapse.{block_known, state_member}
use Rattle.theory.proofs.CollapsedSums.{final_collapsed, sums_backward, sums_forward}
use Rattle.theory.proofs.Laws.{laws}

module _ (X : Table) (b : ℕ → ℕ) (Y : Table) (numbered : FirstUse X.states b) (known : Each (ProperTransition X.ranks X.states) X.transitions) where
  abbrev a : ℕ
  a = X.arithmetic

  abbrev S : Operations
  S = arithmetic a

  L : Laws S
  L = laws a

  open S use {times as ◌⊗◌}

  infixl 7 ◌⊗◌
  module _ (C : Collapsed backward X b Y) where
    mutual
      unfolding weight_at

      -- the weight at a state is the weight at its block (lemma 20)
      pub weight_at_backward : (t : Tree) (q : ℕ) → q < X.states → weight_at a Y t (b q) ≡ weight_at a X t q
      weight_at_backward (node σ ts) q l =
          sym (sums_by_key S lists L X.transitions (λ t. map b t.children) (entering a σ q) Y.transitions (λ t. t.children) (entering a σ (b q)) (sums_backward X b Y numbered known C σ q l) (product_at a Y ts))
          ∙ sum-each S (ProperTransition X.ranks X.states) X.transitions known _ _ (λ t p. ap (◌⊗◌ (entering a σ q t)) (product_at_backward ts t.children p.children_known))

      pub product_at_backward : (ts : Forest) (qs : List ℕ) → Each (λ r. r < X.states) qs → product_at a Y ts (map b qs) ≡ product_at a X ts qs
      product_at_backward none [] l = refl
      product_at_backward none (q ∷ qs) l = refl
      product_at_backward (◌then◌ t ts) [] l = refl
      product_at_backward (◌then◌ t ts) (q ∷ qs) l = ap₂ ◌⊗◌ (weight_at_backward t q l.0) (product_at_backward ts qs l.1)

    -- theorem 21
    pub weight_backward : (t : Tree) → weight a Y t ≡ weight a X t
    unfolding weight
    weight_backward t =
        sum-each S (λ D. D < Y.states) (below Y.states) (each_below Y.states) _ _ (λ D l. ap (λ (w : Weight a). w ⊗ weight_at a Y t D)
        (let (q, lq, e) = state_member backward X b numbered Y C D l in
        subst (λ (D : ℕ). final a Y D ≡ key_sum S numbers (below X.states) b (final a X) D) e (final_collapsed X b Y backward C q lq)))
        ∙ sym (sum_regroup S numbers L (below X.states) b (final a X) (weight_at a Y t) (below Y.states)
        (each_implies (λ q. q < X.states) (λ q. Once S numbers (below Y.states) (b q)) (λ q l. below_once S L Y.states (b q) (block_known backward X b numbered Y C q l)) (below X.states) (each_below X.states)))
        ∙ sum-each S (λ q. q < X.states) (below X.states) (each_below X.states) _ _ (λ q l. ap (◌⊗◌ (final a X q)) (weight_at_backward t q l))

  module _ (C : Collapsed forward X b Y) where
    -- the product over child trees, picked from all words of states
    product_at_words : (ts : Forest) (rs : List ℕ) → Each (λ r. r < X.states) rs
        → sum S (words X.states (count ts)) (λ qs. only S (same_list rs qs) (product_at a X ts qs)) ≡ product_at a X ts rs
    unfolding weight_at count
    product_at_words none [] l = L.plus_zero S.one
    product_at_words none (r ∷ rs) l = L.plus_zero S.zero
    product_at_words (◌then◌ t ts) [] l = sum_words S L X.states (count ts) _ ∙ sum_same S (below X.states) _ _ (λ q. sum-zero S L (words X.states (count ts))) ∙ sum-zero S L (below X.states)
    product_at_words (◌then◌ t ts) (r ∷ rs) l = sum_words S L X.states (count ts) _
        ∙ sum_same S (below X.states) _ _ (λ q. sum_same S (words X.states (count ts)) _ _ (λ qs. sym (only_times_only S L (eqb r q) (same_list rs qs) (weight_at a X t q) (product_at a X ts qs))))
        ∙ sym (sum-times-sum S L (below X.states) (words X.states (count ts)) (λ q. only S (eqb r q) (weight_at a X t q)) (λ qs. only S (same_list rs qs) (product_at a X ts qs)))
        ∙ ap₂ ◌⊗◌ (below_once S L X.states r l.0 (weight_at a X t)) (product_at_words ts rs l.1)

    -- σ's weight into the block D
    into : ℕ → ℕ → Transition → Weight a
    into σ D t = only S (eqb (b t.target) D) (only S (eqb t.symbol σ) (meaning a t.code))

    into_members : (σ D : ℕ) (t : Transition) → t.target < X.states → sum S (below X.states) (λ q. only S (eqb (b q) D) (entering a σ q t)) ≡ into σ D t
    unfolding into
    into_members σ D t l = sum_same S (below X.states) _ _ (λ q.
        ap (only S (eqb (b q) D)) (only_and S (eqb t.symbol σ) (eqb t.target q) (meaning a t.code) ∙ only_comm S (eqb t.symbol σ) (eqb t.target q) (meaning a t.code))
        ∙ only_comm S (eqb (b q) D) (eqb t.target q) (only S (eqb t.symbol σ) (meaning a t.code)))
        ∙ below_once S L X.states t.target l (λ q. only S (eqb (b q) D) (only S (eqb t.symbol σ) (meaning a t.code)))

    into_word : (σ D : ℕ) (qs : List ℕ) (t : Transition) → only S (same_list t.children qs) (into σ D t) ≡ only S (eqb (b t.target) D) (leaving a σ qs t)
    unfolding into
    into_word σ D qs t = only_comm S (same_list t.children qs) (eqb (b t.target) D) (only S (eqb t.symbol σ) (meaning a t.code))
        ∙ ap (only S (eqb (b t.target) D)) (only_comm S (same_list t.children qs) (eqb t.symbol σ) (meaning a t.code) ∙ sym (only_and S (eqb t.symbol σ) (same_list t.children qs) (meaning a t.code)))

    -- the weights of a tree at the members of a block, summed: for each word of states its product, times the summed weights into the block
    weight_at_members : (σ : ℕ) (ts : Forest) (D : ℕ) → key_sum S numbers (below X.states) b (weight_at a X (node σ ts)) D
        ≡ sum S (words X.states (count ts)) (λ qs. sum_into a X b σ qs D ⊗ product_at a X ts qs)
    unfolding weight_at
    weight_at_members σ ts D =
        sum_same S (below X.states) _ _ (λ q. only_sum S L (eqb (b q) D) X.transitions _ ∙ sum_same S X.transitions _ _ (λ t. sym (only_times S L (eqb (b q) D) (entering a σ q t) (product_at a X ts t.children))))
        ∙ sum-exchange S L (below X.states) X.transitions (λ q t. only S (eqb (b q) D) (entering a σ q t) ⊗ product_at a X ts t.children)
        ∙ sum-each S (ProperTransition X.ranks X.states) X.transitions known _ _ (λ t p.
        sym (sum-times S L (below X.states) (λ q. only S (eqb (b q) D) (entering a σ q t)) (product_at a X ts t.children))
        ∙ ap₂ ◌⊗◌ (into_members σ D t p.target_known) (sym (product_at_words ts t.children p.children_known)))
        ∙ sum-exchange-only S L X.transitions (words X.states (count ts)) (λ t qs. same_list t.children qs) (into σ D) (product_at a X ts)
        ∙ sum_same S (words X.states (count ts)) _ _ (λ qs. ap (λ (w : Weight a). w ⊗ product_at a X ts qs) (sum_same S X.transitions _ _ (into_word σ D qs)))

    mutual
      unfolding weight_at count

      -- the weight at a block is the sum of the weights at its members (lemma 5)
      pub weight_at_forward : (t : Tree) (D : ℕ) → weight_at a Y t D ≡ key_sum S numbers (below X.states) b (weight_at a X t) D
      weight_at_forward (node σ ts) D =
          sum_same S Y.transitions _ _ (λ t. ap (◌⊗◌ (entering a σ D t)) (product_at_forward ts t.children))
          ∙ sum-exchange-only S L Y.transitions (words X.states (count ts)) (λ t qs. same_list (map b qs) t.children) (entering a σ D) (product_at a X ts)
          ∙ sum-each S (λ qs. Each (λ r. r < X.states) qs) (words X.states (count ts)) (each_words X.states (count ts)) _ _ (λ qs l. ap (λ (w : Weight a). w ⊗ product_at a X ts qs)
          (sum_same S Y.transitions _ _ (λ t. ap (λ (c : Bool). only S c (entering a σ D t)) (same_comm lists (map b qs) t.children))
          ∙ entering_key_sum a Y.transitions σ (map b qs) D ∙ sym (leaving_key_sum a Y.transitions σ (map b qs) D) ∙ sym (sums_forward X b Y numbered known C σ qs l D)))
          ∙ sym (weight_at_members σ ts D)

      pub product_at_forward : (ts : Forest) (Ds : List ℕ) → product_at a Y ts Ds ≡ key_sum S lists (words X.states (count ts)) (map b) (product_at a X ts) Ds
      product_at_forward none [] = sym (L.plus_zero S.one)
      product_at_forward none (D ∷ Ds) = sym (L.plus_zero S.zero)
      product_at_forward (◌then◌ t ts) [] = sym (sum_words S L X.states (count ts) _ ∙ sum_same S (below X.states) _ _ (λ q. sum-zero S L (words X.states (count ts))) ∙ sum-zero S L (below X.states))
      product_at_forward (◌then◌ t ts) (D ∷ Ds) = ap₂ ◌⊗◌ (weight_at_forward t D) (product_at_forward ts Ds)
          ∙ sum-times-sum S L (below X.states) (words X.states (count ts)) (λ q. only S (eqb (b q) D) (weight_at a X t q)) (λ qs. only S (same_list (map b qs) Ds) (product_at a X ts qs))
          ∙ sum_same S (below X.states) _ _ (λ q. sum_same S (words X.states (count ts)) _ _ (λ qs. only_times_only S L (eqb (b q) D) (same_list (map b qs) Ds) (weight_at a X t q) (product_at a X ts qs)))
          ∙ sym (sum_words S L X.states (count ts) _)

    -- theorem 6
    pub weight_forward : (t : Tree) → weight a Y t ≡ weight a X t
    unfolding weight
    weight_forward t =
        sum_same S (below Y.states) _ _ (λ D. ap (◌⊗◌ (final a Y D)) (weight_at_forward t D) ∙ L.times_comm (final a Y D) (key_sum S numbers (below X.states) b (weight_at a X t) D))
        ∙ sym (sum_regroup S numbers L (below X.states) b (weight_at a X t) (final a Y) (below Y.states)
        (each_implies (λ q. q < X.states) (λ q. Once S numbers (below Y.states) (b q)) (λ q l. below_once S L Y.states (b q) (block_known forward X b numbered Y C q l)) (below X.states) (each_below X.states)))
        ∙ sum-each S (λ q. q < X.states) (below X.states) (each_below X.states) _ _ (λ q l. L.times_comm (weight_at a X t q) (final a Y (b q)) ∙ ap (λ (w : Weight a). w ⊗ weight_at a X t q) (final_collapsed X b Y forward C q l))

  -- in either direction every tree keeps its weight
  pub collapsed_weight : (d : Direction) → Collapsed d X b Y → (t : Tree) → weight a Y t ≡ weight a X t
  collapsed_weight backward C = weight_backward C
  collapsed_weight forward C = weight_forward C

  pub collapsed_value : (d : Direction) → Collapsed d X b Y → (t : Tree) → value Y t ≡ value X t
  unfolding value
  collapsed_value d C t = ap (λ (a : ℕ). value_of a (weight a Y t)) C.shape.arithmetic_stays ∙ ap (value_of a) (collapsed_weight d C t)

pub collapsed_by_coarsest_value : (d : Direction) (X Y : Table) → CollapsedByCoarsest d X Y → Proper X → (t : Tree) → value Y t ≡ value X t
collapsed_by_coarsest_value d X Y C proper = collapsed_value X (block_of C.blocks) Y C.coarsest_blocks.first_use proper.transitions_proper d C.collapsed
