-- The summed weights of a table are those that its collapse lists.
use Rattle.std.specs.Prelude.{◌≡◌, List, map, ℕ, ◌<◌}
use Rattle.std.proofs.Common.{sym, ap, ◌∙◌, subst}
use Rattle.model.specs.Table.{Table, Each, ProperTransition}
use Rattle.model.proofs.Each.{each_implies}
use Rattle.theory.specs.Equality.{numbers, lists}
use Rattle.theory.specs.Semiring.{Operations, Laws}
use Rattle.theory.specs.Grouping.{key_sum, key_sums_met}
use Rattle.theory.specs.Arithmetic.{arithmetic, meaning, meaning-code_of}
use Rattle.theory.specs.Weight.{entering, leaving, final}
use Rattle.theory.specs.Blocks.{FirstUse}
use Rattle.theory.specs.declared.Direction.{Direction}
use Rattle.theory.specs.declared.Direction.TheVariants.{Backward as backward, Forward as forward}
use Rattle.theory.specs.Direction.{sum_from, sum_into}
use Rattle.theory.specs.Entry.{key_at, Between, weight_at_key, entering_key_sum, leaving_key_sum}
use Rattle.theory.proofs.Entry.{weight_at_key_listed}
use Rattle.theory.specs.Collapse.{block_weight, block_final, Collapsed}
use Rattle.theory.proofs.Collapse.{state_member, states_members}
use Rattle.theory.proofs.Laws.{laws}

module _ (X : Table) (b : ℕ → ℕ) (Y : Table) where
  abbrev a : ℕ
  a = X.arithmetic

  abbrev S : Operations
  S = arithmetic a

  L : Laws S
  L = laws a

  -- the weight that Y lists for blocks
  pub weight_at_key_collapsed : (d : Direction) → Collapsed d X b Y → (σ : ℕ) (qs : List ℕ) (q : ℕ) → Each (λ r. r < X.states) qs → q < X.states
      → weight_at_key a Y.transitions (key_at σ (map b qs) (b q)) ≡ block_weight X b d σ qs q
  weight_at_key_collapsed d C σ qs q lqs lq = weight_at_key_listed a Y.transitions C.shape.ascending (key_at σ (map b qs) (b q))
      ∙ ap (meaning a) (C.codes_collapsed σ qs q lqs lq) ∙ meaning-code_of a (block_weight X b d σ qs q)

  -- the final weight of a state of Y
  pub final_collapsed : (d : Direction) → Collapsed d X b Y → (q : ℕ) → q < X.states → final a Y (b q) ≡ block_final X b d q
  final_collapsed d C q l = ap (meaning a) (C.finals_collapsed q l) ∙ meaning-code_of a (block_final X b d q)

  -- numbered by first use; the transitions of X go between its states
  module _ (numbered : FirstUse X.states b) (known : Each (ProperTransition X.ranks X.states) X.transitions) where
    module _ (C : Collapsed backward X b Y) where
      -- the summed weights into q with children in blocks are those that Y lists into q's block
      pub sums_backward : (σ q : ℕ) → q < X.states → (Ds : List ℕ) → sum_from a X b σ Ds q ≡ key_sum S lists Y.transitions (λ t. t.children) (entering a σ (b q)) Ds
      sums_backward σ q l = key_sums_met S lists L X.transitions (λ t. map b t.children) (entering a σ q) Y.transitions (λ t. t.children) (entering a σ (b q))
          (each_implies (ProperTransition X.ranks X.states) (λ t. Level (map b t.children)) (λ t p. level t.children p.children_known) X.transitions known)
          (each_implies (Between Y.states) (λ t. Level t.children)
          (λ t k. let (qs, lqs, e) = states_members backward X b numbered Y C t.children k.0 in subst Level e (level qs lqs)) Y.transitions C.states_known)
        where
          Level : List ℕ → Type 0
          Level Ds = sum_from a X b σ Ds q ≡ key_sum S lists Y.transitions (λ t. t.children) (entering a σ (b q)) Ds

          level : (qs : List ℕ) → Each (λ r. r < X.states) qs → Level (map b qs)
          level qs lqs = sym (entering_key_sum a Y.transitions σ (map b qs) (b q) ∙ weight_at_key_collapsed backward C σ qs q lqs l)

    module _ (C : Collapsed forward X b Y) where
      -- the summed weights into a block are those that Y lists into it, with any members for the children
      pub sums_forward : (σ : ℕ) (qs : List ℕ) → Each (λ r. r < X.states) qs → (D : ℕ) → sum_into a X b σ qs D ≡ key_sum S numbers Y.transitions (λ t. t.target) (leaving a σ (map b qs)) D
      sums_forward σ qs l = key_sums_met S numbers L X.transitions (λ t. b t.target) (leaving a σ qs) Y.transitions (λ t. t.target) (leaving a σ (map b qs))
          (each_implies (ProperTransition X.ranks X.states) (λ t. Level (b t.target)) (λ t p. level t.target p.target_known) X.transitions known)
          (each_implies (Between Y.states) (λ t. Level t.target)
          (λ t k. let (q, lq, e) = state_member forward X b numbered Y C t.target k.1 in subst Level e (level q lq)) Y.transitions C.states_known)
        where
          Level : ℕ → Type 0
          Level D = sum_into a X b σ qs D ≡ key_sum S numbers Y.transitions (λ t. t.target) (leaving a σ (map b qs)) D

          level : (q : ℕ) → q < X.states → Level (b q)
          level q lq = sym (leaving_key_sum a Y.transitions σ (map b qs) (b q) ∙ weight_at_key_collapsed forward C σ qs q l lq)
