-- A collapse by the coarsest blocks, made again, changes nothing (source 001, theorems 22 and 7).
use Rattle.std.specs.Prelude.{◌≡◌, List, ◌∷◌, ◌++◌, map, ℕ, ◌<◌}
use Rattle.std.proofs.Common.{sym, ap, ◌∙◌, subst}
use Rattle.std.proofs.lemmas.Simd.{map-map}
use Rattle.std.proofs.lemmas.List.{map-append}
use Rattle.model.specs.Table.{Table, Each, Proper}
use Rattle.model.proofs.Each.{each_append}
use Rattle.theory.specs.Equality.{numbers, lists, same_list}
use Rattle.theory.specs.Semiring.{Operations, Laws}
use Rattle.theory.specs.Sum.{only, sum_same}
use Rattle.theory.specs.Grouping.{key_sums_through}
use Rattle.theory.specs.Below.{below, get_or_below, length-up_from}
use Rattle.theory.specs.Arithmetic.{arithmetic}
use Rattle.theory.specs.Weight.{entering, leaving}
use Rattle.theory.specs.Blocks.{block_of, FirstUse, first_use_own}
use Rattle.theory.specs.Bisimulation as General
use Rattle.theory.specs.declared.Direction.{Direction}
use Rattle.theory.specs.declared.Direction.TheVariants.{Backward as backward, Forward as forward}
use Rattle.theory.specs.Direction.{sum_from, sum_into, Agree, CoarsestBlocks}
use Rattle.theory.specs.Collapse.{Collapsed, CollapsedByCoarsest}
use Rattle.theory.proofs.Collapse.{collapsed_by_coarsest_unique, block_known, blocks_known, state_member}
use Rattle.theory.proofs.CollapseProper.{collapsed_by_coarsest_proper}
use Rattle.theory.proofs.CollapsedSums.{final_collapsed, sums_backward, sums_forward}
use Rattle.theory.proofs.OwnBlocks.{own_bisimulation, own_collapsed}
use Rattle.theory.proofs.Laws.{laws}

module _ (X : Table) (b : ℕ → ℕ) (Y : Table) (numbered : FirstUse X.states b) (proper : Proper X) where
  abbrev a : ℕ
  a = X.arithmetic

  abbrev S : Operations
  S = arithmetic a

  L : Laws S
  L = laws a

  -- the sums of the collapse under the blocks c are those of the table under the blocks of its blocks
  sum_from_lift : Collapsed backward X b Y → (c : ℕ → ℕ) (p : ℕ) → p < X.states → (σ : ℕ) (Ds : List ℕ) → sum_from a X (λ q. c (b q)) σ Ds p ≡ sum_from a Y c σ Ds (b p)
  sum_from_lift C c p l σ Ds = sum_same S X.transitions _ _ (λ t. ap (λ (Es : List ℕ). only S (same_list Es Ds) (entering a σ p t)) (sym (map-map c b t.children)))
      ∙ key_sums_through S L lists lists (map c) X.transitions (λ t. map b t.children) (entering a σ p) Y.transitions (λ t. t.children) (entering a σ (b p))
      (sums_backward X b Y numbered proper.transitions_proper C σ p l) Ds

  sum_into_lift : Collapsed forward X b Y → (c : ℕ → ℕ) (σ : ℕ) (qs : List ℕ) → Each (λ r. r < X.states) qs → (D : ℕ) → sum_into a X (λ q. c (b q)) σ qs D ≡ sum_into a Y c σ (map b qs) D
  sum_into_lift C c σ qs l = key_sums_through S L numbers numbers c X.transitions (λ t. b t.target) (leaving a σ qs) Y.transitions (λ t. t.target) (leaving a σ (map b qs))
      (sums_forward X b Y numbered proper.transitions_proper C σ qs l)

  -- states whose blocks agree in the collapse agree in the table
  agree_lift : (d : Direction) → Collapsed d X b Y → (c : ℕ → ℕ) (p q : ℕ) → p < X.states → q < X.states → Agree a Y d c (b p) (b q) → Agree a X d (λ r. c (b r)) p q
  agree_lift backward C c p q lp lq h = record { sums_equal = λ σ Ds. sum_from_lift C c p lp σ Ds ∙ h.sums_equal σ Ds ∙ sym (sum_from_lift C c q lq σ Ds) }
  agree_lift forward C c p q lp lq h = record {
    finals_equal = sym (final_collapsed X b Y forward C p lp) ∙ h.finals_equal ∙ final_collapsed X b Y forward C q lq;
    sums_equal = λ σ before after l m D. place p lp σ before after l m D
        ∙ h.sums_equal σ (map b before) (map b after) (blocks_known forward X b numbered Y C before l) (blocks_known forward X b numbered Y C after m) D
        ∙ sym (place q lq σ before after l m D);
  }
    where
      place : (r : ℕ) → r < X.states → (σ : ℕ) (before after : List ℕ) → Each (λ r. r < X.states) before → Each (λ r. r < X.states) after → (D : ℕ)
          → sum_into a X (λ q. c (b q)) σ (before ++ r ∷ after) D ≡ sum_into a Y c σ (map b before ++ b r ∷ map b after) D
      place r lr σ before after l m D = sum_into_lift C c σ (before ++ r ∷ after) (each_append (λ r. r < X.states) before (r ∷ after) l (lr, m)) D
          ∙ ap (λ (qs : List ℕ). sum_into a Y c σ qs D) (map-append b before (r ∷ after))

  module _ (d : Direction) (C : Collapsed d X b Y) (coarsest : General.Coarsest X.states (Agree a X d) b) where
    -- a bisimulation of the collapse merges no states
    pub merges_none : (c : ℕ → ℕ) → General.Bisimulation Y.states (Agree a Y d) c → (D E : ℕ) → D < Y.states → E < Y.states → c D ≡ c E → D ≡ E
    merges_none c h D E l_d l_e e =
        let (p, lp, f) = state_member d X b numbered Y C D l_d in
        let (q, lq, g) = state_member d X b numbered Y C E l_e in
        sym f ∙ (General.coarsest_covers X.states (Agree a X d) b coarsest (λ r. c (b r))
        (record { agree = λ p q lp lq e. agree_lift d C c p q lp lq (h.agree (b p) (b q) (block_known d X b numbered Y C p lp) (block_known d X b numbered Y C q lq) e) })
        ).keeps p q lp lq (ap c f ∙ e ∙ sym (ap c g)) ∙ g

-- The collapse by the coarsest blocks.
module _ (d : Direction) (X Y : Table) (C : CollapsedByCoarsest d X Y) (proper : Proper X) where
  -- its coarsest blocks are 0, 1, .., n − 1
  pub coarsest_again : CoarsestBlocks d Y (below Y.states)
  coarsest_again = record {
    one_each = length-up_from 0 Y.states;
    coarsest = subst (λ (a : ℕ). General.Coarsest Y.states (Agree a Y d) (block_of (below Y.states))) (sym C.collapsed.shape.arithmetic_stays)
        (General.covers_coarsest Y.states (Agree X.arithmetic Y d) (block_of (below Y.states)) (own_bisimulation Y (collapsed_by_coarsest_proper d X Y C proper) (block_of (below Y.states)) (get_or_below Y.states) X.arithmetic d)
        (λ c h. record { keeps = λ D E l_d l_e e. ap (block_of (below Y.states)) (merges_none X (block_of C.blocks) Y C.coarsest_blocks.first_use proper d C.collapsed C.coarsest_blocks.coarsest c h D E l_d l_e e) }));
    first_use = first_use_own Y.states (block_of (below Y.states)) (get_or_below Y.states);
  }

  -- and its collapse by them is itself
  pub collapsed_again : CollapsedByCoarsest d Y Y
  collapsed_again = record { blocks = below Y.states; coarsest_blocks = coarsest_again; collapsed = own_collapsed Y (collapsed_by_coarsest_proper d X Y C proper) (block_of (below Y.states)) (get_or_below Y.states) d }

  -- so the same collapse, made again, gives the same table
  pub collapsed_by_coarsest_again : (Z : Table) → CollapsedByCoarsest d Y Z → Z ≡ Y
  collapsed_by_coarsest_again Z E = collapsed_by_coarsest_unique d Y Z Y E collapsed_again
