-- A collapse by given blocks is determined, and so is the collapse by the coarsest blocks.
use Rattle.std.specs.Prelude.{◌≡◌, ℕ, ◌<◌, get_or}
use Rattle.std.proofs.Common.{sym, ap₂, ◌∙◌, subst, arith, ext_get_or}
use mathlib.Core.List.{List, map, Memᴰ}
use Rattle.model.specs.Table.{Table, Transition, Each, key}
use Rattle.model.proofs.Each.{each_implies, each_map, each_member}
use Rattle.theory.specs.Blocks.{block_of, FirstUse, block_count_above}
use Rattle.theory.proofs.Blocks.{block_member, block_members}
use Rattle.theory.specs.declared.Direction.{Direction}
use Rattle.theory.proofs.Directions.{coarsest_blocks_unique}
use Rattle.theory.specs.Entry.{key_at, code_at, Between, transitions_unique}
use Rattle.theory.specs.Collapse.{Collapsed, CollapsedByCoarsest}

module _ (d : Direction) (X : Table) (b : ℕ → ℕ) (numbered : FirstUse X.states b) where
  module _ (Y : Table) (C : Collapsed d X b Y) where
    -- the block of a state is a state of Y, and each state of Y has a member
    pub block_known : (q : ℕ) → q < X.states → b q < Y.states
    block_known q l = omega (arith, block_count_above b X.states q l, C.shape.states_blocks)

    pub blocks_known : (qs : List ℕ) → Each (λ r. r < X.states) qs → Each (λ D. D < Y.states) (map b qs)
    blocks_known qs l = each_map (λ D. D < Y.states) b qs (each_implies (λ r. r < X.states) (λ r. b r < Y.states) block_known qs l)

    pub state_member : (D : ℕ) → D < Y.states → (q : ℕ) × (q < X.states) × (b q ≡ D)
    state_member D l = block_member X.states b numbered X.states (omega arith) D (omega (arith, C.shape.states_blocks))

    pub states_members : (Ds : List ℕ) → Each (λ D. D < Y.states) Ds → (qs : List ℕ) × Each (λ r. r < X.states) qs × (map b qs ≡ Ds)
    states_members Ds l = block_members X.states b numbered Ds (subst (λ (m : ℕ). Each (λ D. D < m) Ds) C.shape.states_blocks l)

    -- a listed transition of Y goes from the blocks of states of X to the block of a state of X
    pub transition_members : {t : Transition} → Memᴰ t Y.transitions
        → (qs : List ℕ) × (q : ℕ) × Each (λ r. r < X.states) qs × (q < X.states) × (key_at t.symbol (map b qs) (b q) ≡ key t)
    transition_members {t} m =
        let known = each_member (Between Y.states) Y.transitions C.states_known m in
        let (qs, lqs, es) = states_members t.children known.0 in
        let (q, lq, e) = state_member t.target known.1 in
        (qs, q, lqs, lq, ap₂ (key_at t.symbol) es e)

  -- there is only one collapse by the blocks b
  module _ (Y Z : Table) (C : Collapsed d X b Y) (C' : Collapsed d X b Z) where
    states_equal : Y.states ≡ Z.states
    states_equal = C.shape.states_blocks ∙ sym C'.shape.states_blocks

    finals_equal : Y.finals ≡ Z.finals
    finals_equal = ext_get_or 0 Y.finals Z.finals (C.shape.finals_many ∙ states_equal ∙ sym C'.shape.finals_many) (λ i l.
        let (q, lq, e) = state_member Y C i (omega (arith, C.shape.finals_many)) in
        subst (λ (D : ℕ). get_or Y.finals D 0 ≡ get_or Z.finals D 0) e (C.finals_collapsed q lq ∙ sym (C'.finals_collapsed q lq)))

    codes_equal : (t : Transition) → (qs : List ℕ) × (q : ℕ) × Each (λ r. r < X.states) qs × (q < X.states) × (key_at t.symbol (map b qs) (b q) ≡ key t)
        → code_at Y.transitions (key t) ≡ code_at Z.transitions (key t)
    codes_equal t (qs, q, lqs, lq, e) = subst (λ (k : List ℕ). code_at Y.transitions k ≡ code_at Z.transitions k) e
        (C.codes_collapsed t.symbol qs q lqs lq ∙ sym (C'.codes_collapsed t.symbol qs q lqs lq))

    transitions_equal : Y.transitions ≡ Z.transitions
    transitions_equal = transitions_unique Y.transitions Z.transitions C.shape.ascending C'.shape.ascending C.shape.zeros_unlisted C'.shape.zeros_unlisted
        (λ t m. codes_equal t (transition_members Y C m)) (λ u m. codes_equal u (transition_members Z C' m))

    pub collapsed_unique : Y ≡ Z
    collapsed_unique = λ i. record {
      arithmetic = (C.shape.arithmetic_stays ∙ sym C'.shape.arithmetic_stays) i;
      states = states_equal i;
      ranks = (C.shape.ranks_stay ∙ sym C'.shape.ranks_stay) i;
      finals = finals_equal i;
      transitions = transitions_equal i;
    }

-- there is only one collapse by the coarsest blocks
pub collapsed_by_coarsest_unique : (d : Direction) (X Y Z : Table) → CollapsedByCoarsest d X Y → CollapsedByCoarsest d X Z → Y ≡ Z
collapsed_by_coarsest_unique d X Y Z C C' = collapsed_unique d X (block_of C'.blocks) C'.coarsest_blocks.first_use Y Z
    (subst (λ (bs : List ℕ). Collapsed d X (block_of bs) Y) (coarsest_blocks_unique d X C.blocks C'.blocks C.coarsest_blocks C'.coarsest_blocks) C.collapsed) C'.collapsed
