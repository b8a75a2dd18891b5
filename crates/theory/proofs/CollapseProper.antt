-- A collapse of a table within document 01's bounds is within them.
use Rattle.std.specs.Prelude.{◌≡◌, ◌≢◌, ℕ, ◌<◌, ◌≤◌, ◌^◌, length, get_or}
use Rattle.std.proofs.Common.{sym, ap, ◌∙◌, subst, arith}
use mathlib.Core.List.Memᴰ
use mathlib.Core.List.{List, [], map, Memᴰ}
use Rattle.std.proofs.lemmas.List.{length-map}
use Rattle.model.specs.Table.{Table, Transition, Each, key, ProperTransition, Proper}
use Rattle.model.proofs.Each.{each_members, each_member, each_places}
use Rattle.theory.specs.Equality.{lists}
use Rattle.theory.specs.Arithmetic.{arithmetic, code_of, code_of_zero}
use Rattle.theory.specs.Blocks.{block_of, FirstUse}
use Rattle.theory.proofs.Blocks.{block_count_few}
use Rattle.theory.specs.declared.Direction.{Direction}
use Rattle.theory.specs.Order.{list_order}
use Rattle.theory.specs.Listing.{rising_few}
use Rattle.theory.specs.Entry.{key_at, key_at_parts, block_key, code_at, Between, code_at_own, ascending_rising}
use Rattle.theory.specs.Collapse.{block_weight, Collapsed, CollapsedByCoarsest}
use Rattle.theory.proofs.Collapse.{block_known, state_member, transition_members}
use Rattle.theory.proofs.BlockWeight.{block_weight-met, in_range_block_weight, in_range_block_final}

module _ (d : Direction) (X : Table) (b : ℕ → ℕ) (numbered : FirstUse X.states b) (Y : Table) (C : Collapsed d X b Y) where
  -- no more states than before
  pub collapsed_few : Y.states ≤ X.states
  collapsed_few = omega (arith, C.shape.states_blocks, block_count_few X.states b numbered X.states (omega arith))

  module _ (proper : Proper X) where
    -- a listed transition has the code of a weight for blocks, and the blocks of a transition of X
    transition_from : {t : Transition} → Memᴰ t Y.transitions → (t.code < 2 ^ 32) × ((u : Transition) × Memᴰ u X.transitions × (block_key b u ≡ key t))
    transition_from {t} m = go (transition_members d X b numbered Y C m)
      where
        go : (qs : List ℕ) × (q : ℕ) × Each (λ r. r < X.states) qs × (q < X.states) × (key_at t.symbol (map b qs) (b q) ≡ key t)
            → (t.code < 2 ^ 32) × ((u : Transition) × Memᴰ u X.transitions × (block_key b u ≡ key t))
        go (qs, q, lqs, lq, e) = (omega (arith, own, in_range_block_weight X b proper d t.symbol qs q), (met.0, met.1, met.2 ∙ e))
          where
            own : t.code ≡ code_of X.arithmetic (block_weight X b d t.symbol qs q)
            own = sym (code_at_own Y.transitions C.shape.ascending m) ∙ ap (code_at Y.transitions) (sym e) ∙ C.codes_collapsed t.symbol qs q lqs lq

            some : block_weight X b d t.symbol qs q ≢ (arithmetic X.arithmetic).zero
            some z = omega (arith, own ∙ ap (code_of X.arithmetic) z ∙ code_of_zero X.arithmetic, each_member (λ t. 0 < t.code) Y.transitions C.shape.zeros_unlisted m)

            met : (u : Transition) × Memᴰ u X.transitions × (block_key b u ≡ key_at t.symbol (map b qs) (b q))
            met = block_weight-met X b d t.symbol qs q some

    -- no more transitions than before
    pub transitions_fewer : length Y.transitions ≤ length X.transitions
    transitions_fewer = subst (λ (k : ℕ). length Y.transitions ≤ k) (length-map X.transitions (block_key b))
        (rising_few lists list_order key (λ t. t.code) 0 [] Y.transitions (ascending_rising [] Y.transitions C.shape.ascending) (map (block_key b) X.transitions)
        (λ t m. let (u, mu, e) = (transition_from m).1 in subst (λ (k : List ℕ). Memᴰ k (map (block_key b) X.transitions)) e (Memᴰ.map (block_key b) mu)))

    transition_proper : {t : Transition} → Memᴰ t Y.transitions → ProperTransition X.ranks Y.states t
    transition_proper {t} m =
        let (fits, (u, mu, e)) = transition_from m in
        let (s, cs, g) = key_at_parts u.symbol t.symbol (map b u.children) t.children (b u.target) t.target e in
        let p = each_member (ProperTransition X.ranks X.states) X.transitions proper.transitions_proper mu in
        let known = each_member (Between Y.states) Y.transitions C.states_known m in
        record {
          symbol_known = subst (λ (σ : ℕ). σ < length X.ranks) s p.symbol_known;
          children_many = ap length (sym cs) ∙ length-map u.children b ∙ p.children_many ∙ ap (λ (σ : ℕ). get_or X.ranks σ 0) s;
          children_known = known.0;
          target_known = known.1;
          code_positive = each_member (λ t. 0 < t.code) Y.transitions C.shape.zeros_unlisted m;
          code_fits = fits;
        }

    pub collapsed_proper : Proper Y
    collapsed_proper = record {
      arithmetic_known = omega (arith, C.shape.arithmetic_stays, proper.arithmetic_known);
      states_some = omega (arith, block_known d X b numbered Y C 0 proper.states_some);
      states_few = omega (arith, collapsed_few, proper.states_few);
      symbols_some = subst (λ (ks : List ℕ). 1 ≤ length ks) (sym C.shape.ranks_stay) proper.symbols_some;
      symbols_few = subst (λ (ks : List ℕ). length ks ≤ 128) (sym C.shape.ranks_stay) proper.symbols_few;
      ranks_small = subst (Each (λ k. k ≤ 4)) (sym C.shape.ranks_stay) proper.ranks_small;
      finals_many = C.shape.finals_many;
      finals_fit = each_places (λ c. c < 2 ^ 32) Y.finals 0 (λ i l.
          let (q, lq, e) = state_member d X b numbered Y C i (omega (arith, C.shape.finals_many)) in
          subst (λ (D : ℕ). get_or Y.finals D 0 < 2 ^ 32) e (omega (arith, C.finals_collapsed q lq, in_range_block_final X b proper d q)));
      transitions_few = omega (arith, transitions_fewer, proper.transitions_few);
      transitions_proper = each_members (ProperTransition Y.ranks Y.states) Y.transitions
          (λ t m. subst (λ (ks : List ℕ). ProperTransition ks Y.states t) (sym C.shape.ranks_stay) (transition_proper m));
      ascending = C.shape.ascending;
    }

pub collapsed_by_coarsest_proper : (d : Direction) (X Y : Table) → CollapsedByCoarsest d X Y → Proper X → Proper Y
collapsed_by_coarsest_proper d X Y C = collapsed_proper d X (block_of C.blocks) C.coarsest_blocks.first_use Y C.collapsed
