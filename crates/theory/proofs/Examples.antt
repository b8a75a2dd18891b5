-- Document 01's examples hold.
use Rattle.std.specs.Prelude.{◌≡◌, refl, List, [], ◌∷◌, ℕ, ◌^◌, ◌<◌, ◌≤◌, length, get_or}
use Rattle.std.proofs.Common.{arith}
use Rattle.model.specs.Table.{Table, Transition, Each, key, ProperTransition, Proper, Ascending}
use Rattle.theory.specs.Below.{below, below_each}
use Rattle.theory.specs.Arithmetic.{code_of}
use Rattle.theory.specs.Weight.{weight_at, weight, value}
use Rattle.theory.specs.Sheet.{sheet}
use Rattle.theory.specs.Blocks.{block_of, block_count, member}
use Rattle.theory.specs.declared.Direction.{Direction}
use Rattle.theory.specs.declared.Direction.TheVariants.{Backward as backward, Forward as forward}
use Rattle.theory.specs.Direction.{CoarsestBlocks}
use Rattle.theory.specs.Uses.{uses}
use Rattle.theory.proofs.Decision.{coarsest_test_sound}
use Rattle.theory.specs.Entry.{block_key, code_at}
use Rattle.theory.specs.Collapse.{block_final, CollapsedByCoarsest}
use Rattle.theory.specs.AddingUp.{named_sum}
use Rattle.theory.proofs.AddingUp.{member_names, sums_by_entries, added_collapsed_by_coarsest}
use Rattle.theory.specs.Examples.{table, table_a, table_a_collapsed, table_b, table_b_collapsed, table_c, table_c_collapsed, table_d, table_d_collapsed, table_e, table_f, Examples}

proper : (a n : ℕ) (fs : List ℕ) (ts : List Transition) → (a ≤ 1) × (1 ≤ n) × (n ≤ 256) × (length fs ≡ n) × Each (λ c. c < 2 ^ 32) fs × (length ts ≤ 4000)
    → Each (ProperTransition (0 ∷ 1 ∷ []) n) ts → Ascending [] ts → Proper (table a n fs ts)
proper a n fs ts h m up = record {
  arithmetic_known = h.0;
  states_some = h.1;
  states_few = h.2;
  symbols_some = omega arith;
  symbols_few = omega arith;
  ranks_small = omega arith;
  finals_many = h.3;
  finals_fit = h.4;
  transitions_few = h.5;
  transitions_proper = m;
  ascending = up;
}

proper_a : Proper table_a
proper_a = proper 0 3 _ _ (omega arith) (omega arith) (omega arith)

pub proper_b : Proper table_b
proper_b = proper 0 3 _ _ (omega arith) (omega arith) (omega arith)

proper_c : Proper table_c
proper_c = proper 1 3 _ _ (omega arith) (omega arith) (omega arith)

proper_d : Proper table_d
proper_d = proper 0 3 _ _ (omega arith) (omega arith) (omega arith)

proper_e : Proper table_e
proper_e = proper 0 4 _ _ (omega arith) (omega arith) (omega arith)

proper_f : Proper table_f
proper_f = proper 0 1 _ _ (omega arith) (omega arith) (omega arith)

-- what is to be computed of a collapse
abbrev Computed : Direction → Table → List ℕ → Table → Type 0
Computed d X blocks Y = (Y.arithmetic ≡ X.arithmetic) × (Y.states ≡ block_count (block_of blocks) X.states) × (length Y.finals ≡ Y.states)
    × Each (λ D. get_or Y.finals D 0 ≡ code_of X.arithmetic (block_final X (block_of blocks) d (member (block_of blocks) X.states D))) (below Y.states)
    × Each (λ t. t.code ≡ code_of X.arithmetic (named_sum X (block_of blocks) (member (block_of blocks) X.states) d (key t))) Y.transitions
    × Each (λ t. code_at Y.transitions (block_key (block_of blocks) t) ≡ code_of X.arithmetic (named_sum X (block_of blocks) (member (block_of blocks) X.states) d (block_key (block_of blocks) t))) X.transitions
    × Each (λ t. 0 < t.code) Y.transitions × Each (λ t. t.code < 2 ^ 32) Y.transitions × Ascending [] Y.transitions

computed : (d : Direction) (X : Table) → Proper X → (blocks : List ℕ) → CoarsestBlocks d X blocks → (Y : Table) → Y.ranks ≡ X.ranks → Computed d X blocks Y → CollapsedByCoarsest d X Y
computed d X proper blocks B Y ks (a, n, m, fs, ts, us, zs, cs, up) = added_collapsed_by_coarsest d X proper blocks B (member (block_of blocks) X.states) (member_names X.states (block_of blocks) B.first_use) Y (record {
  shape = record { arithmetic_stays = a; ranks_stay = ks; states_blocks = n; finals_many = m; zeros_unlisted = zs; ascending = up };
  finals-added = below_each _ Y.states fs;
  sums_added = sums_by_entries d X (block_of blocks) (member (block_of blocks) X.states) Y.transitions up ts us;
  codes_fit = cs;
})

backward_a : CoarsestBlocks backward table_a (0 ∷ 0 ∷ 1 ∷ [])
unfolding uses
backward_a = coarsest_test_sound backward table_a proper_a [] (0 ∷ 0 ∷ 1 ∷ []) tt

forward_a : CoarsestBlocks forward table_a (0 ∷ 1 ∷ 2 ∷ [])
unfolding uses
forward_a = coarsest_test_sound forward table_a proper_a [] (0 ∷ 1 ∷ 2 ∷ []) tt

forward_b : CoarsestBlocks forward table_b (0 ∷ 0 ∷ 1 ∷ [])
unfolding uses
forward_b = coarsest_test_sound forward table_b proper_b [] (0 ∷ 0 ∷ 1 ∷ []) tt

backward_c : CoarsestBlocks backward table_c (0 ∷ 0 ∷ 1 ∷ [])
unfolding uses
backward_c = coarsest_test_sound backward table_c proper_c [] (0 ∷ 0 ∷ 1 ∷ []) tt

forward_d : CoarsestBlocks forward table_d (0 ∷ 1 ∷ 1 ∷ [])
unfolding uses
forward_d = coarsest_test_sound forward table_d proper_d [] (0 ∷ 1 ∷ 1 ∷ []) tt

unchanged_f : (d : Direction) → CollapsedByCoarsest d table_f table_f
unfolding uses
unchanged_f backward = computed backward table_f proper_f (0 ∷ []) (coarsest_test_sound backward table_f proper_f [] (0 ∷ []) tt) table_f refl (omega arith)
unchanged_f forward = computed forward table_f proper_f (0 ∷ []) (coarsest_test_sound forward table_f proper_f [] (0 ∷ []) tt) table_f refl (omega arith)

pub examples : Examples
unfolding value weight weight_at sheet uses
examples = record {
  p1 = backward_a;
  p2 = computed backward table_a proper_a (0 ∷ 0 ∷ 1 ∷ []) backward_a table_a_collapsed refl (omega arith);
  p3 = forward_a;
  p3_collapsed = computed forward table_a proper_a (0 ∷ 1 ∷ 2 ∷ []) forward_a table_a refl (omega arith);
  p4_weight = refl;
  p4_collapsed = refl;
  p4_sheet = refl;
  p5_forward = forward_b;
  p5_collapsed = computed forward table_b proper_b (0 ∷ 0 ∷ 1 ∷ []) forward_b table_b_collapsed refl (omega arith);
  p5_backward = coarsest_test_sound backward table_b proper_b [] (0 ∷ 1 ∷ 2 ∷ []) tt;
  p5_weight = refl;
  p6_backward = backward_c;
  p6_collapsed = computed backward table_c proper_c (0 ∷ 0 ∷ 1 ∷ []) backward_c table_c_collapsed refl (omega arith);
  p6_seven = refl;
  p6_weight = refl;
  p7_forward = forward_d;
  p7_collapsed = computed forward table_d proper_d (0 ∷ 1 ∷ 1 ∷ []) forward_d table_d_collapsed refl (omega arith);
  p7_weight = refl;
  p8_forward = coarsest_test_sound forward table_e proper_e ((0 ∷ 0 ∷ 0 ∷ 1 ∷ []) ∷ (0 ∷ 0 ∷ 1 ∷ 2 ∷ []) ∷ []) (0 ∷ 1 ∷ 2 ∷ 3 ∷ []) tt;
  p9_unchanged = unchanged_f;
  p9_weight = refl;
  p10_1 = refl;
  p10_2 = refl;
  p10_3 = refl;
  p10_4 = refl;
  p10_greatest = refl;
  p10_least = refl;
}
