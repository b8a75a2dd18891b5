-- Blocks of single states: the collapse by them is the table itself.
use Rattle.std.specs.Prelude.{◌≡◌, refl, Bool, true, List, map, ℕ, ◌<◌, ◌^◌, eqb, get_or}
use Rattle.std.proofs.Common.{sym, ap, ap₂, ◌∙◌, subst, map-id, arith}
use Rattle.model.specs.Table.{Table, Transition, Each, key, ProperTransition, Proper}
use Rattle.model.proofs.Each.{each_implies, each-get_or, map_each}
use Rattle.theory.specs.Equality.{numbers, lists, same_list, equal_same, same_comm, true_of}
use Rattle.theory.specs.Semiring.{Operations, Laws}
use Rattle.theory.specs.Sum.{only, sum-each}
use Rattle.theory.specs.Below.{below, each_below, below_once}
use Rattle.theory.specs.Arithmetic.{arithmetic, meaning, code_of, code_of-meaning}
use Rattle.theory.specs.Weight.{final}
use Rattle.theory.specs.Blocks.{FirstUse, block_count_own}
use Rattle.theory.proofs.Blocks.{block_count_all}
use Rattle.theory.specs.Bisimulation as General
use Rattle.theory.specs.declared.Direction.{Direction}
use Rattle.theory.specs.declared.Direction.TheVariants.{Backward as backward, Forward as forward}
use Rattle.theory.specs.Direction.{Agree}
use Rattle.theory.proofs.Uses.{agreement}
use Rattle.theory.specs.Entry.{key_at, block_key}
use Rattle.theory.specs.Collapse.{block_final, Collapsed}
use Rattle.theory.proofs.Collapse.{collapsed_unique}
use Rattle.theory.specs.AddingUp.{named, AddedUp}
use Rattle.theory.proofs.AddingUp.{added_collapsed}
use Rattle.theory.proofs.Laws.{laws}

-- Each state of X is its own block.
module _ (X : Table) (proper : Proper X) (b : ℕ → ℕ) (own : (q : ℕ) → q < X.states → b q ≡ q) where
  abbrev S : Operations
  S = arithmetic X.arithmetic

  L : Laws S
  L = laws X.arithmetic

  -- these blocks are a bisimulation in either direction
  pub own_bisimulation : (a : ℕ) (d : Direction) → General.Bisimulation X.states (Agree a X d) b
  own_bisimulation a d = record { agree = λ p q lp lq e. subst (Agree a X d b p) (sym (own p lp) ∙ e ∙ own q lq) ((agreement a X proper.transitions_proper d).agree_self b p) }

  own_final : (d : Direction) (q : ℕ) → q < X.states → block_final X b d q ≡ final X.arithmetic X q
  own_final backward q l = sum-each S (λ p. p < X.states) (below X.states) (each_below X.states) _ _
      (λ p m. ap (λ (c : Bool). only S c (final X.arithmetic X p)) (ap₂ eqb (own p m) (own q l) ∙ same_comm numbers p q))
      ∙ below_once S L X.states q l (final X.arithmetic X)
  own_final forward q l = refl

  own_word : (qs : List ℕ) → Each (λ q. q < X.states) qs → map b qs ≡ qs
  own_word qs l = map_each (λ q. q < X.states) b (λ q. q) own qs l ∙ map-id qs

  own_key : (t : Transition) → ProperTransition X.ranks X.states t → block_key b t ≡ key t
  own_key t p = ap₂ (key_at t.symbol) (own_word t.children p.children_known) (own t.target p.target_known)

  own_named : (d : Direction) (t : Transition) → ProperTransition X.ranks X.states t → named X b (λ D. D) d t ≡ true
  own_named backward t p = true_of _ (equal_same numbers (b t.target) t.target (own t.target p.target_known))
  own_named forward t p = true_of _ (equal_same lists (map b t.children) t.children (own_word t.children p.children_known))

  own_added : (d : Direction) → AddedUp d X b (λ D. D) X
  own_added d = record {
    shape = record {
      arithmetic_stays = refl;
      ranks_stay = refl;
      states_blocks = sym (block_count_own X.states b own X.states (omega arith));
      finals_many = proper.finals_many;
      zeros_unlisted = each_implies (ProperTransition X.ranks X.states) (λ t. 0 < t.code) (λ t p. p.code_positive) X.transitions proper.transitions_proper;
      ascending = proper.ascending;
    };
    finals-added = λ D l. sym (ap (code_of X.arithmetic) (own_final d D l)
        ∙ code_of-meaning X.arithmetic (get_or X.finals D 0) (each-get_or (λ c. c < 2 ^ 32) X.finals D 0 proper.finals_fit (omega arith)));
    sums_added = λ k. sum-each S (ProperTransition X.ranks X.states) X.transitions proper.transitions_proper _ _ (λ t p.
        ap₂ (λ (j : List ℕ) (c : Bool). only S (same_list j k) (only S c (meaning X.arithmetic t.code))) (sym (own_key t p)) (sym (own_named d t p)));
    codes_fit = each_implies (ProperTransition X.ranks X.states) (λ t. t.code < 2 ^ 32) (λ t p. p.code_fits) X.transitions proper.transitions_proper;
  }

  -- the collapse by them is the table itself
  pub own_collapsed : (d : Direction) → Collapsed d X b X
  own_collapsed d = added_collapsed d X b (λ D. D) proper (own_bisimulation X.arithmetic d) (record {
    named_known = λ D l. omega (arith, block_count_own X.states b own X.states (omega arith));
    named_block = λ D l. own D (omega (arith, block_count_own X.states b own X.states (omega arith)));
  }) X (own_added d)

-- so a collapse that merges no states gives the table itself
pub collapsed_same : (d : Direction) (X : Table) → Proper X → (b : ℕ → ℕ) → FirstUse X.states b → (Y : Table) → Collapsed d X b Y → Y.states ≡ X.states → Y ≡ X
collapsed_same d X proper b numbered Y C e = collapsed_unique d X b numbered Y X C
    (own_collapsed X proper b (block_count_all X.states b numbered X.states (omega arith) (sym C.shape.states_blocks ∙ e)) d)
