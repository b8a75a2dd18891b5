-- What is added up for named members is the collapse.
use Rattle.std.specs.Prelude.{◌≡◌, ◌⊎◌, Bool, ◌&&◌, ℕ, ◌<◌, ◌^◌, T}
use Rattle.std.proofs.Common.{sym, ap, ap₂, ◌∙◌, subst, inl, inr, arith, eqb→eq}
use mathlib.Core.List.{List, [], map, map-map, Memᴰ}
use Rattle.std.proofs.Math.Facts.{and_yes, yes_and}
use Rattle.model.specs.Table.{Table, Transition, Each, key, Ascending, ProperTransition, Proper}
use Rattle.model.proofs.Each.{each_implies, each_map, each_members, each_member, map_each}
use Rattle.theory.specs.Equality.{numbers, lists, same_list, same_list_equal, equal_same, test_iff}
use Rattle.theory.specs.Semiring.{Operations, Laws}
use Rattle.theory.specs.Sum.{only, sum_same, sum-met, only_and}
use Rattle.theory.specs.Grouping.{key_sums_met}
use Rattle.theory.specs.Arithmetic.{arithmetic, meaning, code_of, code_of-meaning, code_of_zero, meaning-code_of}
use Rattle.theory.specs.Blocks.{block_of, FirstUse, block_count_above, member, member_shares}
use Rattle.theory.proofs.Blocks.{block_member}
use Rattle.theory.specs.Bisimulation as General
use Rattle.theory.specs.declared.Direction.{Direction}
use Rattle.theory.specs.declared.Direction.TheVariants.{Backward as backward, Forward as forward}
use Rattle.theory.specs.Direction.{Agree, Bisimulation, CoarsestBlocks}
use Rattle.theory.proofs.Uses.{agreement}
use Rattle.theory.specs.Entry.{key_at, key_at_parts, block_key, code_at, weight_at_key, Between, code_at_own, code_at_holds}
use Rattle.theory.proofs.Entry.{weight_at_key_listed}
use Rattle.theory.specs.Collapse.{block_weight, Collapsed, CollapsedByCoarsest}
use Rattle.theory.proofs.BlockWeight.{counts, Counts, counts_sound, counts_complete, counts_blocks, block_weight_counts, block_weight_member, block_final_member}
use Rattle.theory.specs.AddingUp.{Names, named, named_weight, named_sum, AddedUp}
use Rattle.theory.proofs.Laws.{laws}

pub member_names : (n : ℕ) (b : ℕ → ℕ) → FirstUse n b → Names n b (member b n)
member_names n b numbered = record {
  named_known = λ D l. let (q, lq, e) = block_member n b numbered n (omega arith) D l in subst (λ (D : ℕ). member b n D < n) e (member_shares b n q lq).0;
  named_block = λ D l. let (q, lq, e) = block_member n b numbered n (omega arith) D l in subst (λ (D : ℕ). b (member b n D) ≡ D) e (member_shares b n q lq).1;
}

module _ (d : Direction) (X : Table) (b r : ℕ → ℕ) (proper : Proper X) (bis : Bisimulation d X b) (names : Names X.states b r) where
  abbrev a : ℕ
  a = X.arithmetic

  abbrev S : Operations
  S = arithmetic a

  L : Laws S
  L = laws a

  -- the named member of a state's block
  abbrev name : ℕ → ℕ
  name q = r (b q)

  name_known : (q : ℕ) → q < X.states → name q < X.states
  name_known q l = names.named_known (b q) (block_count_above b X.states q l)

  name_block : (q : ℕ) → q < X.states → b (name q) ≡ b q
  name_block q l = names.named_block (b q) (block_count_above b X.states q l)

  module _ (σ : ℕ) (qs : List ℕ) (q : ℕ) (lqs : Each (λ p. p < X.states) qs) (lq : q < X.states) where
    abbrev k : List ℕ
    k = key_at σ (map b qs) (b q)

    blocks_same : map b (map name qs) ≡ map b qs
    blocks_same = map-map b name qs ∙ map_each (λ p. p < X.states) (λ p. b (name p)) b name_block qs lqs

    names_same : (ps : List ℕ) → map b ps ≡ map b qs → map name ps ≡ map name qs
    names_same ps e = sym (map-map r b ps) ∙ ap (map r) e ∙ map-map r b qs

    named_of : (d : Direction) (t : Transition) → Counts X b d σ (map name qs) (name q) t → T (named X b r d t)
    named_of backward t (s, l, e) = equal_same numbers (name t.target) t.target (ap name e ∙ ap r (name_block q lq) ∙ sym e)
    named_of forward t (s, l, e) = equal_same lists (map name t.children) t.children (ap (map name) l ∙ names_same (map name qs) blocks_same ∙ sym l)

    of_named : (d : Direction) (t : Transition) → block_key b t ≡ k → T (named X b r d t) → Counts X b d σ (map name qs) (name q) t
    of_named d t f h = go d (key_at_parts t.symbol σ (map b t.children) (map b qs) (b t.target) (b q) f) h
      where
        go : (d : Direction) → (t.symbol ≡ σ) × (map b t.children ≡ map b qs) × (b t.target ≡ b q) → T (named X b r d t) → Counts X b d σ (map name qs) (name q) t
        go backward (s, l, e) h = (s, l ∙ sym blocks_same, sym (eqb→eq (name t.target) t.target h) ∙ ap r e)
        go forward (s, l, e) h = (s, sym (same_list_equal (map name t.children) t.children h) ∙ names_same t.children l, e ∙ sym (name_block q lq))

    -- the transitions that are summed for the named members are the named ones with their blocks
    counts_named : (t : Transition) → counts X b d σ (map name qs) (name q) t ≡ (same_list (block_key b t) k && named X b r d t)
    counts_named t = test_iff (counts X b d σ (map name qs) (name q) t) (same_list (block_key b t) k && named X b r d t)
        (λ h. let c = counts_sound X b d σ (map name qs) (name q) t h in yes_and (same_list (block_key b t) k) (named X b r d t)
        (equal_same lists (block_key b t) k (counts_blocks X b d σ (map name qs) (name q) t c ∙ ap₂ (key_at σ) blocks_same (name_block q lq))) (named_of d t c))
        (λ h. let (f, n) = and_yes (same_list (block_key b t) k) (named X b r d t) h in
        counts_complete X b d σ (map name qs) (name q) t (of_named d t (same_list_equal (block_key b t) k f) n))

    -- what is added up is the weight for the blocks
    pub named_sum-block_weight : named_sum X b r d k ≡ block_weight X b d σ qs q
    named_sum-block_weight = sum_same S X.transitions _ _ (λ t. sym (only_and S (same_list (block_key b t) k) (named X b r d t) (meaning a t.code))
        ∙ ap (λ (c : Bool). only S c (meaning a t.code)) (sym (counts_named t)))
        ∙ sym (block_weight_counts X b d σ (map name qs) (name q))
        ∙ block_weight_member X b d bis σ (map name qs) qs (name q) q (each_map (λ p. p < X.states) name qs (each_implies (λ p. p < X.states) (λ p. name p < X.states) name_known qs lqs)) lqs
        (name_known q lq) lq blocks_same (name_block q lq)

  module _ (Y : Table) (A : AddedUp d X b r Y) where
    code_at_added : (k : List ℕ) → code_at Y.transitions k ≡ code_of a (named_sum X b r d k)
    code_at_added k = sym (code_of-meaning a (code_at Y.transitions k) (code_at_holds (λ c. c < 2 ^ 32) (omega arith) Y.transitions A.codes_fit k))
        ∙ ap (code_of a) (sym (weight_at_key_listed a Y.transitions A.shape.ascending k) ∙ A.sums_added k)

    block_added : (q : ℕ) → q < X.states → b q < Y.states
    block_added q l = omega (arith, block_count_above b X.states q l, A.shape.states_blocks)

    -- a listed transition has the blocks of one of X
    states_added : {t : Transition} → Memᴰ t Y.transitions → Between Y.states t
    states_added {t} m = go (sum-met S L X.transitions (λ u. same_list (block_key b u) (key t)) (named_weight X b r d))
      where
        own : t.code ≡ code_of a (named_sum X b r d (key t))
        own = sym (code_at_own Y.transitions A.shape.ascending m) ∙ code_at_added (key t)

        go : ((u : Transition) × Memᴰ u X.transitions × T (same_list (block_key b u) (key t))) ⊎ (named_sum X b r d (key t) ≡ S.zero)
            → Between Y.states t
        go (inl (u, mu, h)) =
            let (s, l, e) = key_at_parts u.symbol t.symbol (map b u.children) t.children (b u.target) t.target (same_list_equal (block_key b u) (key t) h) in
            let p = each_member (ProperTransition X.ranks X.states) X.transitions proper.transitions_proper mu in (
              subst (Each (λ D. D < Y.states)) l (each_map (λ D. D < Y.states) b u.children (each_implies (λ q. q < X.states) (λ q. b q < Y.states) block_added u.children p.children_known)),
              subst (λ (D : ℕ). D < Y.states) e (block_added u.target p.target_known),
            )
        go (inr z) = let n : t.code ≡ 0 = own ∙ ap (code_of a) z ∙ code_of_zero a in
            absurd (omega (arith, each_member (λ t. 0 < t.code) Y.transitions A.shape.zeros_unlisted m))

    -- what is added up is the collapse
    pub added_collapsed : Collapsed d X b Y
    added_collapsed = record {
      shape = A.shape;
      finals_collapsed = λ q l. A.finals-added (b q) (block_added q l) ∙ ap (code_of a) (block_final_member X b d bis (name q) q (name_known q l) l (name_block q l));
      codes_collapsed = λ σ qs q lqs lq. code_at_added (key_at σ (map b qs) (b q)) ∙ ap (code_of a) (named_sum-block_weight σ qs q lqs lq);
      states_known = each_members (Between Y.states) Y.transitions (λ t m. states_added m);
    }

-- the sums are right if each listed code is that of the sum for its key, and for the key of each transition's blocks the code of the sum is listed
pub sums_by_entries : (d : Direction) (X : Table) (b r : ℕ → ℕ) (ts : List Transition) → Ascending [] ts
    → Each (λ t. t.code ≡ code_of X.arithmetic (named_sum X b r d (key t))) ts
    → Each (λ u. code_at ts (block_key b u) ≡ code_of X.arithmetic (named_sum X b r d (block_key b u))) X.transitions
    → (k : List ℕ) → weight_at_key X.arithmetic ts k ≡ named_sum X b r d k
sums_by_entries d X b r ts up ht hu = key_sums_met (arithmetic X.arithmetic) lists (laws X.arithmetic) ts key (λ t. meaning X.arithmetic t.code) X.transitions (block_key b) (named_weight X b r d)
    (each_members _ ts (λ t m. level (key t) (code_at_own ts up m
    ∙ each_member (λ t. t.code ≡ code_of X.arithmetic (named_sum X b r d (key t))) ts ht m)))
    (each_implies (λ u. code_at ts (block_key b u) ≡ code_of X.arithmetic (named_sum X b r d (block_key b u))) _ (λ u. level (block_key b u)) X.transitions hu)
  where
    level : (k : List ℕ) → code_at ts k ≡ code_of X.arithmetic (named_sum X b r d k) → weight_at_key X.arithmetic ts k ≡ named_sum X b r d k
    level k e = weight_at_key_listed X.arithmetic ts up k ∙ ap (meaning X.arithmetic) e ∙ meaning-code_of X.arithmetic (named_sum X b r d k)

-- what is added up by the coarsest blocks is the collapse by them
pub added_collapsed_by_coarsest : (d : Direction) (X : Table) → Proper X → (blocks : List ℕ) → CoarsestBlocks d X blocks → (r : ℕ → ℕ) → Names X.states (block_of blocks) r
    → (Y : Table) → AddedUp d X (block_of blocks) r Y → CollapsedByCoarsest d X Y
added_collapsed_by_coarsest d X proper blocks B r names Y A = record {
  blocks = blocks;
  coarsest_blocks = B;
  collapsed = added_collapsed d X (block_of blocks) r proper
      (General.coarsest_bisimulation X.states (Agree X.arithmetic X d) (agreement X.arithmetic X proper.transitions_proper d) (block_of blocks) B.coarsest) names Y A;
}
