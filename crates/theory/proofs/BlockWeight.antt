-- The weights of a collapse: which transitions are summed for them, that they have codes, and that any members of the blocks give the same.
use Rattle.std.specs.Prelude.{◌≡◌, refl, ◌≢◌, Bool, ◌&&◌, ℕ, ◌<◌, ◌^◌, T, eqb, get_or}
use Rattle.std.proofs.Common.{sym, ap, ◌∙◌, subst, inl, inr, arith, eqb→eq}
use mathlib.Core.List.{List, [], ◌∷◌, ◌++◌, map, Memᴰ, nil≢cons, cons≢nil, head-eq_of_cons-eq, tail-eq_of_cons-eq}
use Rattle.std.proofs.Math.Facts.{and_yes, yes_and}
use Rattle.std.proofs.Math.Seq.{append_snoc}
use Rattle.model.specs.Table.{Table, Transition, Each, ProperTransition, Proper}
use Rattle.model.proofs.Each.{each_implies, each_append, each-get_or}
use Rattle.theory.specs.Equality.{numbers, lists, same_list, same_list_equal, equal_same}
use Rattle.theory.specs.Semiring.{Operations, Laws}
use Rattle.theory.specs.Sum.{only, sum, sum_same, sum-met, only_and, only_holds}
use Rattle.theory.specs.Below.{below, each_below}
use Rattle.theory.specs.Arithmetic.{arithmetic, meaning, InRange, in_range_zero, in_range_meaning, in_range_sum}
use Rattle.theory.specs.Weight.{final}
use Rattle.theory.specs.declared.Direction.{Direction}
use Rattle.theory.specs.declared.Direction.TheVariants.{Backward as backward, Forward as forward}
use Rattle.theory.specs.Direction.{sum_from, sum_into, Bisimulation}
use Rattle.theory.specs.Entry.{key_at, block_key}
use Rattle.theory.specs.Collapse.{block_weight, block_final}
use Rattle.theory.proofs.Laws.{laws}

module _ (X : Table) (b : ℕ → ℕ) where
  abbrev S : Operations
  S = arithmetic X.arithmetic

  L : Laws S
  L = laws X.arithmetic

  -- the transitions whose weights are summed for blocks
  abbrev pub counts : Direction → ℕ → List ℕ → ℕ → Transition → Bool
  counts backward σ qs q t = same_list (map b t.children) (map b qs) && (eqb t.symbol σ && eqb t.target q)
  counts forward σ qs q t = eqb (b t.target) (b q) && (eqb t.symbol σ && same_list t.children qs)

  pub block_weight_counts : (d : Direction) (σ : ℕ) (qs : List ℕ) (q : ℕ)
      → block_weight X b d σ qs q ≡ sum S X.transitions (λ t. only S (counts d σ qs q t) (meaning X.arithmetic t.code))
  block_weight_counts backward σ qs q = sum_same S X.transitions _ _ (λ t. sym (only_and S (same_list (map b t.children) (map b qs)) (eqb t.symbol σ && eqb t.target q) (meaning X.arithmetic t.code)))
  block_weight_counts forward σ qs q = sum_same S X.transitions _ _ (λ t. sym (only_and S (eqb (b t.target) (b q)) (eqb t.symbol σ && same_list t.children qs) (meaning X.arithmetic t.code)))

  -- backward, their children are in those blocks and their target is q; forward, their children are qs and their target is in that block
  abbrev pub Counts : Direction → ℕ → List ℕ → ℕ → Transition → Type 0
  Counts backward σ qs q t = (t.symbol ≡ σ) × (map b t.children ≡ map b qs) × (t.target ≡ q)
  Counts forward σ qs q t = (t.symbol ≡ σ) × (t.children ≡ qs) × (b t.target ≡ b q)

  pub counts_sound : (d : Direction) (σ : ℕ) (qs : List ℕ) (q : ℕ) (t : Transition) → T (counts d σ qs q t) → Counts d σ qs q t
  counts_sound backward σ qs q t h =
      let (l, m) = and_yes (same_list (map b t.children) (map b qs)) (eqb t.symbol σ && eqb t.target q) h in
      let (s, e) = and_yes (eqb t.symbol σ) (eqb t.target q) m in
      (eqb→eq t.symbol σ s, same_list_equal (map b t.children) (map b qs) l, eqb→eq t.target q e)
  counts_sound forward σ qs q t h =
      let (e, m) = and_yes (eqb (b t.target) (b q)) (eqb t.symbol σ && same_list t.children qs) h in
      let (s, l) = and_yes (eqb t.symbol σ) (same_list t.children qs) m in
      (eqb→eq t.symbol σ s, same_list_equal t.children qs l, eqb→eq (b t.target) (b q) e)

  pub counts_complete : (d : Direction) (σ : ℕ) (qs : List ℕ) (q : ℕ) (t : Transition) → Counts d σ qs q t → T (counts d σ qs q t)
  counts_complete backward σ qs q t (s, l, e) = yes_and (same_list (map b t.children) (map b qs)) (eqb t.symbol σ && eqb t.target q) (equal_same lists _ _ l)
      (yes_and (eqb t.symbol σ) (eqb t.target q) (equal_same numbers _ _ s) (equal_same numbers _ _ e))
  counts_complete forward σ qs q t (s, l, e) = yes_and (eqb (b t.target) (b q)) (eqb t.symbol σ && same_list t.children qs) (equal_same numbers _ _ e)
      (yes_and (eqb t.symbol σ) (same_list t.children qs) (equal_same numbers _ _ s) (equal_same lists _ _ l))

  pub counts_blocks : (d : Direction) (σ : ℕ) (qs : List ℕ) (q : ℕ) (t : Transition) → Counts d σ qs q t → block_key b t ≡ key_at σ (map b qs) (b q)
  counts_blocks backward σ qs q t (s, l, e) = λ i. key_at (s i) (l i) (b (e i))
  counts_blocks forward σ qs q t (s, l, e) = λ i. key_at (s i) (map b (l i)) (e i)

  -- the weight for blocks is zero unless a listed transition has those blocks
  pub block_weight-met : (d : Direction) (σ : ℕ) (qs : List ℕ) (q : ℕ) → block_weight X b d σ qs q ≢ S.zero
      → (t : Transition) × Memᴰ t X.transitions × (block_key b t ≡ key_at σ (map b qs) (b q))
  block_weight-met d σ qs q n = elim (sum-met S L X.transitions (counts d σ qs q) (λ t. meaning X.arithmetic t.code))
      [ inl r ↦ (r.0, r.1, counts_blocks d σ qs q r.0 (counts_sound d σ qs q r.0 r.2)) | inr e ↦ absurd (n (block_weight_counts d σ qs q ∙ e)) ]

  module _ (proper : Proper X) where
    codes_fit : Each (λ (t : Transition). t.code < 2 ^ 32) X.transitions
    codes_fit = each_implies (ProperTransition X.ranks X.states) (λ t. t.code < 2 ^ 32) (λ t p. p.code_fits) X.transitions proper.transitions_proper

    -- the weights of a collapse have codes
    pub in_range_block_weight : (d : Direction) (σ : ℕ) (qs : List ℕ) (q : ℕ) → InRange X.arithmetic (block_weight X b d σ qs q)
    in_range_block_weight d σ qs q = subst (InRange X.arithmetic) (sym (block_weight_counts d σ qs q)) (in_range_sum X.arithmetic (λ t. t.code < 2 ^ 32) X.transitions codes_fit _
        (λ t l. only_holds S (InRange X.arithmetic) (in_range_zero X.arithmetic) (counts d σ qs q t) (meaning X.arithmetic t.code) (in_range_meaning X.arithmetic t.code l)))

    in_range_final : (q : ℕ) → InRange X.arithmetic (final X.arithmetic X q)
    in_range_final q = in_range_meaning X.arithmetic (get_or X.finals q 0) (each-get_or (λ c. c < 2 ^ 32) X.finals q 0 proper.finals_fit (omega arith))

    pub in_range_block_final : (d : Direction) (q : ℕ) → InRange X.arithmetic (block_final X b d q)
    in_range_block_final backward q = in_range_sum X.arithmetic (λ p. p < X.states) (below X.states) (each_below X.states) _
        (λ p l. only_holds S (InRange X.arithmetic) (in_range_zero X.arithmetic) (eqb (b p) (b q)) (final X.arithmetic X p) (in_range_final p))
    in_range_block_final forward q = in_range_final q

  -- any member's final weight
  pub block_final_member : (d : Direction) → Bisimulation d X b → (p q : ℕ) → p < X.states → q < X.states → b p ≡ b q → block_final X b d p ≡ block_final X b d q
  block_final_member backward bis p q lp lq e = ap (λ (D : ℕ). sum S (below X.states) (λ r. only S (eqb (b r) D) (final X.arithmetic X r))) e
  block_final_member forward bis p q lp lq e = (bis.agree p q lp lq e).finals_equal

  any_children : Bisimulation forward X b → (σ D : ℕ) (before qs rs : List ℕ) → Each (λ r. r < X.states) before → Each (λ r. r < X.states) qs → Each (λ r. r < X.states) rs
      → map b qs ≡ map b rs → sum_into X.arithmetic X b σ (before ++ qs) D ≡ sum_into X.arithmetic X b σ (before ++ rs) D
  any_children bis σ D before [] [] lb lq lr e = refl
  any_children bis σ D before [] (r ∷ rs) lb lq lr e = absurd (nil≢cons e)
  any_children bis σ D before (q ∷ qs) [] lb lq lr e = absurd (cons≢nil e)
  any_children bis σ D before (q ∷ qs) (r ∷ rs) lb lq lr e =
      (bis.agree q r lq.0 lr.0 (head-eq_of_cons-eq e)).sums_equal σ before qs lb lq.1 D
      ∙ ap (λ (ws : List ℕ). sum_into X.arithmetic X b σ ws D) (sym (append_snoc before r qs))
      ∙ any_children bis σ D (before ++ (r ∷ [])) qs rs (each_append (λ r. r < X.states) before (r ∷ []) lb (lr.0, tt)) lq.1 lr.1 (tail-eq_of_cons-eq e)
      ∙ ap (λ (ws : List ℕ). sum_into X.arithmetic X b σ ws D) (append_snoc before r rs)

  -- any members as children and target
  pub block_weight_member : (d : Direction) → Bisimulation d X b → (σ : ℕ) (qs rs : List ℕ) (p q : ℕ) → Each (λ r. r < X.states) qs → Each (λ r. r < X.states) rs
      → p < X.states → q < X.states → map b qs ≡ map b rs → b p ≡ b q → block_weight X b d σ qs p ≡ block_weight X b d σ rs q
  block_weight_member backward bis σ qs rs p q lqs lrs lp lq es e = (bis.agree p q lp lq e).sums_equal σ (map b qs) ∙ ap (λ (Ds : List ℕ). sum_from X.arithmetic X b σ Ds q) es
  block_weight_member forward bis σ qs rs p q lqs lrs lp lq es e = any_children bis σ (b p) [] qs rs tt lqs lrs es ∙ ap (sum_into X.arithmetic X b σ rs) e
