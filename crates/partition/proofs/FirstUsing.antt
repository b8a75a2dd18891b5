-- Blocks are numbered by first use, state by state. A state of each block met so far stands for it.
use Prim.Native.Nat.{ℕ, suc, ◌+◌, ◌≤◌, ◌<◌, max}
use mathlib.Core.List.{List}
use mathlib.Core.Logic.{◌↔◌, ◌≢◌}
use mathlib.Core.Path.{◌≡◌, refl, sym, ap, ◌∙◌}
use native.Mathlib.Decide.{ℕ_discrete}
use native.Mathlib.Numerals.{add-one}
use native.Mathlib.Omega.{arith}
use borrow.Author.Count.{below_more}
use lib.ListN.{length, get_or, set, replicate, length-set, length-replicate, get_or-replicate}
use lib.Seq.{get_or-set_same, get_or-set_other}
use Rattle.std.specs.Prelude.{Option, Some, None}
use Rattle.std.proofs.lemmas.Option.{none-some, same_Some}
use Rattle.states.specs.declared.State.{State}
use Rattle.theory.specs.Blocks.{block_of, block_count, block_count_same, block_count_above}
use Rattle.theory.proofs.Blocks.{block_count_few}
use Rattle.partition.specs.Numbering.{FirstUsed}
use Rattle.partition.proofs.Sharing.{older, newest, sharing_goes_on}

module _ (before : List ℕ) where
  -- the states below q have their new numbers; a name is a state of its block, and each old block met has one
  pub record FirstUsing (blocks : List ℕ) (names : List (Option State)) (number q : ℕ) : Type 0 where
    pub used : FirstUsed q before blocks number
    pub known : (D : ℕ) → D < 256 → (first : State) → get_or names D None ≡ Some first → (first.0 < q) × (get_or before first.0 0 ≡ D)
    pub met : (p : ℕ) → p < q → get_or names (get_or before p 0) None ≢ None
    pub names_long : length names ≡ 256

  pub first_using_starts : (blocks : List ℕ) → length blocks ≡ 256 → FirstUsing blocks (replicate 256 None) 0 0
  first_using_starts blocks long = record {
    used = record { same = λ p q l. absurd (omega arith); first_use = record { next = λ i l. absurd (omega arith) }; counts = refl; long = long };
    known = λ D l first e. absurd (none-some first (sym (get_or-replicate {A = Option State} 256 D None None l) ∙ e));
    met = λ p l. absurd (omega arith);
    names_long = length-replicate {A = Option State} 256 None;
  }

  module _ (blocks : List ℕ) (names : List (Option State)) (number q : ℕ) (so_far : FirstUsing blocks names number q) where
    pub first_using_few : number ≤ q
    first_using_few = omega (arith, so_far.used.counts, block_count_few q (block_of blocks) so_far.used.first_use q (omega arith))

    module _ (inside : q < 256) where
      fits : q < length blocks
      fits = omega (arith, so_far.used.long)

      count_same : (v i : ℕ) → i ≤ q → block_count (block_of (set blocks q v)) i ≡ block_count (block_of blocks) i
      count_same v i l = block_count_same (block_of (set blocks q v)) (block_of blocks) i (λ j h. older blocks q v fits j (omega arith))

      -- q gets the number v
      step : (v number' : ℕ) → v ≤ number → number' ≡ max number (suc v) → ((p : ℕ) → p < q → (get_or blocks p 0 ≡ v) ↔ (get_or before p 0 ≡ get_or before q 0)) → FirstUsed (q + 1) before (set blocks q v) number'
      step v number' known is-next shares = record {
        same = sharing_goes_on blocks q v fits (λ p r. get_or before p 0 ≡ get_or before r 0) (λ p. refl) (λ p r e. sym e) so_far.used.same shares;
        first_use = record {
          next = below_more (λ (i : ℕ). get_or (set blocks q v) i 0 ≤ block_count (block_of (set blocks q v)) i) q
              (λ i h. rw (older blocks q v fits i h, count_same v i (omega arith)) (so_far.used.first_use.next i h))
              (rw (newest blocks q v fits, count_same v q (omega arith), ← so_far.used.counts) known);
        };
        counts = rw (add-one q, count_same v q (omega arith), newest blocks q v fits, ← so_far.used.counts) is-next;
        long = length-set blocks q v ∙ so_far.used.long;
      }

      -- q's block has a name: it is a state below q
      pub first_using_known : get_or before q 0 < 256 → (first : State) → get_or names (get_or before q 0) None ≡ Some first → FirstUsing (set blocks q (get_or blocks first.0 0)) names number (q + 1)
      first_using_known small first name = record {
        used = step (get_or blocks first.0 0) number (omega (arith, below)) (omega (arith, below))
            (λ p h. (λ e. (so_far.used.same p first.0 h is.0).0 e ∙ is.1, λ e. (so_far.used.same p first.0 h is.0).1 (e ∙ sym is.1)));
        known = λ D h other e. let k = so_far.known D h other e in (omega (arith, k.0), k.1);
        met = below_more (λ (p : ℕ). get_or names (get_or before p 0) None ≢ None) q so_far.met (λ e. none-some first (sym e ∙ name));
        names_long = so_far.names_long;
      }
        where
          is : (first.0 < q) × (get_or before first.0 0 ≡ get_or before q 0)
          is = so_far.known (get_or before q 0) small first name

          below : get_or blocks first.0 0 < number
          below = omega (arith, so_far.used.counts, block_count_above (block_of blocks) q first.0 is.0)

      -- it has none: q is the first of its block
      pub first_using_new : get_or before q 0 < 256 → (own : State) → own.0 ≡ q → get_or names (get_or before q 0) None ≡ None
          → FirstUsing (set blocks q number) (set names (get_or before q 0) (Some own)) (number + 1) (q + 1)
      first_using_new small own is none = record {
        used = step number (number + 1) (omega arith) (omega arith)
            (λ p h. (λ e. absurd (omega (arith, so_far.used.counts, block_count_above (block_of blocks) q p h)), λ e. absurd (apart p h e)));
        known = λ D h other e. known D h other e (ℕ_discrete D (get_or before q 0));
        met = below_more (λ (p : ℕ). get_or (set names (get_or before q 0) (Some own)) (get_or before p 0) None ≢ None) q
            (λ p h. rw (get_or-set_other names (get_or before q 0) (get_or before p 0) (Some own) None (apart p h)) (so_far.met p h))
            (λ e. none-some own (sym e ∙ put));
        names_long = length-set names (get_or before q 0) (Some own) ∙ so_far.names_long;
      }
        where
          put : get_or (set names (get_or before q 0) (Some own)) (get_or before q 0) None ≡ Some own
          put = get_or-set_same names (get_or before q 0) (Some own) None (omega (arith, so_far.names_long))

          apart : (p : ℕ) → p < q → get_or before p 0 ≢ get_or before q 0
          apart p h e = so_far.met p h (ap (λ (D : ℕ). get_or names D None) e ∙ none)

          known : (D : ℕ) → D < 256 → (first : State) → get_or (set names (get_or before q 0) (Some own)) D None ≡ Some first → Dec (D ≡ get_or before q 0)
              → (first.0 < q + 1) × (get_or before first.0 0 ≡ D)
          known D h first e (yes d) =
              let same : own ≡ first = same_Some own first (sym put ∙ ap (λ (x : ℕ). get_or (set names (get_or before q 0) (Some own)) x None) (sym d) ∙ e) in
              let at : first.0 ≡ q = ap (λ (s : State). s.0) (sym same) ∙ is in
              (omega arith, ap (λ (x : ℕ). get_or before x 0) at ∙ sym d)
          known D h first e (no d) = let k = so_far.known D h first (sym (get_or-set_other names (get_or before q 0) D (Some own) None d) ∙ e) in (omega (arith, k.0), k.1)
