-- The refinement as a whole: what holds at its start, after each split and at its end.
use Prim.Native.Nat.{ℕ, ◌≤◌, ◌<◌}
use mathlib.Core.Bool.{Bool, true, false}
use mathlib.Core.List.{List}
use mathlib.Core.Logic.{◌↔◌}
use mathlib.Core.Path.{◌≡◌, sym, ◌∙◌}
use native.Mathlib.Omega.{arith}
use lib.ListN.{length, take, replicate, length-replicate, get_or-replicate}
use lib.Seq.{get_or-take, length-take-le}
use Rattle.model.specs.Table.{Proper}
use Rattle.tables.specs.Record.{table_of, Holds}
use Rattle.tables.specs.declared.TableRecord.{TableRecord}
use Rattle.theory.specs.Arithmetic.{arithmetic_number, arithmetic}
use Rattle.theory.specs.Bisimulation as General
use Rattle.theory.specs.Blocks.{block_of, blocks_few, block_count, block_count_same}
use Rattle.theory.specs.declared.Direction.{Direction}
use Rattle.theory.specs.Direction.{CoarsestBlocks, Agree, other}
use Rattle.theory.specs.Equality.{not_both}
use Rattle.theory.specs.Profile.{SameProfile}
use Rattle.theory.specs.Refinement.{Refining, refining_start, refining_split, refining_end}
use Rattle.theory.proofs.Refinement.{coarsest_by_profile}
use Rattle.theory.specs.Uses.{grade}
use Rattle.theory.proofs.Uses.{uses_known}
use Rattle.partition.specs.Members.{flag}
use Rattle.partition.specs.Numbering.{Numbered, Started, FirstUsed}
use Rattle.grouping.specs.Groups.{Same}
use Rattle.refine.specs.Splits.{Settled, SplitUp, Splits, StaySettled, SplitUntilClean, none, another}
use Rattle.uses.specs.Tables.{IndexOf}
use Rattle.uses.specs.declared.Uses.{Uses}
use Rattle.dependents.specs.Tables.{DependsIn}
use Rattle.refine.specs.Sides.{profiles_in}
use Rattle.refine.proofs.Known.{uses_in}
use Rattle.refine.proofs.Refined.{same_profile, independent, grade_shared}
use Rattle.theory.proofs.Laws.{laws}

-- a state that need not be looked at again
abbrev pub Clean : List Bool → ℕ → Type 0
Clean dirty q = flag dirty q ≡ false

-- the theory's refinement of a record's table
abbrev pub RefiningOf : (t : TableRecord) → Direction → Proper (table_of t) → (ℕ → ℕ) → (ℕ → Type 0) → Type 0
RefiningOf t d proper = Refining (arithmetic (arithmetic_number t.arithmetic)) t.states (grade (arithmetic_number t.arithmetic) d (table_of t)) (uses_in t d) (uses_known (arithmetic_number t.arithmetic) (table_of t) proper.transitions_proper d)

-- the blocks so far
pub record Present (t : TableRecord) (d : Direction) (blocks : List ℕ) (dirty : List Bool) (total : ℕ) : Type 0 where
  pub holds : Holds t (table_of t)
  pub proper : Proper (table_of t)
  pub numbered : Numbered t.states blocks total
  pub dirty_long : length dirty ≡ 256
  pub refining : RefiningOf t d proper (block_of blocks) (Clean dirty)

module _ {t : TableRecord} {d : Direction} (holds : Holds t (table_of t)) (proper : Proper (table_of t)) where
  pub present_starts : {blocks : List ℕ} {total : ℕ} (dirty : List Bool) → Started d t.states t.finals blocks total
      → length dirty ≡ 256 → ((q : ℕ) → q < t.states → flag dirty q ≡ true) → Present t d blocks dirty total
  present_starts {blocks} dirty started long all = record {
    holds = holds;
    proper = proper;
    numbered = started.numbered;
    dirty_long = long;
    refining = record { covers = start.covers; graded = start.graded; settled = λ p q lp lq f g e. absurd (not_both (flag dirty p) (all p lp) f) };
  }
    where
      start : RefiningOf t d proper (block_of blocks) (λ q. ⊥)
      start = refining_start (arithmetic (arithmetic_number t.arithmetic)) t.states (grade (arithmetic_number t.arithmetic) d (table_of t)) (uses_in t d) (uses_known (arithmetic_number t.arithmetic) (table_of t) proper.transitions_proper d) (block_of blocks) (λ p q lp lq.
          let s = started.shared p q lp lq in
          let g = grade_shared holds proper d p q lp lq in
          (λ e. g.0 (s.0 e), λ e. s.1 (g.1 e)))

module _ {t : TableRecord} {d : Direction} {blocks : List ℕ} {dirty : List Bool} {total : ℕ} (now : Present t d blocks dirty total) where
  bytes : (q : ℕ) → q < t.states → block_of blocks q < 256
  bytes q l = omega (arith, now.numbered.below q l, blocks_few t.states (block_of blocks) total now.numbered.used, now.proper.states_few)

  module _ (own : Uses) (index : IndexOf d t own) where
    same : (p q : ℕ) → p < t.states → q < t.states
        → Same (arithmetic_number t.arithmetic) (profiles_in d t own (block_of blocks) p) (profiles_in d t own (block_of blocks) q) ↔ SameProfile (arithmetic (arithmetic_number t.arithmetic)) (uses_in t d) (block_of blocks) p q
    same = same_profile now.holds now.proper (block_of blocks) bytes d own index

    pub present_settled : Settled (arithmetic_number t.arithmetic) (profiles_in d t own (block_of blocks)) t.states blocks dirty
    present_settled p q lp lq f g e = (same p q lp lq).1 (now.refining.settled p q lp lq f g e)

    module _ (others : Uses) (other : IndexOf (other d) t others) {D : ℕ} {blocks' : List ℕ} {dirty' : List Bool} {total' : ℕ}
        (split : SplitUp (arithmetic_number t.arithmetic) (profiles_in d t own (block_of blocks)) (DependsIn d t others) t.states D blocks dirty total blocks' dirty' total') where
      present_goes_on : Present t d blocks' dirty' total'
      present_goes_on = record {
        holds = now.holds;
        proper = now.proper;
        numbered = split.numbered;
        dirty_long = split.dirty_long;
        refining = refining_split (arithmetic (arithmetic_number t.arithmetic)) t.states (grade (arithmetic_number t.arithmetic) d (table_of t)) (uses_in t d) (uses_known (arithmetic_number t.arithmetic) (table_of t) now.proper.transitions_proper d) (laws (arithmetic_number t.arithmetic)) D (block_of blocks) (block_of blocks')
            (Clean dirty) (Clean dirty') now.refining (record {
              elsewhere = split.elsewhere;
              parts = λ p q lp lq bp bq.
                  let s = split.parts p q lp lq bp bq in
                  let e = same p q lp lq in
                  (λ h. e.0 (s.0 h), λ h. s.1 (e.1 h));
              apart = split.apart;
              cleared = split.cleared;
              marked = λ p l f. independent now.holds now.proper d others other (block_of blocks) (block_of blocks') p (split.marked p l f);
            });
      }

-- what holds at the start holds after any splits
module _ {t : TableRecord} {d : Direction} (own others : Uses) (index : IndexOf d t own) (other : IndexOf (other d) t others)
    {start : List ℕ} {number : ℕ} (begun : Present t d start (replicate 256 true) number) where
  pub present_after : {blocks : List ℕ} {dirty : List Bool} {total : ℕ} → Splits (arithmetic_number t.arithmetic) (profiles_in d t own) (DependsIn d t others) t.states start number blocks dirty total → Present t d blocks dirty total
  present_after none = begun
  present_after (another splits split) = present_goes_on (present_after splits) own index others other split

module _ {t : TableRecord} {d : Direction} {blocks : List ℕ} {dirty : List Bool} {total : ℕ} (now : Present t d blocks dirty total) where
  -- where no state is dirty the blocks are the coarsest
  module _ (clean : (q : ℕ) → q < t.states → Clean dirty q) {blocks' : List ℕ} {total' : ℕ} (used : FirstUsed t.states blocks blocks' total') where
    at : (q : ℕ) → q < t.states → block_of (take t.states blocks') q ≡ block_of blocks' q
    at q l = get_or-take t.states blocks' q 0 l

    counted : (i : ℕ) → i ≤ t.states → block_count (block_of (take t.states blocks')) i ≡ block_count (block_of blocks') i
    counted i l = block_count_same (block_of (take t.states blocks')) (block_of blocks') i (λ j h. at j (omega arith))

    pub present_ends : CoarsestBlocks d (table_of t) (take t.states blocks')
    present_ends = record {
      one_each = length-take-le t.states blocks' (omega (arith, used.long, now.proper.states_few));
      coarsest = General.coarsest_renumbered t.states (Agree (arithmetic_number t.arithmetic) (table_of t) d) (block_of blocks) (block_of (take t.states blocks'))
          (record { keeps = λ p q lp lq e. at p lp ∙ (used.same p q lp lq).1 e ∙ sym (at q lq) })
          (record { keeps = λ p q lp lq e. (used.same p q lp lq).0 (sym (at p lp) ∙ e ∙ at q lq) })
          (coarsest_by_profile d (table_of t) now.proper (block_of blocks)
          (refining_end (arithmetic (arithmetic_number t.arithmetic)) t.states (grade (arithmetic_number t.arithmetic) d (table_of t)) (uses_in t d) (uses_known (arithmetic_number t.arithmetic) (table_of t) now.proper.transitions_proper d) (block_of blocks) (Clean dirty) now.refining clean));
      first_use = record { next = λ i l. rw (at i l, counted i (omega arith)) (used.first_use.next i l) };
    }

    pub present_count : total' ≡ block_count (block_of (take t.states blocks')) t.states
    present_count = used.counts ∙ sym (counted t.states (omega arith))

-- from the blocks to start with, whatever is split, to the coarsest ones
module _ {t : TableRecord} {d : Direction} (holds : Holds t (table_of t)) (proper : Proper (table_of t)) (own others : Uses) (index : IndexOf d t own) (other : IndexOf (other d) t others)
    {start : List ℕ} {number : ℕ} (started : Started d t.states t.finals start number) where
  after : {blocks : List ℕ} {dirty : List Bool} {total : ℕ} → Splits (arithmetic_number t.arithmetic) (profiles_in d t own) (DependsIn d t others) t.states start number blocks dirty total → Present t d blocks dirty total
  after = present_after own others index other
      (present_starts holds proper (replicate 256 true) started (length-replicate {A = Bool} 256 true) (λ q l. get_or-replicate {A = Bool} 256 q true false (omega (arith, proper.states_few))))

  pub coarsening_settled : StaySettled (arithmetic_number t.arithmetic) (profiles_in d t own) (DependsIn d t others) t.states start number
  coarsening_settled blocks dirty total splits = present_settled (after splits) own index

  module _ {blocks blocks' : List ℕ} {total total' : ℕ} (refined : SplitUntilClean (arithmetic_number t.arithmetic) (profiles_in d t own) (DependsIn d t others) t.states start number blocks total)
      (used : FirstUsed t.states blocks blocks' total') where
    pub coarsening_ends : CoarsestBlocks d (table_of t) (take t.states blocks')
    coarsening_ends = present_ends (after refined.splits) refined.clean used

    pub coarsening_count : total' ≡ block_count (block_of (take t.states blocks')) t.states
    coarsening_count = present_count (after refined.splits) refined.clean used
