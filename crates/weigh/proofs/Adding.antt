-- The invariant of the loop that adds a node's transitions into its row: at each state stands the sum over the transitions so far.
use Prim.Native.Nat.{ℕ, zero, suc, ◌+◌, ◌*◌, ◌-◌, ◌≤◌, ◌<◌}
use mathlib.Core.Path.{◌≡◌, refl, sym, ap, ap₂, ◌∙◌}
use mathlib.Core.Logic.{inr, ◌≢◌}
use mathlib.Core.List.{List}
use native.Mathlib.Omega.{arith}
use borrow.Author.Tests.{eq-eqb, ne_eqb}
use lib.Dec.{eqb}
use lib.IntN.{ℤ, pos}
use lib.ListN.{length, get_or}
use Rattle.theory.specs.Sum.{only}
use Rattle.theory.specs.Arithmetic.{arithmetic, Weight}
use Rattle.arith.specs.Numbers.{number_of}
use Rattle.weigh.specs.declared.rows.Row.{Row}
use Rattle.weigh.specs.Numbers.{StandsFor, Good}
use Rattle.weigh.specs.Rows.{Sources, sources, child_place, child_number, times_children, row_product, sum_into, Ready, sum_at, Added, RowReady}
use Rattle.weigh.specs.Steps.{Replaced}
use Rattle.weigh.proofs.Bounds.{stands_weight, stands_good}
use Rattle.weigh.proofs.Replacing.{replaced_one}
use Rattle.weigh.proofs.Sums.{sum_more, sum_range}
use Rattle.theory.proofs.Laws.{laws}

-- the same sources with another sheet
abbrev pub with_sheet : Sources → List ℤ → Sources
with_sheet s sheet = sources s.states s.children s.stack s.top s.numbers sheet

-- children whose numbers are the same in two sheets
module _ (a : ℕ) (s : Sources) (sheet : List ℤ) (rank j : ℕ) (same : (k : ℕ) → k < rank → child_number (with_sheet s sheet) j k ≡ child_number s j k) where
  times_children_same : (m k : ℕ) → k + m ≤ rank → (w : Weight a) → times_children a (with_sheet s sheet) j w k m ≡ times_children a s j w k m
  times_children_same zero k few w = refl
  times_children_same (suc m) k few w = rw (same k (omega arith)) (times_children_same m (suc k) (omega arith) _)

  product_of_same : row_product a (with_sheet s sheet) rank j ≡ row_product a s rank j
  product_of_same = times_children_same rank 0 (omega arith) _

  ready_same : length sheet ≡ length s.sheet → Ready a s rank j → Ready a (with_sheet s sheet) rank j
  ready_same long ready = record {
    listed = ready.listed;
    own = ready.own;
    places = λ k l. let inside = ready.places k l in omega arith;
    child = λ k l. rw (same k l) (ready.child k l);
  }

-- one transition more
module _ (a : ℕ) (s : Sources) (target : List ℕ) (rank from j : ℕ) (after : from ≤ j) where
  open arithmetic a use {plus}
  open laws a use {plus_zero}

  sum_into_more : (q : ℕ) → sum_into a s target rank from (j + 1) q
      ≡ plus (sum_into a s target rank from j q) (only (arithmetic a) (eqb (get_or target j 0) q) (row_product a s rank j))
  sum_into_more q =
      let one_more : j + 1 - from ≡ suc (j - from) = omega arith in
      let last : from + (j - from) ≡ j = omega arith in
      rw one_more (sum_more (arithmetic a) (laws a) (λ i. only (arithmetic a) (eqb (get_or target i 0) q) (row_product a s rank i)) from (j - from)
      ∙ rw last)

  sum_into_own : sum_into a s target rank from (j + 1) (get_or target j 0) ≡ plus (sum_into a s target rank from j (get_or target j 0)) (row_product a s rank j)
  sum_into_own = sum_into_more (get_or target j 0) ∙ rw (eq-eqb (get_or target j 0) (get_or target j 0) refl)

  sum_into_other : (q : ℕ) → q ≢ get_or target j 0 → sum_into a s target rank from (j + 1) q ≡ sum_into a s target rank from j q
  sum_into_other q differ = sum_into_more q ∙ rw (ne_eqb (get_or target j 0) q (λ e. differ (sym e))) (plus_zero _)

-- the transitions before j are added into the row of node `at` of the sheet
pub record Adding (a : ℕ) (s : Sources) (target : List ℕ) (row : Row) (sheet : List ℤ) (j : ℕ) : Type 0 where
  pub after : row.from ≤ j
  pub sums : Replaced (pos 0) (row.at * s.states) s.states (λ q. StandsFor a 16385 (sum_into a s target row.rank row.from j q)) s.sheet sheet

module _ {a : ℕ} {s : Sources} {target : List ℕ} {row : Row} where
  -- a row of zeros
  pub adding_starts : {before : List ℤ} → Replaced (pos 0) (row.at * s.states) s.states (λ q. StandsFor a 16385 (arithmetic a).zero) before s.sheet
      → Adding a s target row s.sheet row.from
  adding_starts cleared =
      let none : row.from - row.from ≡ 0 = omega arith in
      record { after = omega arith; sums = record { same_length = refl; new = λ q l. rw none (cleared.new q l); others = λ p o. refl } }

  module _ {sheet : List ℤ} {j : ℕ} (ready : RowReady a s target row) (so_far : Adding a s target row sheet j) (more : j < row.to) where
    -- the children's numbers stand behind the row
    child_same : (k : ℕ) → k < row.rank → child_number (with_sheet s sheet) j k ≡ child_number s j k
    child_same k l = so_far.sums.others (child_place s j k) (inr (ready.behind j k so_far.after more l))

    pub next_ready : Ready a (with_sheet s sheet) row.rank j
    next_ready = ready_same a s sheet row.rank j child_same so_far.sums.same_length (ready.ready j so_far.after more)

    here : StandsFor a 16385 (sum_into a s target row.rank row.from j (get_or target j 0)) (get_or sheet (row.at * s.states + get_or target j 0) (pos 0))
    here = so_far.sums.new (get_or target j 0) (ready.targets j so_far.after more)

    pub next_good : Good a 16385 (get_or sheet (row.at * s.states + get_or target j 0) (pos 0))
    next_good = stands_good a 16385 (omega arith) _ _ here

    pub next_inside : row.at * s.states + get_or target j 0 < length sheet
    next_inside =
        let long = so_far.sums.same_length in
        let state = ready.targets j so_far.after more in
        let fits = ready.row_fits in
        omega arith

    sum_same : sum_at a (with_sheet s sheet) row.rank j (row.at * s.states + get_or target j 0) ≡ sum_into a s target row.rank row.from (j + 1) (get_or target j 0)
    sum_same =
        ap₂ (arithmetic a).plus (stands_weight a 16385 (omega arith) _ _ here) (product_of_same a s sheet row.rank j child_same) ∙ sym (sum_into_own a s target row.rank row.from j so_far.after)

    pub adding_goes_on : {later : List ℤ} → Added a (with_sheet s sheet) row.rank j (row.at * s.states + get_or target j 0) later → Adding a s target row later (j + 1)
    adding_goes_on added =
        let stands : StandsFor a 16385 (sum_into a s target row.rank row.from (j + 1) (get_or target j 0)) (number_of a (sum_at a (with_sheet s sheet) row.rank j (row.at * s.states + get_or target j 0))) =
        record { number = ap (number_of a) sum_same; bounded = rw sum_same at added.bounded } in
        let after = so_far.after in
        record {
          after = omega arith;
          sums = rw added.stored
              (replaced_one (pos 0) (row.at * s.states) s.states (λ q. StandsFor a 16385 (sum_into a s target row.rank row.from j q)) (λ q. StandsFor a 16385 (sum_into a s target row.rank row.from (j + 1) q))
              s.sheet sheet (get_or target j 0) (row.at * s.states + get_or target j 0) _ so_far.sums refl (ready.targets j so_far.after more) next_inside stands
              (λ q y l differ h. rw (sum_into_other a s target row.rank row.from j so_far.after q differ) h));
        }

  -- what stood in the row before it was cleared does not matter
  module _ {before : List ℤ} {P : ℕ → ℤ → Type 0} (ready : RowReady a (with_sheet s before) target row) (cleared : Replaced (pos 0) (row.at * s.states) s.states P before s.sheet) where
    child_cleared : (j : ℕ) → row.from ≤ j → j < row.to → (k : ℕ) → k < row.rank → child_number s j k ≡ child_number (with_sheet s before) j k
    child_cleared j l m k n = cleared.others (child_place s j k) (inr (ready.behind j k l m n))

    pub cleared_ready : RowReady a s target row
    cleared_ready = record {
      row_fits = let fits = ready.row_fits in let long = cleared.same_length in omega arith;
      ordered = ready.ordered;
      ready = λ j l m. ready_same a (with_sheet s before) s.sheet row.rank j (child_cleared j l m) cleared.same_length (ready.ready j l m);
      targets = ready.targets;
      behind = ready.behind;
    }

    sum_into_cleared : (q : ℕ) → sum_into a s target row.rank row.from row.to q ≡ sum_into a (with_sheet s before) target row.rank row.from row.to q
    sum_into_cleared q = let ordered = ready.ordered in sum_range (arithmetic a) _ _ row.from (row.to - row.from) (λ j l m.
        ap (only (arithmetic a) (eqb (get_or target j 0) q)) (product_of_same a (with_sheet s before) s.sheet row.rank j (child_cleared j l (omega arith))))

    pub adding_ends : {sheet : List ℤ} {j : ℕ} → Adding a s target row sheet j → j ≡ row.to
        → Replaced (pos 0) (row.at * s.states) s.states (λ q. StandsFor a 16385 (sum_into a (with_sheet s before) target row.rank row.from row.to q)) before sheet
    adding_ends so_far all = record {
      same_length = so_far.sums.same_length ∙ cleared.same_length;
      new = λ q l. rw (← sum_into_cleared q, ← all) (so_far.sums.new q l);
      others = λ p o. so_far.sums.others p o ∙ cleared.others p o;
    }
