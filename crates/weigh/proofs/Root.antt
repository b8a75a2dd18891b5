-- The end of weighing: the sheet is the tree's, and the sum over the root's row is the tree's weight.
use Prim.Native.Nat.{ℕ, ◌+◌, ◌*◌, ◌≤◌, ◌<◌}
use mathlib.Core.Path.{◌≡◌, sym, ap, ap₂, ◌∙◌, subst}
use mathlib.Core.List.{List, ◌++◌}
use native.Mathlib.Omega.{arith}
use native.Mathlib.Nat.{zero-mul, mul-le-mul_right, one-mul}
use lib.IntN.{ℤ, pos}
use lib.ListN.{length, get_or, drop}
use lib.Seq.{get_or-take}
use Rattle.model.specs.Table.{Table}
use Rattle.theory.specs.Arithmetic.{arithmetic_number, arithmetic, meaning}
use Rattle.theory.specs.Weight.{weight_at, weight}
use Rattle.theory.specs.Sheet.{sheet}
use Rattle.arith.specs.Numbers.{number_of}
use Rattle.trees.specs.Finished.{finished, tree_of}
use Rattle.trees.specs.Written.{accepted, sound, some_node}
use Rattle.tables.specs.Record.{table_of}
use Rattle.tables.specs.declared.TableRecord.{TableRecord}
use Rattle.weigh.specs.Numbers.{StandsFor, Good}
use Rattle.weigh.specs.Rows.{final_sum}
use Rattle.weigh.specs.Steps.{Weighable, Summed}
use Rattle.weigh.proofs.Bounds.{stands_weight, stands_good}
use Rattle.weigh.proofs.Sums.{sum_range}
use Rattle.weigh.specs.Sheets.{sheets_one}
use Rattle.weigh.proofs.Filling.{Filling, filling_stands}
use Rattle.weigh.proofs.Node.{tree_few}

module _ {t : TableRecord} {tree : List ℕ} {before : List ℤ} (weighable : Weighable t tree before) where
  abbrev X : Table
  X = table_of t

  abbrev a : ℕ
  a = (arithmetic_number t.arithmetic)

  abbrev n : ℕ
  n = t.states

  -- a tree has a root
  tree_some : 1 ≤ length tree
  tree_some =
      let written = sound X.ranks tree (length tree) weighable.accepted in
      let some = some_node (tree_of X.ranks tree) in
      let same = ap length written.bytes_are in
      omega arith

  module _ {sheet : List ℤ} {stack : List ℕ} {top : ℕ} (done : Filling X tree before sheet stack top 0) where
    root_stands : (q : ℕ) → q < n → StandsFor a 4096 (weight_at a X (tree_of X.ranks tree) q) (get_or sheet q (pos 0))
    root_stands q l =
        let place : 0 * n + q ≡ q = let none = zero-mul n in omega arith in
        subst (λ (p : ℕ). StandsFor a 4096 (weight_at a X (tree_of X.ranks tree) q) (get_or sheet p (pos 0))) place
        (filling_stands weighable.room done weighable.proper (tree_few weighable) 0 q (omega arith) tree_some l)

    pub root_good : (q : ℕ) → q < n → Good a 4096 (get_or sheet q (pos 0))
    root_good q l = stands_good a 4096 (omega arith) _ _ (root_stands q l)

    pub root_room : n ≤ length sheet
    root_room =
        let long = done.same_length in
        let room = weighable.room in
        let some = mul-le-mul_right n tree_some in
        let one = one-mul n in
        omega arith

    rows_are : sheet ≡ Rattle.theory.specs.Sheet.sheet a X (tree_of X.ranks tree) ++ drop (length tree * n) before
    rows_are =
        done.rows ∙ rw (zero-mul n)
        (ap (λ (l : List ℤ). l ++ drop (length tree * n) before) (sheets_one a X (finished X.ranks tree) (accepted X.ranks tree (length tree) weighable.accepted).count_is))

    -- the sum over the states
    pub root_summed : (x : ℤ) → x ≡ number_of a (final_sum a n t.finals sheet) → Summed X tree before sheet x
    unfolding weight
    root_summed x e = record {
      rows = rows_are;
      total = e ∙ ap (number_of a) (sum_range (arithmetic a) _ _ 0 n (λ q l m.
          ap₂ (arithmetic a).times (ap (meaning a) (sym (get_or-take n t.finals q 0 (omega arith)))) (stands_weight a 4096 (omega arith) _ _ (root_stands q (omega arith)))));
    }
