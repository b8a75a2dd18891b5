-- The loop that adds up the tree's weight: one state more.
use Prim.Native.Nat.{ℕ, ◌+◌}
use mathlib.Core.Path.{◌≡◌, ap, ◌∙◌}
use native.Mathlib.Nat.{zero-add}
use native.Mathlib.Numerals.{add-one}
use lib.IntN.{ℤ, pos}
use lib.ListN.{get_or}
use mathlib.Core.List.{List}
use Rattle.theory.specs.Arithmetic.{arithmetic, Weight, meaning}
use Rattle.arith.specs.Numbers.{weight_of}
use Rattle.weigh.specs.Rows.{final_sum}
use Rattle.weigh.proofs.Sums.{sum_more}
use Rattle.theory.proofs.Laws.{laws}

pub final_sum_more : (a q : ℕ) (finals : List ℕ) (sheet : List ℤ)
    → final_sum a (q + 1) finals sheet ≡ (arithmetic a).plus (final_sum a q finals sheet) ((arithmetic a).times (meaning a (get_or finals q 0)) (weight_of a (get_or sheet q (pos 0))))
final_sum_more a q finals sheet =
    rw (add-one q) (sum_more (arithmetic a) (laws a) part 0 q ∙ ap (λ (j : ℕ). (arithmetic a).plus (final_sum a q finals sheet) (part j)) (zero-add q))
  where
    part : ℕ → Weight a
    part q = (arithmetic a).times (meaning a (get_or finals q 0)) (weight_of a (get_or sheet q (pos 0)))
