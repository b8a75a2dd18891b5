-- The product that is computed from the sheet is the definition's.
use Prim.Native.Nat.{ℕ, zero, suc, ◌+◌, ◌≤◌, ◌<◌}
use mathlib.Core.Path.{◌≡◌, sym, ap, ◌∙◌}
use mathlib.Core.List.{List}
use native.Mathlib.Omega.{arith}
use lib.ListN.{length, get_or, take, drop}
use lib.Seq.{drop-cons}
use Rattle.model.specs.Table.{Table}
use Rattle.theory.specs.Arithmetic.{arithmetic, Weight}
use Rattle.theory.specs.Weight.{weight_at, product_at}
use Rattle.arith.specs.Numbers.{weight_of}
use Rattle.trees.specs.Subtrees.{subtree, subtrees}
use Rattle.weigh.specs.Rows.{Sources, child_number, own_number, times_children, row_product}
use Rattle.theory.proofs.Laws.{laws}

-- `nodes` are where the children begin, and `states` are the states of transition j for them
module _ (a : ℕ) (X : Table) (tree : List ℕ) (s : Sources) (rank j : ℕ) (nodes states : List ℕ) (enough-nodes : rank ≤ length nodes) (enough-states : rank ≤ length states)
    (child : (k : ℕ) → k < rank → weight_of a (child_number s j k) ≡ weight_at a X (subtree X.ranks tree (get_or nodes k 0)) (get_or states k 0)) where
  open arithmetic a use {times}
  open laws a use {times_one, times_assoc}

  times_children-product_at : (m k : ℕ) → k + m ≤ rank → (w : Weight a)
      → times_children a s j w k m ≡ times w (product_at a X (subtrees X.ranks tree (take m (drop k nodes))) (take m (drop k states)))
  unfolding product_at
  times_children-product_at zero k few w = sym (times_one w)
  times_children-product_at (suc m) k few w =
      rw (child k (omega arith), drop-cons nodes k 0 (omega arith), drop-cons states k 0 (omega arith))
      (times_children-product_at m (suc k) (omega arith) _ ∙ times_assoc w _ _)

  pub product_of-product_at : (w : Weight a) → weight_of a (own_number s j) ≡ w
      → row_product a s rank j ≡ times w (product_at a X (subtrees X.ranks tree (take rank nodes)) (take rank states))
  product_of-product_at w own = times_children-product_at rank 0 (omega arith) _ ∙ ap (λ (u : Weight a). times u (product_at a X (subtrees X.ranks tree (take rank nodes)) (take rank states))) own
