-- How far from 0 the weights of a tree's subtrees lie, in either arithmetic.
use Prim.Native.Nat.{ℕ, zero, suc, ◌+◌, ◌^◌, ◌≤◌, ◌<◌}
use mathlib.Core.Path.{◌≡◌, ap}
use mathlib.Core.List.{List, ◌∷◌}
use native.Mathlib.Omega.{arith}
use native.Mathlib.Numerals.{add-one}
use lib.ListN.{length, get_or, drop, length-append, length-drop}
use lib.Seq.{drop-cons}
use Rattle.model.specs.Table.{Table, Transition, Each, Proper, ProperTransition}
use Rattle.model.specs.Tree.{Tree, prefix, prefixes}
use Rattle.model.proofs.Each.{each_implies}
use Rattle.theory.proofs.Bound.{within_more, weight_at_within}
use Rattle.theory.specs.Weight.{weight_at}
use Rattle.trees.specs.Forests.{take_trees, drop_trees}
use Rattle.trees.specs.Finished.{finished, prefixes_finished}
use Rattle.trees.specs.Subtrees.{subtree}
use Rattle.weigh.specs.Numbers.{Bounded}

-- a subtree has no more nodes than there are bytes
subtree_few : (ranks tree : List ℕ) (i : ℕ) → i < length tree → length (prefix (subtree ranks tree i)) ≤ length tree
unfolding finished prefix prefixes
subtree_few ranks tree i inside =
    let next : drop i tree ≡ get_or tree i 0 ∷ drop (i + 1) tree = rw add-one (drop-cons tree i 0 inside) in
    let later = finished ranks (drop (i + 1) tree) in
    let k = get_or ranks (get_or tree i 0) 0 in
    let left = ap length (rw next at (prefixes_finished ranks (drop i tree))) in
    rw next (omega (arith, length-append (prefixes (take_trees k later)) (prefixes (drop_trees k later)), left, length-drop (i + 1) tree))

module _ (X : Table) (proper : Proper X) where
  codes_fit : Each (λ (t : Transition). t.code < 2 ^ 32) X.transitions
  codes_fit = each_implies (ProperTransition X.ranks X.states) (λ t. t.code < 2 ^ 32) (λ t p. p.code_fits) X.transitions proper.transitions_proper

  bounded_weight_at : (a : ℕ) → a ≤ 1 → (t : Tree) → length (prefix t) ≤ 4096 → (q : ℕ) → Bounded a 4096 (weight_at a X t q)
  bounded_weight_at zero known t few q = tt
  bounded_weight_at (suc zero) known t few q = within_more (length (prefix t)) 4096 few (weight_at 1 X t q) (weight_at_within X codes_fit t q)
  bounded_weight_at (suc (suc a)) known t few q = absurd (omega arith)

  pub bounded_subtree : (tree : List ℕ) (i : ℕ) → i < length tree → length tree ≤ 4096 → (q : ℕ) → Bounded X.arithmetic 4096 (weight_at X.arithmetic X (subtree X.ranks tree i) q)
  bounded_subtree tree i inside few q =
      let small = subtree_few X.ranks tree i inside in
      bounded_weight_at X.arithmetic proper.arithmetic_known (subtree X.ranks tree i) (omega arith) q
