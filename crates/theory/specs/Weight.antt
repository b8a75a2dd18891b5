-- The weight of a tree (document 01, "Definitions"; source 002, section 2), for trees of any size.
use Rattle.std.specs.Prelude.{◌&&◌, List, [], ◌∷◌, ℕ, eqb, get_or}
use Rattle.model.specs.Table.{Table, Transition}
use Rattle.model.specs.Tree.{Tree, Forest, node, none, ◌then◌}
use Rattle.theory.specs.Equality.{same_list}
use Rattle.theory.specs.Sum.{only, sum}
use Rattle.theory.specs.Below.{below}
use Rattle.theory.specs.Arithmetic.{arithmetic, Weight, meaning, value_of}
use Rattle.theory.specs.MaxPlus.{Value}

-- The codes of a table, read in arithmetic a.
module _ (a : ℕ) where
  open arithmetic a use {zero as 𝟘, one as 𝟙, times as ◌⊗◌}

  infixl 7 ◌⊗◌
  -- the weight of a transition of σ with target q; zero for any other transition
  abbrev pub entering : ℕ → ℕ → Transition → Weight a
  entering σ q t = only (arithmetic a) (eqb t.symbol σ && eqb t.target q) (meaning a t.code)

  -- the weight of a transition of σ with children qs; zero for any other transition
  abbrev pub leaving : ℕ → List ℕ → Transition → Weight a
  leaving σ qs t = only (arithmetic a) (eqb t.symbol σ && same_list t.children qs) (meaning a t.code)

  module _ (X : Table) where
    -- the final weight of a state
    abbrev pub final : ℕ → Weight a
    final q = meaning a (get_or X.finals q 0)

    unfoldable mutual
      -- the weight of σ(t1..tk) at q: the sum, over all transitions of σ with target q, of the transition's weight times
      -- the product of each child tree's weight at that child's state
      pub weight_at : Tree → ℕ → Weight a
      weight_at (node σ ts) q = sum (arithmetic a) X.transitions (λ t. entering σ q t ⊗ product_at ts t.children)

      -- the product of each tree's weight at its state; zero where the numbers of trees and states differ
      pub product_at : Forest → List ℕ → Weight a
      product_at none [] = 𝟙
      product_at none (q ∷ qs) = 𝟘
      product_at (◌then◌ t ts) [] = 𝟘
      product_at (◌then◌ t ts) (q ∷ qs) = weight_at t q ⊗ product_at ts qs

    -- the tree's weight: the sum over all q of final weight times weight at q
    unfoldable pub weight : Tree → Weight a
    weight t = sum (arithmetic a) (below X.states) (λ q. final q ⊗ weight_at t q)

-- the weight of a tree in a table's own arithmetic, as nothing or a whole number
unfoldable pub value : Table → Tree → Value
value X t = value_of X.arithmetic (weight X.arithmetic X t)
