-- The uses of a table's states in each direction, and agreement by them: equal grades and the same profile.
use Rattle.std.specs.Prelude.{get_or}
use mathlib.Core.List.{List, [], ◌∷◌, map, flat_map}
use Prim.Native.Nat.{ℕ, zero, suc}
use Rattle.std.proofs.Math.ListN.{length}
use Rattle.model.specs.Table.{Table, Transition}
use Rattle.theory.specs.Below.{below}
use Rattle.theory.specs.Arithmetic.{arithmetic, Weight, meaning}
use Rattle.theory.specs.Weight.{final}
use Rattle.theory.specs.declared.Direction.{Direction}
use Rattle.theory.specs.declared.Direction.TheVariants.{Backward as backward, Forward as forward}
use Rattle.theory.specs.Profile.{Use, Alike}

-- the list without its entry k
abbrev pub others : ℕ → List ℕ → List ℕ
others k [] = []
others zero (q ∷ qs) = qs
others (suc k) (q ∷ qs) = q ∷ others k qs

module _ (a : ℕ) where
  open arithmetic a use {zero as 𝟘}

  -- backward, a transition is a use of its target, keyed by its symbol and the blocks of its children
  abbrev pub use_into : Transition → Use (Weight a)
  use_into t = record { state = t.target; fixed = t.symbol ∷ []; through = t.children; weight = meaning a t.code }

  -- forward, it is a use of each child, keyed by its symbol, the place, the other children and the target's block
  abbrev pub use_at : Transition → ℕ → Use (Weight a)
  use_at t k = record { state = get_or t.children k 0; fixed = t.symbol ∷ k ∷ others k t.children; through = t.target ∷ []; weight = meaning a t.code }

  unfoldable pub uses : Direction → List Transition → List (Use (Weight a))
  unfolding flat_map
  uses backward ts = map use_into ts
  uses forward ts = flat_map (λ t. map (use_at t) (below (length t.children))) ts

  -- backward, any two states may be together; forward, states with equal final weights
  abbrev pub grade : Direction → Table → ℕ → Weight a
  grade backward X q = 𝟘
  grade forward X q = final a X q

  -- p and q agree under the blocks b, told by their profiles
  abbrev pub AgreeByProfile : Table → Direction → (ℕ → ℕ) → ℕ → ℕ → Type 0
  AgreeByProfile X d = Alike (arithmetic a) X.states (grade d X) (uses d X.transitions)
