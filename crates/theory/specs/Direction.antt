-- Backward and forward bisimulation of a table (document 01, "Definitions"; source 001, definitions 16 and 1).
use Rattle.std.specs.Prelude.{◌≢◌, ◌≡◌, refl, Result, MatchResult, List, ◌∷◌, ◌++◌, map, ℕ, zero, suc, ◌-◌, ◌≤◌, ◌<◌, eqb, length}
use Rattle.std.proofs.Common.{ap, arith}
use Rattle.model.specs.Table.{Table, Each}
use Rattle.theory.specs.Equality.{same_list}
use Rattle.theory.specs.Sum.{only, sum}
use Rattle.theory.specs.Arithmetic.{arithmetic, Weight}
use Rattle.theory.specs.Weight.{entering, leaving, final}
use Rattle.theory.specs.Blocks.{block_of, FirstUse}
use Rattle.theory.specs.Bisimulation as General
use Rattle.theory.specs.declared.NoDirection.{NoDirection}
use Rattle.theory.specs.declared.Direction.{Direction}
use Rattle.theory.specs.declared.Direction.TheVariants.{Backward as backward, Forward as forward}

-- 0 for backward, 1 for forward
abbrev pub direction : ℕ → Direction
direction zero = backward
direction (suc d) = forward

-- a number from 0 to 1 is a direction's, and no other is
abbrev pub DirectionFor : ℕ → Result Direction NoDirection → Type 0
DirectionFor number r = MatchResult r (λ d. (d ≡ direction number) × (number ≤ 1)) (λ none. (none.0 ≡ number) × (1 < number))

pub side_backward : (side : ℕ) → side ≡ 0 → direction side ≡ backward
side_backward side e = ap direction e

pub side_forward : (side : ℕ) → side ≢ 0 → direction side ≡ forward
side_forward zero h = absurd (h refl)
side_forward (suc side) h = refl

-- the other of the two
abbrev pub other : Direction → Direction
other backward = forward
other forward = backward

pub other_side : (side : ℕ) → side ≤ 1 → direction (1 - side) ≡ other (direction side)
other_side zero h = refl
other_side (suc zero) h = refl
other_side (suc (suc side)) h = absurd (omega arith)

-- The codes of the table X, read in arithmetic a.
module _ (a : ℕ) (X : Table) where
  -- the summed weights of σ's transitions with children in the blocks Ds and target q
  abbrev pub sum_from : (ℕ → ℕ) → ℕ → List ℕ → ℕ → Weight a
  sum_from b σ Ds q = sum (arithmetic a) X.transitions (λ t. only (arithmetic a) (same_list (map b t.children) Ds) (entering a σ q t))

  -- the summed weights of σ's transitions with children qs into the block D
  abbrev pub sum_into : (ℕ → ℕ) → ℕ → List ℕ → ℕ → Weight a
  sum_into b σ qs D = sum (arithmetic a) X.transitions (λ t. only (arithmetic a) (eqb (b t.target) D) (leaving a σ qs t))

  -- for each symbol and each choice of blocks, the summed weights with children in those blocks are equal for target p and target q
  pub record AgreeBackward (b : ℕ → ℕ) (p q : ℕ) : Type 0 where
    pub sums_equal : (σ : ℕ) (Ds : List ℕ) → sum_from b σ Ds p ≡ sum_from b σ Ds q

  -- p and q have equal final weights; and for each symbol, each child place, each filling of the other places by states (those
  -- before and those after) and each block, the summed weights into the block are equal with p and with q in that place
  pub record AgreeForward (b : ℕ → ℕ) (p q : ℕ) : Type 0 where
    pub finals_equal : final a X p ≡ final a X q
    pub sums_equal : (σ : ℕ) (before after : List ℕ) → Each (λ r. r < X.states) before → Each (λ r. r < X.states) after
        → (D : ℕ) → sum_into b σ (before ++ p ∷ after) D ≡ sum_into b σ (before ++ q ∷ after) D

  -- p and q agree under the blocks b
  abbrev pub Agree : Direction → (ℕ → ℕ) → ℕ → ℕ → Type 0
  Agree backward = AgreeBackward
  Agree forward = AgreeForward

-- b is a bisimulation of the table; b is the coarsest
abbrev pub Bisimulation : Direction → Table → (ℕ → ℕ) → Type 0
Bisimulation d X = General.Bisimulation X.states (Agree X.arithmetic X d)

abbrev pub Coarsest : Direction → Table → (ℕ → ℕ) → Type 0
Coarsest d X = General.Coarsest X.states (Agree X.arithmetic X d)

-- the list has the coarsest blocks, one for each state, numbered by first use
pub record CoarsestBlocks (d : Direction) (X : Table) (blocks : List ℕ) : Type 0 where
  pub one_each : length blocks ≡ X.states
  pub coarsest : Coarsest d X (block_of blocks)
  pub first_use : FirstUse X.states (block_of blocks)
