-- Collapses of a table by blocks of its states (document 01, "Definitions"; source 001, definitions 18 and 3).
use Rattle.std.specs.Prelude.{◌≡◌, ℕ, ◌<◌, eqb, length, get_or}
use mathlib.Core.List.{List, [], map}
use Rattle.model.specs.Table.{Table, Each, Ascending}
use Rattle.theory.specs.Sum.{only, sum}
use Rattle.theory.specs.Below.{below}
use Rattle.theory.specs.Arithmetic.{arithmetic, Weight, code_of}
use Rattle.theory.specs.Weight.{final}
use Rattle.theory.specs.Blocks.{block_of, block_count}
use Rattle.theory.specs.declared.Direction.{Direction}
use Rattle.theory.specs.declared.Direction.TheVariants.{Backward as backward, Forward as forward}
use Rattle.theory.specs.Direction.{sum_from, sum_into, CoarsestBlocks}
use Rattle.theory.specs.Entry.{key_at, code_at, Between}

module _ (X : Table) (b : ℕ → ℕ) where
  -- the weight for the blocks of the children qs and the block of the target q: backward, the sum over children in those blocks for this one
  -- target; forward, these children stand for their blocks, and the sum is over the targets in that block
  abbrev pub block_weight : Direction → ℕ → List ℕ → ℕ → Weight X.arithmetic
  block_weight backward σ qs q = sum_from X.arithmetic X b σ (map b qs) q
  block_weight forward σ qs q = sum_into X.arithmetic X b σ qs (b q)

  -- the final weight for the block of q: backward, the sum over its members; forward, this member's
  abbrev pub block_final : Direction → ℕ → Weight X.arithmetic
  block_final backward q = sum (arithmetic X.arithmetic) (below X.states) (λ p. only (arithmetic X.arithmetic) (eqb (b p) (b q)) (final X.arithmetic X p))
  block_final forward q = final X.arithmetic X q

-- Y has one state for each block of X; arithmetic, symbols and ranks stay; transitions whose sum is zero aren't listed
pub record Shape (X : Table) (b : ℕ → ℕ) (Y : Table) : Type 0 where
  pub arithmetic_stays : Y.arithmetic ≡ X.arithmetic
  pub ranks_stay : Y.ranks ≡ X.ranks
  pub states_blocks : Y.states ≡ block_count b X.states
  pub finals_many : length Y.finals ≡ Y.states
  pub zeros_unlisted : Each (λ t. 0 < t.code) Y.transitions
  pub ascending : Ascending [] Y.transitions

-- Y is X collapsed by the blocks b: a collapsed state has its block's number, and any members stand for their blocks
pub record Collapsed (d : Direction) (X : Table) (b : ℕ → ℕ) (Y : Table) : Type 0 where
  pub shape : Shape X b Y
  pub finals_collapsed : (q : ℕ) → q < X.states → get_or Y.finals (b q) 0 ≡ code_of X.arithmetic (block_final X b d q)
  pub codes_collapsed : (σ : ℕ) (qs : List ℕ) (q : ℕ) → Each (λ r. r < X.states) qs → q < X.states
      → code_at Y.transitions (key_at σ (map b qs) (b q)) ≡ code_of X.arithmetic (block_weight X b d σ qs q)
  pub states_known : Each (Between Y.states) Y.transitions

-- Y is X collapsed by its coarsest blocks
pub record CollapsedByCoarsest (d : Direction) (X Y : Table) : Type 0 where
  pub blocks : List ℕ
  pub coarsest_blocks : CoarsestBlocks d X blocks
  pub collapsed : Collapsed d X (block_of blocks) Y
