-- The blocks to start from, and the numbers to end with.
use Rattle.std.specs.Prelude.{ℕ, ◌<◌, Option, MatchOption, List, ◌↔◌, ◌≡◌, length, get_or}
use Rattle.theory.specs.Blocks.{block_of, FirstUse, block_count}
use Rattle.theory.specs.declared.Direction.{Direction}
use Rattle.theory.specs.declared.Direction.TheVariants.{Backward as backward, Forward as forward}

-- backward any two states may share a block; forward those with equal final codes
abbrev pub MayShare : Direction → List ℕ → ℕ → ℕ → Type 0
MayShare backward finals p q = Unit {0}
MayShare forward finals p q = get_or finals p 0 ≡ get_or finals q 0

-- the block numbers of the states below n are those below `total`, each of them used
pub record Numbered (n : ℕ) (blocks : List ℕ) (total : ℕ) : Type 0 where
  pub below : (q : ℕ) → q < n → get_or blocks q 0 < total
  pub used : (D : ℕ) → D < total → (q : ℕ) × (q < n) × (get_or blocks q 0 ≡ D)
  pub long : length blocks ≡ 256

-- the blocks to start from
pub record Started (d : Direction) (n : ℕ) (finals blocks : List ℕ) (total : ℕ) : Type 0 where
  pub numbered : Numbered n blocks total
  pub shared : (p q : ℕ) → p < n → q < n → (get_or blocks p 0 ≡ get_or blocks q 0) ↔ MayShare d finals p q

-- the first state below q that may share q's block, if there is one
abbrev pub FirstAlike : Direction → List ℕ → ℕ → Option ℕ → Type 0
FirstAlike d finals q found = MatchOption found
    ((k : ℕ) → k < q → MayShare d finals k q → ⊥)
    (λ p. (p < q) × MayShare d finals p q × ((k : ℕ) → k < p → MayShare d finals k q → ⊥))

-- the same blocks, numbered by first use
pub record FirstUsed (n : ℕ) (before after : List ℕ) (total : ℕ) : Type 0 where
  pub same : (p q : ℕ) → p < n → q < n → (get_or after p 0 ≡ get_or after q 0) ↔ (get_or before p 0 ≡ get_or before q 0)
  pub first_use : FirstUse n (block_of after)
  pub counts : total ≡ block_count (block_of after) n
  pub long : length after ≡ 256
