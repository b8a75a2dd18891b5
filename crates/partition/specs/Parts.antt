-- New numbers for the parts of a block.
use Rattle.std.specs.Prelude.{ℕ, ◌+◌, ◌-◌, ◌≤◌, ◌<◌, Bool, false, cond, List, ◌≢◌, ◌≡◌, eqb, ltb, length, get_or}
use Rattle.partition.specs.Members.{flag}

-- the number of part m: one part keeps the block's number, the others get the numbers from `total` on
abbrev pub number_of : ℕ → ℕ → ℕ → ℕ → ℕ
number_of keeper block total m = cond (eqb m keeper) block (cond (ltb m keeper) (total + m) (total + m - 1))

-- the states found have the numbers of their parts and are clean; all other states are as they were
pub record Renumbered (many block total keeper : ℕ) (found part blocks : List ℕ) (dirty : List Bool) (blocks' : List ℕ) (dirty' : List Bool) : Type 0 where
  pub numbered : (i : ℕ) → i < many → get_or blocks' (get_or found i 0) 0 ≡ number_of keeper block total (get_or part i 0)
  pub cleared : (i : ℕ) → i < many → flag dirty' (get_or found i 0) ≡ false
  pub others : (q : ℕ) → ((i : ℕ) → i < many → get_or found i 0 ≢ q) → (get_or blocks' q 0 ≡ get_or blocks q 0) × (flag dirty' q ≡ flag dirty q)
  pub blocks_long : length blocks' ≡ 256
  pub dirty_long : length dirty' ≡ 256

-- the fresh number of part m is a byte
pub record Fits (keeper total m : ℕ) : Type 0 where
  pub lower : m < keeper → total + m < 256
  pub higher : keeper < m → total + m ≤ 256
