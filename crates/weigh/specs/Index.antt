-- The index of a table's transitions by symbol.
use Rattle.std.specs.Prelude.{ℕ, ◌≤◌, ◌<◌, List, get_or}

-- where the transitions of symbols below s end and the others begin
pub record Begins (symbol : List ℕ) (count s begin : ℕ) : Type 0 where
  pub within : begin ≤ count
  pub below : (i : ℕ) → i < begin → get_or symbol i 0 < s
  pub above : (i : ℕ) → begin ≤ i → i < count → s ≤ get_or symbol i 0

-- the symbols of the transitions never fall
abbrev pub Rising : List ℕ → ℕ → Type 0
Rising symbol count = (i j : ℕ) → i ≤ j → j < count → get_or symbol i 0 ≤ get_or symbol j 0
