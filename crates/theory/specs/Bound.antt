-- How far from 0 a weight of arithmetic 1 can lie: 2,147,483,647 for each node, and once more for the final weight.
use Rattle.std.specs.Prelude.{ℕ, ◌*◌, ◌≤◌, nat_abs}
use Rattle.theory.specs.MaxPlus.{Value, nothing, number}

-- nothing, or a number within k times 2,147,483,647 of 0
abbrev pub Within : ℕ → Value → Type 0
Within k nothing = Unit {0}
Within k (number z) = nat_abs z ≤ k * 2147483647
