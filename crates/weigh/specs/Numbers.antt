-- Numbers that stand for weights which are not too far from 0.
use Rattle.std.specs.Prelude.{ℕ, zero, suc, ◌≡◌, ℤ}
use Rattle.theory.specs.Arithmetic.{Weight}
use Rattle.theory.specs.Bound.{Within}
use Rattle.arith.specs.Numbers.{number_of, weight_of}

-- in arithmetic 1, nothing or a number within k times 2,147,483,647 of 0
abbrev pub Bounded : (a : ℕ) → ℕ → Weight a → Type 0
Bounded zero k w = Unit {0}
Bounded (suc a) k w = Within k w

-- the number x stands for the weight w, which is bounded
pub record StandsFor (a k : ℕ) (w : Weight a) (x : ℤ) : Type 0 where
  pub number : x ≡ number_of a w
  pub bounded : Bounded a k w

-- a number of the sheet stands for a weight within k times 2,147,483,647 of 0
abbrev pub Good : ℕ → ℕ → ℤ → Type 0
Good a k x = StandsFor a k (weight_of a x) x
