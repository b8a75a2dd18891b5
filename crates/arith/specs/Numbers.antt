-- The numbers of a sheet: which number stands for a weight, and which weight a number stands for.
use Rattle.std.specs.Prelude.{◌≡◌, Option, None, Some, ℕ, zero, suc, ◌^◌, ◌<◌, Bool, false, cond, ℤ, pos, negsuc, ◌==◌, unsigned_abs}
use Rattle.theory.specs.Modular.{residue}
use Rattle.theory.specs.MaxPlus.{Value, nothing, number}
use Rattle.theory.specs.Arithmetic.{Weight, value_of, sheet_number}

-- a meaning of arithmetic 1 as the theory has it
abbrev pub value_in : Option ℤ → Value
value_in None = nothing
value_in (Some z) = number z

-- the number that stands for a weight in a sheet
abbrev pub number_of : (a : ℕ) → Weight a → ℤ
number_of a w = sheet_number (value_of a w)

-- −9,223,372,036,854,775,808 stands for nothing
abbrev pub is_nothing : ℤ → Bool
is_nothing (pos n) = false
is_nothing (negsuc n) = n == 9223372036854775807

-- the weight that a number of a sheet stands for
abbrev pub weight_of : (a : ℕ) → ℤ → Weight a
weight_of zero z = residue (unsigned_abs z)
weight_of (suc a) z = cond (is_nothing z) nothing (number z)

-- the number stands for a weight
abbrev pub Stands : ℕ → ℤ → Type 0
Stands a z = number_of a (weight_of a z) ≡ z

-- the weight has a number of its own in a sheet: in arithmetic 1 a number that isn't nothing is less than 2^63 from 0
abbrev pub InSheet : (a : ℕ) → Weight a → Type 0
InSheet zero w = Unit {0}
InSheet (suc a) nothing = Unit {0}
InSheet (suc a) (number z) = unsigned_abs z < 2 ^ 63
