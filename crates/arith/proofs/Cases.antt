-- Which number an arithmetic has that was taken as one of the two or as a number: 0 if it is modular, and else one above 0.
use Rattle.std.proofs.Common.{◌≡◌, ◌≢◌, ℕ, zero, suc, ◌-◌, refl, arith}
use Rattle.theory.specs.declared.Arithmetic.TheVariants.{Modular, MaxPlus}
use Rattle.theory.specs.Arithmetic.{arithmetic_of}

pub number_of_modular : (n : ℕ) → Modular ≡ arithmetic_of n → n ≡ 0
number_of_modular zero e = refl
number_of_modular (suc m) e = cc

pub number_of_max_plus : (n : ℕ) → MaxPlus ≡ arithmetic_of n → n ≡ suc (n - 1)
number_of_max_plus zero e = cc
number_of_max_plus (suc m) e = omega arith

pub number_some : (n : ℕ) → MaxPlus ≡ arithmetic_of n → n ≢ 0
number_some n e none = let more = number_of_max_plus n e in omega arith
