-- Arithmetic 1: nothing or a whole number; the sum is the maximum, the product is addition.
use Rattle.std.specs.Prelude.{◌≡◌, refl, Bool, true, false, ℕ, T, eqb, ℤ, pos, negsuc, ◌+ℤ◌}
use Rattle.std.proofs.Common.{ap, eqb→eq}
use Rattle.std.proofs.Math.Dec.{eqb_refl}
use Rattle.theory.specs.Equality.{Equality}
use Rattle.theory.specs.Semiring.{Operations}
use Rattle.theory.specs.Maximum.{max_z}

-- nothing, or a whole number
pub data Value : Type 0 where
  nothing : Value
  number : ℤ → Value

-- nothing is below every number
abbrev pub greater : Value → Value → Value
greater nothing v = v
greater (number a) nothing = number a
greater (number a) (number b) = number (max_z a b)

-- nothing plus anything is nothing
abbrev pub added : Value → Value → Value
added nothing v = nothing
added (number a) nothing = nothing
added (number a) (number b) = number (a +ℤ b)

abbrev pub same_value : Value → Value → Bool
same_value nothing nothing = true
same_value nothing (number b) = false
same_value (number a) nothing = false
same_value (number (pos a)) (number (pos b)) = eqb a b
same_value (number (pos a)) (number (negsuc b)) = false
same_value (number (negsuc a)) (number (pos b)) = false
same_value (number (negsuc a)) (number (negsuc b)) = eqb a b

pub same_value_equal : (u v : Value) → T (same_value u v) → u ≡ v
same_value_equal nothing nothing t = refl
same_value_equal nothing (number b) t = absurd t
same_value_equal (number a) nothing t = absurd t
same_value_equal (number (pos a)) (number (pos b)) t = ap (λ (x : ℕ). number (pos x)) (eqb→eq a b t)
same_value_equal (number (pos a)) (number (negsuc b)) t = absurd t
same_value_equal (number (negsuc a)) (number (pos b)) t = absurd t
same_value_equal (number (negsuc a)) (number (negsuc b)) t = ap (λ (x : ℕ). number (negsuc x)) (eqb→eq a b t)

pub same_value_self : (u : Value) → T (same_value u u)
same_value_self nothing = tt
same_value_self (number (pos a)) = eqb_refl a
same_value_self (number (negsuc a)) = eqb_refl a

abbrev pub values : Equality Value
values = record { same = same_value; same_equal = same_value_equal; same_self = same_value_self }

abbrev pub max_plus : Operations
max_plus = record {
  Carrier = Value;
  zero = nothing;
  one = number (pos 0);
  plus = greater;
  times = added;
  equality = values;
}
