-- Numbers of a sheet and the weights that they stand for decide each other.
use Rattle.std.specs.Prelude.{◌≡◌, ℕ, zero, suc, ◌^◌, ◌<◌, ◌≤◌, Bool, true, false, cond, T, ℤ, pos, negsuc, ◌==◌, int_le, unsigned_abs, refl}
use Rattle.std.proofs.Common.{ap, sym, ◌∙◌, arith, ne_eqb, eqb-true, leb→le, le→leb}
use Rattle.std.proofs.lemmas.Bool.{eqb-false}
use Rattle.std.proofs.Math.IntN.{pos-ne-negsuc}
use Rattle.std.specs.Int.Signed.{mag, non_neg}
use Rattle.theory.specs.Equality.{of_true, true_of}
use Rattle.theory.specs.Modular.{residue_number}
use Rattle.theory.specs.MaxPlus.{Value, nothing, number, greater}
use Rattle.theory.specs.Arithmetic.{Weight, sheet_number}
use Rattle.theory.specs.Bound.{Within}
use Rattle.arith.specs.Numbers.{number_of, weight_of, is_nothing, Stands, InSheet}

number_some : (z : ℤ) → unsigned_abs z < 2 ^ 63 → is_nothing z ≡ false
number_some (pos n) l = refl
number_some (negsuc n) l = ne_eqb n 9223372036854775807 (λ e. omega arith)

-- the weight that a weight's number stands for is that weight
pub weight_number : (a : ℕ) (w : Weight a) → InSheet a w → weight_of a (number_of a w) ≡ w
weight_number zero w h = residue_number w
weight_number (suc a) nothing h = refl
weight_number (suc a) (number z) h = rw (number_some z h)

pub number_stands : (a : ℕ) (w : Weight a) → InSheet a w → Stands a (number_of a w)
number_stands a w h = ap (number_of a) (weight_number a w h)

-- in arithmetic 1 every number stands for a weight
pub number_of_weight : (a : ℕ) (z : ℤ) → Stands (suc a) z
number_of_weight a (pos n) = refl
number_of_weight a (negsuc n) = go (n == 9223372036854775807) refl
  where
    go : (c : Bool) → (n == 9223372036854775807) ≡ c → sheet_number (cond c nothing (number (negsuc n))) ≡ negsuc n
    go true e = ap negsuc (sym (eqb-true n 9223372036854775807 e))
    go false e = refl

pub weight_in_sheet : (a : ℕ) (z : ℤ) → mag z < 2 ^ 63 → InSheet (suc a) (weight_of (suc a) z)
weight_in_sheet a (pos n) l = l
weight_in_sheet a (negsuc n) l = go (n == 9223372036854775807) refl
  where
    go : (c : Bool) → (n == 9223372036854775807) ≡ c → InSheet 1 (cond c nothing (number (negsuc n)))
    go true e = tt
    go false e = omega (arith, eqb-false n 9223372036854775807 e)

-- in arithmetic 0 the numbers below 2^32 do
pub stands_small : (z : ℤ) → Stands 0 z → T (non_neg z) × (unsigned_abs z < 2 ^ 32)
stands_small (pos n) h = (tt, let e : unsigned_abs (number_of 0 (weight_of 0 (pos n))) ≡ n = ap unsigned_abs h in omega arith)
stands_small (negsuc n) h = absurd (pos-ne-negsuc _ n h)

-- the order of the numbers is that of the weights: nothing is below every number
pub greater_right : (a : ℕ) (u v : Weight (suc a)) → InSheet (suc a) u → int_le (number_of (suc a) u) (number_of (suc a) v) ≡ true → greater u v ≡ v
greater_right a nothing v h e = refl
greater_right a (number (negsuc m)) nothing h e = absurd (omega (arith, leb→le 9223372036854775807 m (of_true _ e)))
greater_right a (number (pos m)) nothing h e = let z : ◌≡◌ {A = Bool} false true = e in cc
greater_right a (number x) (number y) h e = rw e

pub greater_left : (a : ℕ) (u v : Weight (suc a)) → InSheet (suc a) v → int_le (number_of (suc a) u) (number_of (suc a) v) ≡ false → greater u v ≡ u
greater_left a nothing nothing h e = refl
greater_left a nothing (number (pos n)) h e = let z : ◌≡◌ {A = Bool} true false = e in cc
greater_left a nothing (number (negsuc n)) h e =
    let z : ◌≡◌ {A = Bool} true false = sym (true_of _ (le→leb n 9223372036854775807 (omega arith))) ∙ e in cc
greater_left a (number x) nothing h e = refl
greater_left a (number x) (number y) h e = rw e

-- a weight within so many times 2,147,483,647 of 0 has a number of its own
pub within_in_sheet : (a k : ℕ) → k ≤ 2 ^ 32 → (w : Value) → Within k w → InSheet (suc a) w
within_in_sheet a k few nothing h = tt
within_in_sheet a k few (number z) h = omega arith
