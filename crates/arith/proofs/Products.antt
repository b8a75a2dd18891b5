-- What the machine's products of sheet numbers stand for, in each arithmetic.
use Rattle.std.proofs.Common.{◌≡◌, ℕ, suc, ◌+◌, ◌-◌, ◌*◌, ◌%◌, ◌^◌, ◌<◌, false, ℤ, pos, negsuc, ◌+ℤ◌, nat_abs, sym, refl, ap, ◌∙◌, lt_of_le_of_lt, le_of_lt, mul-le-mul_left, mul-lt-mul_of_pos_right, arith, pow_pos, pow-add, w64, SFits, to_z, of_z, ne_eqb}
use mathlib.Core.Path.{subst⁻¹}
use mir.ValLaws.{to_z_pos, to_z-of_z}
use Rattle.theory.specs.MaxPlus.{number, added}
use Rattle.theory.proofs.MaxPlus.{added_nothing}
use Rattle.theory.specs.Arithmetic.{arithmetic}
use Rattle.theory.proofs.Bound.{mag_nat_abs}
use Rattle.arith.specs.Numbers.{number_of, weight_of, is_nothing, Stands, InSheet}
use Rattle.arith.proofs.Sums.{narrowed}

-- the product of two numbers of k bits has at most k + k
pub product_below : (k : ℕ) {a b : ℕ} → a < 2 ^ k → b < 2 ^ k → a * b < 2 ^ (k + k)
product_below k {a} {b} ha hb =
    subst⁻¹ (λ (n : ℕ). a * b < n) (pow-add 2 k k)
    (lt_of_le_of_lt (mul-le-mul_left a (le_of_lt hb)) (mul-lt-mul_of_pos_right ha (pow_pos k)))

pub product_modular : (a b : ℤ) → SFits w64 a → SFits w64 b → Stands 0 a → Stands 0 b → (r : ℕ)
    → r ≡ nat_abs (to_z w64 (of_z w64 a)) * nat_abs (to_z w64 (of_z w64 b)) % 2 ^ 32
    → to_z w64 r ≡ number_of 0 ((arithmetic 0).times (weight_of 0 a) (weight_of 0 b))
product_modular a b fa fb sa sb r e =
    let same : r ≡ (weight_of 0 a).0 * (weight_of 0 b).0 % 2 ^ 32 = rw (← narrowed a fa sa, ← narrowed b fb sb) e in
    to_z_pos w64 r (omega arith) ∙ ap pos same

-- nothing, as the machine tests for it
is-nothing : (z : ℤ) → SFits w64 z → of_z w64 z ≡ 9223372036854775808 → z ≡ negsuc 9223372036854775807
is-nothing z fits e = sym (to_z-of_z w64 z fits) ∙ ap (to_z w64) e

is_some : (z : ℤ) → SFits w64 z → (of_z w64 z ≡ 9223372036854775808 → ⊥) → is_nothing z ≡ false
is_some (pos n) fits some = refl
is_some (negsuc n) fits some = ne_eqb n 9223372036854775807 (λ e. some (let bits : 18446744073709551616 - suc n ≡ 9223372036854775808 = omega arith in bits))

module _ (a b : ℤ) (fa : SFits w64 a) (fb : SFits w64 b) where
  pub product_nothing_left : of_z w64 a ≡ 9223372036854775808
      → negsuc 9223372036854775807 ≡ number_of 1 (added (weight_of 1 a) (weight_of 1 b))
  product_nothing_left e = rw (is-nothing a fa e)

  pub product_nothing_right : of_z w64 b ≡ 9223372036854775808
      → negsuc 9223372036854775807 ≡ number_of 1 (added (weight_of 1 a) (weight_of 1 b))
  product_nothing_right e = rw (is-nothing b fb e, added_nothing (weight_of 1 a))

  module _ (some-a : of_z w64 a ≡ 9223372036854775808 → ⊥) (some-b : of_z w64 b ≡ 9223372036854775808 → ⊥) where
    product_number : added (weight_of 1 a) (weight_of 1 b) ≡ number (a +ℤ b)
    product_number = rw (is_some a fa some-a, is_some b fb some-b)

    pub product_fits : InSheet 1 (added (weight_of 1 a) (weight_of 1 b)) → SFits w64 (to_z w64 (of_z w64 a) +ℤ to_z w64 (of_z w64 b))
    product_fits h =
        let small : nat_abs (a +ℤ b) < 2 ^ 63 = rw product_number at h in
        rw (to_z-of_z w64 a fa, to_z-of_z w64 b fb) record { sfits = omega (arith, mag_nat_abs (a +ℤ b)) }

    pub product_sum : InSheet 1 (added (weight_of 1 a) (weight_of 1 b))
        → to_z w64 (of_z w64 (to_z w64 (of_z w64 a) +ℤ to_z w64 (of_z w64 b))) ≡ number_of 1 (added (weight_of 1 a) (weight_of 1 b))
    product_sum h = to_z-of_z w64 _ (product_fits h) ∙ rw (to_z-of_z w64 a fa, to_z-of_z w64 b fb, product_number)
