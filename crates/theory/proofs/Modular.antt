-- The laws of arithmetic 0.
use Rattle.std.specs.Prelude.{◌≡◌, ℕ, ◌+◌, ◌*◌, ◌%◌, ◌^◌}
use Rattle.std.proofs.Common.{sym, ap, ◌∙◌, mod-eq_of_lt, add_comm, add_assoc, mul_comm, mul_assoc, mul-add, mul-one, mul-zero, add-zero}
use Rattle.std.proofs.Math.Nat.{mod-add-mod, add-mod-mod}
use Rattle.theory.specs.Semiring.{Laws}
use Rattle.theory.specs.Modular.{residue, residue_same, remainder_times, times_remainder, modular}

abbrev modulo : {x y : ℕ} → x ≡ y → x % 2 ^ 32 ≡ y % 2 ^ 32
modulo e = ap (λ (x : ℕ). x % 2 ^ 32) e

pub modular_laws : Laws modular
modular_laws = record {
  plus_comm = λ a b. ap residue (add_comm a.0 b.0);
  plus_assoc = λ a b c. residue_same (mod-add-mod (a.0 + b.0) (2 ^ 32) c.0 ∙ modulo (add_assoc a.0 b.0 c.0) ∙ sym (add-mod-mod a.0 (b.0 + c.0) (2 ^ 32)));
  plus_zero = λ a. residue_same (modulo (add-zero a.0) ∙ mod-eq_of_lt a.1);
  times_comm = λ a b. ap residue (mul_comm a.0 b.0);
  times_assoc = λ a b c. residue_same (remainder_times (2 ^ 32) (a.0 * b.0) c.0 ∙ modulo (mul_assoc a.0 b.0 c.0) ∙ sym (times_remainder (2 ^ 32) a.0 (b.0 * c.0)));
  times_one = λ a. residue_same (modulo (mul-one a.0) ∙ mod-eq_of_lt a.1);
  times_zero = λ a. residue_same (modulo (mul-zero a.0));
  times_plus = λ a b c. residue_same (times_remainder (2 ^ 32) a.0 (b.0 + c.0) ∙ modulo (mul-add a.0 b.0 c.0)
      ∙ sym (mod-add-mod (a.0 * b.0) (2 ^ 32) (a.0 * c.0 % 2 ^ 32) ∙ add-mod-mod (a.0 * b.0) (a.0 * c.0) (2 ^ 32)));
}
