-- Arithmetic 0: the numbers below 2^32, with sum and product modulo 2^32.
use Rattle.std.specs.Prelude.{◌≡◌, ℕ, ◌+◌, ◌*◌, ◌%◌, ◌/◌, ◌^◌, ◌<◌, eqb}
use Rattle.std.proofs.Common.{sym, ap, ◌∙◌, arith, mod-eq_of_lt, mul_comm, mul_assoc, add-mul, eqb→eq}
use mathlib.Core.HLevel.{Σ_prop_path}
use Rattle.std.proofs.Math.Bridge.{le_prop}
use Rattle.std.proofs.Math.Nat.{mod-add-div, add-mul-mod_self_left}
use Rattle.std.proofs.Math.Dec.{eqb_refl}
use Rattle.theory.specs.Semiring.{Operations}

-- a number below 2^32
abbrev pub Residue : Type 0
Residue = (n : ℕ) × (n < 2 ^ 32)

pub remainder_fits : (n : ℕ) → n % 2 ^ 32 < 2 ^ 32
remainder_fits n = omega arith

-- a number modulo 2^32
abbrev pub residue : ℕ → Residue
residue n = (n % 2 ^ 32, remainder_fits n)

-- the number decides the residue
pub residue_same : {u v : Residue} → u.0 ≡ v.0 → u ≡ v
residue_same e = Σ_prop_path (λ n. le_prop) e

pub residue_number : (u : Residue) → residue u.0 ≡ u
residue_number u = residue_same (mod-eq_of_lt u.1)

-- a factor may be reduced before it is multiplied
pub remainder_times : (m a b : ℕ) → (a % m * b) % m ≡ (a * b) % m
remainder_times m a b = sym (add-mul-mod_self_left (a % m * b) m (a / m * b))
    ∙ ap (λ (x : ℕ). x % m) (ap (◌+◌ (a % m * b)) (sym (mul_assoc m (a / m) b)) ∙ sym (add-mul (a % m) (m * (a / m)) b) ∙ ap (λ (x : ℕ). x * b) (mod-add-div a m))

pub times_remainder : (m a b : ℕ) → (a * (b % m)) % m ≡ (a * b) % m
times_remainder m a b = ap (λ (x : ℕ). x % m) (mul_comm a (b % m)) ∙ remainder_times m b a ∙ ap (λ (x : ℕ). x % m) (mul_comm b a)

abbrev pub modular : Operations
modular = record {
  Carrier = Residue;
  zero = residue 0;
  one = residue 1;
  plus = λ a b. residue (a.0 + b.0);
  times = λ a b. residue (a.0 * b.0);
  equality = record { same = λ a b. eqb a.0 b.0; same_equal = λ a b t. residue_same (eqb→eq a.0 b.0 t); same_self = λ a. eqb_refl a.0 };
}
