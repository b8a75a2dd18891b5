-- The laws of arithmetic 1.
use Rattle.std.specs.Prelude.{◌≡◌, refl, pos}
use Rattle.std.proofs.Common.{ap}
use Rattle.std.proofs.Math.IntN.{+ℤ_comm, +ℤ_assoc, +ℤ_idr}
use Rattle.theory.specs.Maximum.{max_z_comm, max_z_assoc, plus_max_z}
use Rattle.theory.specs.Semiring.{Laws}
use Rattle.theory.specs.MaxPlus.{Value, nothing, number, greater, added, max_plus}

pub greater_comm : (u v : Value) → greater u v ≡ greater v u
greater_comm nothing nothing = refl
greater_comm nothing (number b) = refl
greater_comm (number a) nothing = refl
greater_comm (number a) (number b) = ap number (max_z_comm a b)

pub greater_assoc : (u v w : Value) → greater (greater u v) w ≡ greater u (greater v w)
greater_assoc nothing v w = refl
greater_assoc (number a) nothing w = refl
greater_assoc (number a) (number b) nothing = refl
greater_assoc (number a) (number b) (number c) = ap number (max_z_assoc a b c)

pub greater_nothing : (u : Value) → greater u nothing ≡ u
greater_nothing nothing = refl
greater_nothing (number a) = refl

pub added_comm : (u v : Value) → added u v ≡ added v u
added_comm nothing nothing = refl
added_comm nothing (number b) = refl
added_comm (number a) nothing = refl
added_comm (number a) (number b) = ap number (+ℤ_comm a b)

pub added_assoc : (u v w : Value) → added (added u v) w ≡ added u (added v w)
added_assoc nothing v w = refl
added_assoc (number a) nothing w = refl
added_assoc (number a) (number b) nothing = refl
added_assoc (number a) (number b) (number c) = ap number (+ℤ_assoc a b c)

pub added_zero : (u : Value) → added u (number (pos 0)) ≡ u
added_zero nothing = refl
added_zero (number a) = ap number (+ℤ_idr a)

pub added_nothing : (u : Value) → added u nothing ≡ nothing
added_nothing nothing = refl
added_nothing (number a) = refl

pub added_greater : (u v w : Value) → added u (greater v w) ≡ greater (added u v) (added u w)
added_greater nothing v w = refl
added_greater (number a) nothing nothing = refl
added_greater (number a) nothing (number c) = refl
added_greater (number a) (number b) nothing = refl
added_greater (number a) (number b) (number c) = ap number (plus_max_z a b c)

pub max_plus_laws : Laws max_plus
max_plus_laws = record {
  plus_comm = greater_comm;
  plus_assoc = greater_assoc;
  plus_zero = greater_nothing;
  times_comm = added_comm;
  times_assoc = added_assoc;
  times_one = added_zero;
  times_zero = added_nothing;
  times_plus = added_greater;
}
