-- Commutative semirings: the laws that both arithmetics share.
use Rattle.std.specs.Prelude.{◌≡◌}
use Rattle.theory.specs.Equality.{Equality}

-- a type with a sum and a product, and an equality that computes
pub record Operations : Type 1 where
  pub Carrier : Type 0
  pub zero : Carrier
  pub one : Carrier
  pub plus : Carrier → Carrier → Carrier
  pub times : Carrier → Carrier → Carrier
  pub equality : Equality Carrier

-- the laws of a semiring: S keeps them
pub record Laws (S : Operations) : Type 0 where
  pub plus_comm : (a b : S.Carrier) → S.plus a b ≡ S.plus b a
  pub plus_assoc : (a b c : S.Carrier) → S.plus (S.plus a b) c ≡ S.plus a (S.plus b c)
  pub plus_zero : (a : S.Carrier) → S.plus a S.zero ≡ a
  pub times_comm : (a b : S.Carrier) → S.times a b ≡ S.times b a
  pub times_assoc : (a b c : S.Carrier) → S.times (S.times a b) c ≡ S.times a (S.times b c)
  pub times_one : (a : S.Carrier) → S.times a S.one ≡ a
  pub times_zero : (a : S.Carrier) → S.times a S.zero ≡ S.zero
  pub times_plus : (a b c : S.Carrier) → S.times a (S.plus b c) ≡ S.plus (S.times a b) (S.times a c)

-- a type with a sum and a product, their laws, and an equality that computes
pub record Semiring : Type 1 where
  pub operations : Operations
  pub laws : Laws operations
