-- Numbers that stand for bounded weights: what their sums and products stand for, in either arithmetic.
use Prim.Native.Nat.{ℕ, zero, suc, ◌+◌, ◌^◌, ◌≤◌, ◌<◌}
use mathlib.Core.Path.{◌≡◌, ap, ◌∙◌}
use native.Mathlib.Omega.{arith}
use lib.IntN.{ℤ}
use lib.Signed.{mag}
use mir.Syntax.{w64}
use mir.Val.{to_z, of_z}
use mir.ValLaws.{to_z-of_z}
use Rattle.theory.specs.Arithmetic.{arithmetic, Weight, meaning, meaning_zero}
use Rattle.theory.proofs.Bound.{within_more, within_greater, within_added, within_meaning}
use Rattle.arith.specs.Numbers.{number_of, weight_of, Stands, InSheet}
use Rattle.arith.specs.Standing.{weight_number, number_stands, within_in_sheet}
use Rattle.weigh.specs.Numbers.{Bounded, StandsFor, Good}

bounded_in_sheet : (a k : ℕ) → k ≤ 2 ^ 32 → (w : Weight a) → Bounded a k w → InSheet a w
bounded_in_sheet zero k few w h = tt
bounded_in_sheet (suc a) k few w h = within_in_sheet a k few w h

bounded_zero : (a k : ℕ) → Bounded a k (arithmetic a).zero
bounded_zero zero k = tt
bounded_zero (suc a) k = tt

bounded_more : (a j k : ℕ) → j ≤ k → (w : Weight a) → Bounded a j w → Bounded a k w
bounded_more zero j k l w h = tt
bounded_more (suc a) j k l w h = within_more j k l w h

bounded_plus : (a k : ℕ) (u v : Weight a) → Bounded a k u → Bounded a k v → Bounded a k ((arithmetic a).plus u v)
bounded_plus zero k u v h i = tt
bounded_plus (suc a) k u v h i = within_greater k u v h i

bounded_times : (a j k : ℕ) (u v : Weight a) → Bounded a j u → Bounded a k v → Bounded a (j + k) ((arithmetic a).times u v)
bounded_times zero j k u v h i = tt
bounded_times (suc a) j k u v h i = within_added j k u v h i

bounded_meaning : (a c : ℕ) → c < 2 ^ 32 → Bounded a 1 (meaning a c)
bounded_meaning zero c l = tt
bounded_meaning (suc a) zero l = tt
bounded_meaning (suc a) (suc z) l = within_meaning (suc z) l

module _ (a k : ℕ) (few : k ≤ 2 ^ 32) (w : Weight a) (x : ℤ) (stands : StandsFor a k w x) where
  pub stands_weight : weight_of a x ≡ w
  stands_weight = rw stands.number (weight_number a w (bounded_in_sheet a k few w stands.bounded))

  pub stands_number : Stands a x
  stands_number = rw stands.number (number_stands a w (bounded_in_sheet a k few w stands.bounded))

  pub stands_good : Good a k x
  stands_good = rw (stands_weight) stands

module _ (a j k : ℕ) (few : j + k ≤ 2 ^ 32) (u v : Weight a) (x y : ℤ) (stands-u : StandsFor a j u x) (stands-v : StandsFor a k v y) where
  product_are : (arithmetic a).times (weight_of a x) (weight_of a y) ≡ (arithmetic a).times u v
  product_are = rw (stands_weight a j (omega arith) u x stands-u, stands_weight a k (omega arith) v y stands-v)

  product_in_sheet : InSheet a ((arithmetic a).times (weight_of a x) (weight_of a y))
  product_in_sheet = rw product_are (bounded_in_sheet a (j + k) few _ (bounded_times a j k u v stands-u.bounded stands-v.bounded))

  -- what their product requires
  pub factors_stand : Stands a x × Stands a y × InSheet a ((arithmetic a).times (weight_of a x) (weight_of a y))
  factors_stand = (stands_number a j (omega arith) u x stands-u, stands_number a k (omega arith) v y stands-v, product_in_sheet)

  pub stands_product : (r : ℤ) → r ≡ number_of a ((arithmetic a).times (weight_of a x) (weight_of a y)) → StandsFor a (j + k) ((arithmetic a).times u v) r
  stands_product r e = record { number = e ∙ ap (number_of a) product_are; bounded = bounded_times a j k u v stands-u.bounded stands-v.bounded }

pub stands_sum : (a k : ℕ) → k ≤ 2 ^ 32 → (u v : Weight a) (x y : ℤ) → StandsFor a k u x → StandsFor a k v y
    → (r : ℤ) → r ≡ number_of a ((arithmetic a).plus (weight_of a x) (weight_of a y)) → StandsFor a k ((arithmetic a).plus u v) r
stands_sum a k few u v x y stands-u stands-v r e = record {
  number = e ∙ rw (stands_weight a k few u x stands-u, stands_weight a k few v y stands-v);
  bounded = bounded_plus a k u v stands-u.bounded stands-v.bounded;
}

pub stands_more : (a j k : ℕ) → j ≤ k → (w : Weight a) (x : ℤ) → StandsFor a j w x → StandsFor a k w x
stands_more a j k l w x h = record { number = h.number; bounded = bounded_more a j k l w h.bounded }

pub stands_code : (a c : ℕ) → c < 2 ^ 32 → (x : ℤ) → x ≡ number_of a (meaning a c) → StandsFor a 1 (meaning a c) x
stands_code a c l x e = record { number = e; bounded = bounded_meaning a c l }

pub stands_zero : (a k : ℕ) (x : ℤ) → x ≡ number_of a (meaning a 0) → StandsFor a k (arithmetic a).zero x
stands_zero a k x e = record { number = e ∙ ap (number_of a) (meaning_zero a); bounded = bounded_zero a k }

-- a number that is carried as 64 bits comes back
pub carried : (x : ℤ) → mag x < 2 ^ 63 → to_z w64 (of_z w64 x) ≡ x
carried x fits = to_z-of_z w64 x (record { sfits = fits })
