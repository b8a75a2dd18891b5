-- The invariant of the loop that multiplies a transition's weight by its children's: the product so far, times the children that are
-- left, is the whole product.
use Prim.Native.Nat.{ℕ, suc, ◌+◌, ◌*◌, ◌-◌, ◌≤◌, ◌<◌}
use mathlib.Core.Path.{◌≡◌, subst}
use native.Mathlib.Omega.{arith}
use native.Mathlib.Numerals.{add-one}
use lib.IntN.{ℤ}
use Rattle.theory.specs.Arithmetic.{arithmetic, Weight}
use Rattle.arith.specs.Numbers.{number_of, weight_of, Stands, InSheet}
use Rattle.weigh.specs.Numbers.{StandsFor, Good}
use Rattle.weigh.specs.Rows.{Sources, child_number, times_children, row_product}
use Rattle.weigh.proofs.Bounds.{stands_weight, stands_good, stands_more, factors_stand, stands_product}

-- k children of transition j are multiplied into x
pub record Multiplying (a : ℕ) (s : Sources) (rank j k : ℕ) (x : ℤ) : Type 0 where
  pub good : Good a (1 + k * 4096) x
  pub rest : times_children a s j (weight_of a x) k (rank - k) ≡ row_product a s rank j

module _ (a : ℕ) (s : Sources) (rank j : ℕ) where
  module _ (few : rank ≤ 4) (k : ℕ) (x : ℤ) (so_far : Multiplying a s rank j k x) where
    module _ (more : k < rank) (child : Good a 4096 (child_number s j k)) where
      pub factors : Stands a x × Stands a (child_number s j k) × InSheet a ((arithmetic a).times (weight_of a x) (weight_of a (child_number s j k)))
      factors = factors_stand a (1 + k * 4096) 4096 (omega arith) (weight_of a x) (weight_of a (child_number s j k)) x (child_number s j k) so_far.good child

      pub multiplying_goes_on : (r : ℤ) → r ≡ number_of a ((arithmetic a).times (weight_of a x) (weight_of a (child_number s j k))) → Multiplying a s rank j (k + 1) r
      multiplying_goes_on r e =
          let stands = stands_product a (1 + k * 4096) 4096 (omega arith) (weight_of a x) (weight_of a (child_number s j k)) x (child_number s j k) so_far.good child r e in
          let same = stands_weight a (1 + k * 4096 + 4096) (omega arith) _ r stands in
          let left : rank - k ≡ suc (rank - (k + 1)) = omega arith in
          record {
            good = stands_more a (1 + k * 4096 + 4096) (1 + (k + 1) * 4096) (omega arith) (weight_of a r) r (stands_good a (1 + k * 4096 + 4096) (omega arith) _ r stands);
            rest = rw (same, add-one k) (rw (left, add-one k) at so_far.rest);
          }

    pub multiplying_ends : k ≡ rank → StandsFor a 16385 (row_product a s rank j) x
    multiplying_ends done =
        let none : rank - k ≡ 0 = omega arith in
        let all : weight_of a x ≡ row_product a s rank j = rw none at so_far.rest in
        subst (λ (w : Weight a). StandsFor a 16385 w x) all (stands_more a (1 + k * 4096) 16385 (omega arith) (weight_of a x) x so_far.good)
