-- What the machine's sums of codes and of sheet numbers stand for, in each arithmetic.
use Rattle.std.proofs.Common.{◌≡◌, ◌≢◌, ℕ, zero, suc, ◌+◌, ◌%◌, ◌^◌, ◌<◌, true, false, ℤ, pos, nat_abs, sym, refl, ap, ◌∙◌, arith, w64, SFits, to_z, of_z}
use Rattle.std.proofs.Common.{Bool, cond, not, int_lt}
use Rattle.std.specs.Int.{int_max}
use Rattle.std.proofs.lemmas.Int.{ints}
use lib.Signed.{le_z}
use Rattle.theory.specs.MaxPlus.{greater}
use mir.ValLaws.{to_z_pos, to_z-of_z}
use Rattle.theory.specs.Arithmetic.{arithmetic, meaning, code_of, code_of-meaning}
use Rattle.theory.proofs.Bound.{within_meaning}
use Rattle.arith.specs.Numbers.{number_of, weight_of, Stands, InSheet}
use Rattle.arith.specs.Standing.{number_of_weight, weight_in_sheet, stands_small, greater_right, greater_left, within_in_sheet}

-- a sheet number of arithmetic 0 as the machine narrows it
pub narrowed : (z : ℤ) → SFits w64 z → Stands 0 z → nat_abs (to_z w64 (of_z w64 z)) ≡ (weight_of 0 z).0
narrowed z fits stands = rw (to_z-of_z w64 z fits) (let small = stands_small z stands in omega arith)

pub sum_modular : (a b : ℤ) → SFits w64 a → SFits w64 b → Stands 0 a → Stands 0 b → (r : ℕ)
    → r ≡ (nat_abs (to_z w64 (of_z w64 a)) + nat_abs (to_z w64 (of_z w64 b))) % 2 ^ 32
    → to_z w64 r ≡ number_of 0 ((arithmetic 0).plus (weight_of 0 a) (weight_of 0 b))
sum_modular a b fa fb sa sb r e =
    let same : r ≡ ((weight_of 0 a).0 + (weight_of 0 b).0) % 2 ^ 32 = rw (← narrowed a fa sa, ← narrowed b fb sb) e in
    to_z_pos w64 r (omega arith) ∙ ap pos same

-- the greater of two numbers stands for the greater of their weights
pub sum_greater : (a b : ℤ) → SFits w64 a → SFits w64 b → int_max a b ≡ number_of 1 (greater (weight_of 1 a) (weight_of 1 b))
sum_greater a b fa fb = let same : int_lt b a ≡ not (le_z a b) = grind (arith, ints) in rw same (go (le_z a b) refl)
  where
    in_order : (c : Bool) → le_z a b ≡ c → le_z (number_of 1 (weight_of 1 a)) (number_of 1 (weight_of 1 b)) ≡ c
    in_order c e = rw (number_of_weight 0 a, number_of_weight 0 b) e

    go : (c : Bool) → le_z a b ≡ c → cond (not c) a b ≡ number_of 1 (greater (weight_of 1 a) (weight_of 1 b))
    go true e = rw (greater_right 0 (weight_of 1 a) (weight_of 1 b) (weight_in_sheet 0 a fa.sfits) (in_order true e)) (sym (number_of_weight 0 b))
    go false e = rw (greater_left 0 (weight_of 1 a) (weight_of 1 b) (weight_in_sheet 0 b fb.sfits) (in_order false e)) (sym (number_of_weight 0 a))

meaning_in_sheet : (c : ℕ) → c < 2 ^ 32 → InSheet 1 (meaning 1 c)
meaning_in_sheet c l = within_in_sheet 0 1 (omega arith) (meaning 1 c) (within_meaning c l)

-- the code of the greater meaning, where x and y stand for the two meanings
module _ (a b : ℕ) (fa : a < 2 ^ 32) (fb : b < 2 ^ 32) (x y : ℤ) (fx : SFits w64 x) (fy : SFits w64 y) (ex : x ≡ number_of 1 (meaning 1 a)) (ey : y ≡ number_of 1 (meaning 1 b)) where
  pub code_right : (n : ℕ) → n ≢ 0 → le_z (to_z w64 (of_z w64 x)) (to_z w64 (of_z w64 y)) ≡ true → b ≡ code_of n ((arithmetic n).plus (meaning n a) (meaning n b))
  code_right zero some e = absurd (some refl)
  code_right (suc n) some e =
      let more = rw (to_z-of_z w64 x fx, to_z-of_z w64 y fy, ex, ey) at e in
      sym (code_of-meaning 1 b fb) ∙ ap (code_of 1) (sym (greater_right n (meaning 1 a) (meaning 1 b) (meaning_in_sheet a fa) more))

  pub code_left : (n : ℕ) → n ≢ 0 → le_z (to_z w64 (of_z w64 x)) (to_z w64 (of_z w64 y)) ≡ false → a ≡ code_of n ((arithmetic n).plus (meaning n a) (meaning n b))
  code_left zero some e = absurd (some refl)
  code_left (suc n) some e =
      let less = rw (to_z-of_z w64 x fx, to_z-of_z w64 y fy, ex, ey) at e in
      sym (code_of-meaning 1 a fa) ∙ ap (code_of 1) (sym (greater_left n (meaning 1 a) (meaning 1 b) (meaning_in_sheet b fb) less))
