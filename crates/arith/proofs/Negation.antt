-- The negation of a number below half a width's range, as the machine computes it.
use Rattle.std.proofs.Common.{◌≡◌, ℕ, zero, suc, ◌^◌, ◌<◌, ◌≤◌, pos, ◌-ℤ◌, neg_ℤ, ◌∙◌, arith, SFits, to_z, of_z}
use lib.IntN.{+ℤ_idl}
use lib.Signed.{mag}
use mir.Syntax.{Width}
use mir.Val.{hbits}
use mir.ValLaws.{to_z_pos, to_z-of_z}

mag_negation : (h : ℕ) → mag (neg_ℤ (pos h)) ≤ h
mag_negation zero = omega arith
mag_negation (suc h) = omega arith

module _ (w : Width) (h : ℕ) (below_half : h < 2 ^ hbits w) where
  difference_negation : pos 0 -ℤ to_z w h ≡ neg_ℤ (pos h)
  difference_negation = rw (to_z_pos w h below_half) (+ℤ_idl (neg_ℤ (pos h)))

  pub negation_fits : SFits w (pos 0 -ℤ to_z w h)
  negation_fits = rw difference_negation record { sfits = omega (arith, mag_negation h) }

  pub negation_is : to_z w (of_z w (pos 0 -ℤ to_z w h)) ≡ neg_ℤ (pos h)
  negation_is = to_z-of_z w (pos 0 -ℤ to_z w h) negation_fits ∙ difference_negation
