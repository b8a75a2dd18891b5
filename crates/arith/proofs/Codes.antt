-- The number that stands in a sheet for what a code means.
use Rattle.std.proofs.Common.{◌≡◌, ℕ, ◌^◌, ◌<◌, pos, sym, ap, ◌∙◌, mod-eq_of_lt, arith, w64, to_z}
use mir.ValLaws.{to_z_pos}
use Rattle.theory.specs.MaxPlus.{Value}
use Rattle.theory.specs.Arithmetic.{meaning, sheet_number}
use Rattle.arith.specs.Numbers.{number_of}

pub number_modular : (code : ℕ) → code < 2 ^ 32 → to_z w64 code ≡ number_of 0 (meaning 0 code)
number_modular code fits = to_z_pos w64 code (omega arith) ∙ ap pos (sym (mod-eq_of_lt fits))

pub number_meant : (code : ℕ) (v : Value) → v ≡ meaning 1 code → sheet_number v ≡ number_of 1 (meaning 1 code)
number_meant code v e = ap sheet_number e
