-- No refusal's figure is above 65,416, and no answer depends on a byte behind the first 65,416.
use Prim.Native.Nat.{ℕ, ◌≤◌, ◌<◌, ◌^◌}
use Rattle.std.specs.Prelude.{◌≡◌, take}
use Rattle.std.proofs.Common.{ap, arith, take_all}
use mathlib.Core.List.{List}
use Rattle.std.proofs.Math.Decide.{dec_lt}
use Rattle.std.proofs.Math.ListN.{length, get_or}
use Rattle.answers.specs.declared.Refusal.{Refusal}
use Rattle.answers.specs.Numbers.{refusal_figure}
use Rattle.format.specs.Read.{refused, table_read}
use Rattle.roundtrip.specs.Reach.{early_table}

-- A refused table's figure is at most 65,416.
pub table_figure : (s : List ℕ) → ((i : ℕ) → get_or s i 0 < 256) → (refusal : Refusal) → table_read s ≡ refused refusal → refusal_figure refusal ≤ 65416
table_figure s small refusal e = (early_table s small 65416 (omega arith)).figure refusal e

-- It fits in 32 bits.
pub figure_fits : (s : List ℕ) → ((i : ℕ) → get_or s i 0 < 256) → (refusal : Refusal) → table_read s ≡ refused refusal → refusal_figure refusal < 2 ^ 32
figure_fits s small refusal e = omega (arith, table_figure s small refusal e)

-- No answer depends on a byte behind the first 65,416.
pub later_bytes : (s : List ℕ) → ((i : ℕ) → get_or s i 0 < 256) → table_read (take 65416 s) ≡ table_read s
later_bytes s small =
    elim (dec_lt (length s) 65416) [
      | yes h ↦ ap table_read (take_all 65416 s (omega arith))
      | no h ↦ (early_table s small 65416 (omega arith)).same (omega arith)
    ]
