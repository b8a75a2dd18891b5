-- Each code of document 01's table "Numbers that come back" is from 1 to 99.
use Rattle.std.specs.Prelude.{◌<◌, Bool, ◌&&◌, T, ltb}
use Rattle.std.proofs.Common.{ltb→lt}
use Rattle.std.proofs.Math.Facts.{and_yes}
use Rattle.answers.specs.declared.Refusal.{Refusal}
use Rattle.answers.specs.Numbers.{is_code, line_of, code_of}

-- each line's code is one
pub in_range : (refusal : Refusal) → T (is_code (line_of refusal).code)
in_range (Refusal.TableEnds at) = tt
in_range (Refusal.PaddedNumber at) = tt
in_range (Refusal.OutOfRange at) = tt
in_range (Refusal.NotInTable at) = tt
in_range (Refusal.ZeroCode at) = tt
in_range (Refusal.NotAbove at) = tt
in_range (Refusal.TableGoesOn at) = tt
in_range (Refusal.TreeEnds at) = tt
in_range (Refusal.UnknownSymbol at) = tt
in_range (Refusal.TreeGoesOn at) = tt
in_range Refusal.TreeTooLong = tt
in_range (Refusal.RoomTooShort needed) = tt
in_range Refusal.NoDirection = tt
in_range (Refusal.LargeNumber at) = tt

both : (a b : Bool) → T (a && b) → T a × T b
both a b h = and_yes a b h

-- no refusal has the code 0
pub code_some : (refusal : Refusal) → 0 < code_of refusal
code_some refusal = ltb→lt 0 (code_of refusal) (both (ltb 0 (code_of refusal)) (ltb (code_of refusal) 100) (in_range refusal)).0

-- nor one that a second table's may have
pub code_small : (refusal : Refusal) → code_of refusal < 100
code_small refusal = ltb→lt (code_of refusal) 100 (both (ltb 0 (code_of refusal)) (ltb (code_of refusal) 100) (in_range refusal)).1
