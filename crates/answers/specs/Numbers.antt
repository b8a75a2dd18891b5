-- Document 01's table "Numbers that come back", with what document 02 adds to it: the code and the figure of each refusal, and of each
-- answer.
use Rattle.std.specs.Prelude.{ℕ, ◌+◌, ◌*◌, ◌^◌, Bool, ◌&&◌, ltb, Result, Ok, Err, List, ◌++◌, codes, decimal}
use Rattle.answers.specs.declared.Refusal.{Refusal}

-- a code is from 1 to 99: 0 is "done", and a second table's codes come back with 100 added
abbrev pub is_code : ℕ → Bool
is_code code = ltb 0 code && ltb code 100

-- a line of the table: its columns "Code" and "Figure"
pub record Line : Type 0 where
  pub code : ℕ
  pub figure : ℕ

abbrev pub line : (code figure : ℕ) → Line
line code figure = record { code = code; figure = figure }

-- the table, line by line; a figure is a place, the room needed, or the number that the table gives
abbrev pub line_of : Refusal → Line
line_of (Refusal.TableEnds at) = line 1 at
line_of (Refusal.PaddedNumber at) = line 2 at
line_of (Refusal.OutOfRange at) = line 3 at
line_of (Refusal.NotInTable at) = line 4 at
line_of (Refusal.ZeroCode at) = line 5 at
line_of (Refusal.NotAbove at) = line 6 at
line_of (Refusal.TableGoesOn at) = line 7 at
line_of (Refusal.TreeEnds at) = line 8 at
line_of (Refusal.UnknownSymbol at) = line 9 at
line_of (Refusal.TreeGoesOn at) = line 10 at
line_of Refusal.TreeTooLong = line 11 4096
line_of (Refusal.RoomTooShort needed) = line 12 needed
line_of Refusal.NoDirection = line 13 0
line_of (Refusal.LargeNumber at) = line 19 at

abbrev pub code_of : Refusal → ℕ
code_of refusal = (line_of refusal).code

abbrev pub refusal_figure : Refusal → ℕ
refusal_figure refusal = (line_of refusal).figure

-- both in decimal digits, as `4 at 17`
abbrev pub refusal_text : Refusal → List ℕ
refusal_text refusal = decimal (code_of refusal) ++ codes " at " ++ decimal (refusal_figure refusal)

abbrev pub answer_code : Result ℕ Refusal → ℕ
answer_code (Ok figure) = 0
answer_code (Err refusal) = code_of refusal

abbrev pub answer_figure : Result ℕ Refusal → ℕ
answer_figure (Ok figure) = figure
answer_figure (Err refusal) = refusal_figure refusal

-- code times 2^32 plus figure
abbrev pub packed : Result ℕ Refusal → ℕ
packed answer = answer_code answer * 2 ^ 32 + answer_figure answer
