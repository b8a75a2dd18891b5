-- Why no number stands at a place, told from the bytes alone: the table ends (1), the number is padded (2), or it is too large (19).
use Rattle.std.specs.Prelude.{ℕ, ◌+◌, ◌≤◌, ◌<◌, ◌≡◌, List, length, get_or}
use Rattle.answers.specs.declared.Refusal.{Refusal}
use Rattle.answers.specs.declared.Refusal.TheVariants.{TableEnds, PaddedNumber, LargeNumber}

-- so many bytes from the first on have the top bit set, so that one more is due
abbrev pub GoesOn : List ℕ → ℕ → ℕ → Type 0
GoesOn s first count = (i : ℕ) → i < count → 128 ≤ get_or s (first + i) 0

-- 1: the table ends where a byte of the number is due, its first to its fifth
pub record CutOff (s : List ℕ) (first : ℕ) : Type 0 where
  pub before : ℕ
  pub few : before ≤ 4
  pub goes_on : GoesOn s first before
  pub ends : length s ≤ first + before

-- 2: a last byte after the first, which is at most the fifth, is 0
pub record Padded (s : List ℕ) (first : ℕ) : Type 0 where
  pub before : ℕ
  pub some : 1 ≤ before
  pub few : before ≤ 4
  pub goes_on : GoesOn s first before
  pub inside : first + before < length s
  pub last : get_or s (first + before) 0 ≡ 0

-- 19: a fifth byte is 16 or more
pub record TooLarge (s : List ℕ) (first : ℕ) : Type 0 where
  pub goes_on : GoesOn s first 4
  pub fifth : 16 ≤ get_or s (first + 4) 0

-- the refusal for what is met
pub data Cause (s : List ℕ) (first : ℕ) (refusal : Refusal) : Type 0 where
  ended : refusal ≡ TableEnds (length s) → CutOff s first → Cause s first refusal
  padded : refusal ≡ PaddedNumber first → Padded s first → Cause s first refusal
  large : refusal ≡ LargeNumber first → TooLarge s first → Cause s first refusal
