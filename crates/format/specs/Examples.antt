-- Document 01's table A, as bytes, and its "Run only" examples that are refused, as readings. With each number that a table is refused with
-- there is one.
use Rattle.std.specs.Prelude.{ℕ, ◌≡◌, refl, List, [], ◌∷◌, ◌++◌}
use Rattle.answers.specs.declared.Refusal.TheVariants.{TableEnds, PaddedNumber, OutOfRange, NotInTable, ZeroCode, NotAbove, TableGoesOn, LargeNumber}
use Rattle.numbers.specs.Read.{number_at, more_from}
use Rattle.format.specs.Read.{found, refused, many, transition_at, transitions_at, table_read}

abbrev pub bytes_a : List ℕ
bytes_a = 0 ∷ 3 ∷ 2 ∷ 0 ∷ 1 ∷ 0 ∷ 0 ∷ 1 ∷ 4 ∷ 0 ∷ 0 ∷ 3 ∷ 0 ∷ 1 ∷ 3 ∷ 1 ∷ 0 ∷ 2 ∷ 5 ∷ 1 ∷ 1 ∷ 2 ∷ 7 ∷ []

-- 5 comes before 6: the second transition is not above the first, and its code is 0
pub five_before_six : table_read (0 ∷ 1 ∷ 1 ∷ 0 ∷ 0 ∷ 2 ∷ 0 ∷ 0 ∷ 1 ∷ 0 ∷ 0 ∷ 0 ∷ []) ≡ refused (ZeroCode 11)
unfolding table_read many transitions_at transition_at number_at more_from
five_before_six = refl

-- document 01's refused examples: no bytes; A with 03 at byte 17, 00 at 18, 00 at 13; one byte more
pub no_bytes : table_read [] ≡ refused (TableEnds 0)
unfolding table_read number_at
no_bytes = refl

pub unknown_state : table_read (0 ∷ 3 ∷ 2 ∷ 0 ∷ 1 ∷ 0 ∷ 0 ∷ 1 ∷ 4 ∷ 0 ∷ 0 ∷ 3 ∷ 0 ∷ 1 ∷ 3 ∷ 1 ∷ 0 ∷ 3 ∷ 5 ∷ 1 ∷ 1 ∷ 2 ∷ 7 ∷ []) ≡ refused (NotInTable 17)
unfolding table_read many transitions_at transition_at number_at more_from
unknown_state = refl

pub zero_code : table_read (0 ∷ 3 ∷ 2 ∷ 0 ∷ 1 ∷ 0 ∷ 0 ∷ 1 ∷ 4 ∷ 0 ∷ 0 ∷ 3 ∷ 0 ∷ 1 ∷ 3 ∷ 1 ∷ 0 ∷ 2 ∷ 0 ∷ 1 ∷ 1 ∷ 2 ∷ 7 ∷ []) ≡ refused (ZeroCode 18)
unfolding table_read many transitions_at transition_at number_at more_from
zero_code = refl

pub not_above : table_read (0 ∷ 3 ∷ 2 ∷ 0 ∷ 1 ∷ 0 ∷ 0 ∷ 1 ∷ 4 ∷ 0 ∷ 0 ∷ 3 ∷ 0 ∷ 0 ∷ 3 ∷ 1 ∷ 0 ∷ 2 ∷ 5 ∷ 1 ∷ 1 ∷ 2 ∷ 7 ∷ []) ≡ refused (NotAbove 12)
unfolding table_read many transitions_at transition_at number_at more_from
not_above = refl

pub one_byte_more : table_read (bytes_a ++ 0 ∷ []) ≡ refused (TableGoesOn 23)
unfolding table_read many transitions_at transition_at number_at more_from
one_byte_more = refl

pub no_arithmetic : table_read (2 ∷ []) ≡ refused (OutOfRange 0)
unfolding table_read number_at
no_arithmetic = refl

-- one state whose final code is `FF FF FF FF 0F`, the greatest; `FF FF FF FF 10`; one whose fifth byte says that a sixth follows, which is
-- not read; four bytes of one, behind which the table ends; and 1, padded (document 02, M-104)
pub greatest_final : table_read (0 ∷ 1 ∷ 1 ∷ 0 ∷ 255 ∷ 255 ∷ 255 ∷ 255 ∷ 15 ∷ 0 ∷ [])
    ≡ found (record { arithmetic = 0; states = 1; ranks = 0 ∷ []; finals = 4294967295 ∷ []; transitions = [] }) 10
unfolding table_read many transitions_at number_at more_from
greatest_final = refl

pub large_final : table_read (0 ∷ 1 ∷ 1 ∷ 0 ∷ 255 ∷ 255 ∷ 255 ∷ 255 ∷ 16 ∷ 0 ∷ []) ≡ refused (LargeNumber 4)
unfolding table_read many number_at more_from
large_final = refl

pub no_sixth_byte : table_read (0 ∷ 1 ∷ 1 ∷ 0 ∷ 255 ∷ 255 ∷ 255 ∷ 255 ∷ 128 ∷ []) ≡ refused (LargeNumber 4)
unfolding table_read many number_at more_from
no_sixth_byte = refl

pub fifth_byte_due : table_read (0 ∷ 1 ∷ 1 ∷ 0 ∷ 255 ∷ 255 ∷ 255 ∷ 255 ∷ []) ≡ refused (TableEnds 8)
unfolding table_read many number_at more_from
fifth_byte_due = refl

pub padded_final : table_read (0 ∷ 1 ∷ 1 ∷ 0 ∷ 129 ∷ 0 ∷ 0 ∷ []) ≡ refused (PaddedNumber 4)
unfolding table_read many number_at more_from
padded_final = refl
