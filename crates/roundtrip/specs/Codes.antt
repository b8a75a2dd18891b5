-- With which numbers a table is refused: 1 to 7 and 19, each of them, and no other; 2 only where a number is padded, 19 only where one is
-- too large (document 01, "Numbers that come back"; document 02, M-104).
use Prim.Native.Nat.{ℕ, zero, suc}
use Rattle.std.specs.Prelude.{◌≡◌, refl, Bool, true, false, ◌&&◌, length, get_or, leb, ltb, Ok, Err}
use Rattle.std.proofs.Common.{sym, subst, arith}
use mathlib.Core.List.{List, [], ◌∷◌, Memᴰ}
use Rattle.answers.specs.declared.Refusal.{Refusal}
use Rattle.answers.specs.declared.Refusal.TheVariants.{TableEnds, PaddedNumber, OutOfRange, NotInTable, ZeroCode, NotAbove, TableGoesOn, LargeNumber}
use Rattle.answers.specs.Numbers.{code_of, refusal_figure}
use Rattle.numbers.specs.Read.{NumberRead, number_at}
use Rattle.numbers.specs.Causes.{Padded, TooLarge, Cause}
use Rattle.numbers.proofs.Causes.{number_cause}
use Rattle.model.specs.Table.{Each, key, lower}
use Rattle.model.proofs.Each.{member_at}
use Rattle.format.specs.Read.{Found, found, refused, after, provided, as_found, any, within, one_of, listed, many, transition_at, transitions_at, table_read}
use Rattle.format.specs.Examples.{no_bytes, padded_final, no_arithmetic, unknown_state, zero_code, not_above, one_byte_more, large_final}

-- if there is a refusal, then this holds of it
abbrev Told : (Refusal → Type 0) → {A : Type 0} → Found A → Type 0
Told P (found a next) = Unit {0}
Told P (refused refusal) = P refusal

module _ (P : Refusal → Type 0) where
  after_told : {A B : Type 0} (x : Found A) (f : A → ℕ → Found B) → Told P x → ((a : A) (next : ℕ) → Told P (f a next)) → Told P (after x f)
  after_told (found a next) f h k = k a next
  after_told (refused refusal) f h k = h

  provided_told : {A : Type 0} (b : Bool) (refusal : Refusal) (x : Found A) → P refusal → Told P x → Told P (provided b refusal x)
  provided_told true refusal x h k = k
  provided_told false refusal x h k = h

  number_told : (x : NumberRead) → ((refusal : Refusal) → x ≡ Err refusal → P refusal) → Told P (as_found x)
  number_told (Ok (n, next)) h = tt
  number_told (Err refusal) h = h refusal refl

  many_told : (item : ℕ → Found ℕ) → ((at : ℕ) → Told P (item at)) → (k at : ℕ) → Told P (many item k at)
  unfolding many
  many_told item h zero at = tt
  many_told item h (suc k) at = after_told (item at) _ (h at) (λ n next. after_told (many item k next) _ (many_told item h k next) (λ ns end. tt))

-- this holds of each refusal that a step of the reading can give
record Steps (s : List ℕ) (P : Refusal → Type 0) : Type 0 where
  ends : P (TableEnds (length s))
  padded : (at : ℕ) → Padded s at → P (PaddedNumber at)
  large : (at : ℕ) → TooLarge s at → P (LargeNumber at)
  outside : (at : ℕ) → P (OutOfRange at)
  unknown : (at : ℕ) → P (NotInTable at)
  zero_code : (at : ℕ) → P (ZeroCode at)
  not_above : (at : ℕ) → P (NotAbove at)
  goes_on : (at : ℕ) → P (TableGoesOn at)

module _ (s : List ℕ) (P : Refusal → Type 0) (steps : Steps s P) where
  broken_told : (at : ℕ) (refusal : Refusal) → Cause s at refusal → P refusal
  broken_told at refusal (Cause.ended e c) = subst P (sym e) steps.ends
  broken_told at refusal (Cause.padded e c) = subst P (sym e) (steps.padded at c)
  broken_told at refusal (Cause.large e c) = subst P (sym e) (steps.large at c)

  any_told : (at : ℕ) → Told P (any s at)
  any_told at = number_told P (number_at s at) (λ refusal e. broken_told at refusal (number_cause s at refusal e))

  tested_told : (test : ℕ → Bool) (refusal : Refusal) (at : ℕ) → P refusal → Told P (after (any s at) (λ n next. provided (test n) refusal (found n next)))
  tested_told test refusal at h = after_told P (any s at) _ (any_told at) (λ n next. provided_told P (test n) refusal _ h tt)

  within_told : (low high at : ℕ) → Told P (within s low high at)
  within_told low high at = tested_told (λ n. leb low n && leb n high) (OutOfRange at) at (steps.outside at)

  one_of_told : (limit at : ℕ) → Told P (one_of s limit at)
  one_of_told limit at = tested_told (λ n. ltb n limit) (NotInTable at) at (steps.unknown at)

  listed_told : (at : ℕ) → Told P (listed s at)
  listed_told at = tested_told (λ n. ltb 0 n) (ZeroCode at) at (steps.zero_code at)

  module _ (ranks : List ℕ) (states : ℕ) where
    transition_told : (at : ℕ) → Told P (transition_at s ranks states at)
    unfolding transition_at
    transition_told at =
        after_told P (one_of s (length ranks) at) _ (one_of_told (length ranks) at) (λ symbol at₁.
        after_told P (many (one_of s states) (get_or ranks symbol 0) at₁) _ (many_told P (one_of s states) (one_of_told states) (get_or ranks symbol 0) at₁) (λ children at₂.
        after_told P (one_of s states at₂) _ (one_of_told states at₂) (λ target at₃.
        after_told P (listed s at₃) _ (listed_told at₃) (λ code next. tt))))

    transitions_told : (k : ℕ) (before : List ℕ) (at : ℕ) → Told P (transitions_at s ranks states k before at)
    unfolding transitions_at
    transitions_told zero before at = tt
    transitions_told (suc k) before at =
        after_told P (transition_at s ranks states at) _ (transition_told at) (λ t next.
        provided_told P (lower before (key t)) (NotAbove at) _ (steps.not_above at)
        (after_told P (transitions_at s ranks states k (key t) next) _ (transitions_told k (key t) next) (λ ts end. tt)))

  table_told : Told P (table_read s)
  unfolding table_read
  table_told =
      after_told P (within s 0 1 0) _ (within_told 0 1 0) (λ arithmetic at₁.
      after_told P (within s 1 256 at₁) _ (within_told 1 256 at₁) (λ states at₂.
      after_told P (within s 1 128 at₂) _ (within_told 1 128 at₂) (λ symbols at₃.
      after_told P (many (within s 0 4) symbols at₃) _ (many_told P (within s 0 4) (within_told 0 4) symbols at₃) (λ ranks at₄.
      after_told P (many (any s) states at₄) _ (many_told P (any s) any_told states at₄) (λ finals at₅.
      after_told P (within s 0 4000 at₅) _ (within_told 0 4000 at₅) (λ transitions at₆.
      after_told P (transitions_at s ranks states transitions [] at₆) _ (transitions_told ranks states transitions [] at₆) (λ ts end.
      provided_told P (leb (length s) end) (TableGoesOn end) _ (steps.goes_on end) tt)))))))

  -- what holds of each refusal of a step holds of the table's refusal
  table_refused : (refusal : Refusal) → table_read s ≡ refused refusal → P refusal
  table_refused refusal e = subst (Told P) e table_told

-- the numbers with which a table is refused
abbrev pub table_codes : List ℕ
table_codes = 1 ∷ 2 ∷ 3 ∷ 4 ∷ 5 ∷ 6 ∷ 7 ∷ 19 ∷ []

-- A table is refused with one of them, and with no other number.
pub table-codes : (s : List ℕ) (refusal : Refusal) → table_read s ≡ refused refusal → Memᴰ (code_of refusal) table_codes
table-codes s = table_refused s (λ refusal. Memᴰ (code_of refusal) table_codes) (record {
  ends = member_at table_codes 0 0 (omega arith);
  padded = λ at c. member_at table_codes 1 0 (omega arith);
  large = λ at c. member_at table_codes 7 0 (omega arith);
  outside = λ at. member_at table_codes 2 0 (omega arith);
  unknown = λ at. member_at table_codes 3 0 (omega arith);
  zero_code = λ at. member_at table_codes 4 0 (omega arith);
  not_above = λ at. member_at table_codes 5 0 (omega arith);
  goes_on = λ at. member_at table_codes 6 0 (omega arith);
})

-- some bytes are refused with this number
pub record Occurs (code : ℕ) : Type 0 where
  pub bytes : List ℕ
  pub refusal : Refusal
  pub refuses : table_read bytes ≡ refused refusal
  pub code_is : code_of refusal ≡ code

by : (bytes : List ℕ) {refusal : Refusal} → table_read bytes ≡ refused refusal → Occurs (code_of refusal)
by bytes {refusal} e = record { bytes = bytes; refusal = refusal; refuses = e; code_is = refl }

-- Each of them occurs.
pub codes_occur : Each Occurs table_codes
codes_occur =
    let one = by _ no_bytes in
    let two = by _ padded_final in
    let three = by _ no_arithmetic in
    let four = by _ unknown_state in
    let five = by _ zero_code in
    let six = by _ not_above in
    let seven = by _ one_byte_more in
    let nineteen = by _ large_final in
    (one, (two, (three, (four, (five, (six, (seven, (nineteen, tt))))))))

-- 2 says that the number at the figure is padded, 19 that it is too large.
pub record Means (s : List ℕ) (refusal : Refusal) : Type 0 where
  pub two : code_of refusal ≡ 2 → Padded s (refusal_figure refusal)
  pub nineteen : code_of refusal ≡ 19 → TooLarge s (refusal_figure refusal)

-- what has another code says neither
neither : (s : List ℕ) (refusal : Refusal) → (code_of refusal ≡ 2 → ⊥) → (code_of refusal ≡ 19 → ⊥) → Means s refusal
neither s refusal h k = record { two = λ e. absurd (h e); nineteen = λ e. absurd (k e) }

pub table_means : (s : List ℕ) (refusal : Refusal) → table_read s ≡ refused refusal → Means s refusal
table_means s = table_refused s (Means s) (record {
  ends = neither s _ (λ e. omega arith) (λ e. omega arith);
  padded = λ at c. record { two = λ e. c; nineteen = λ e. absurd (omega arith) };
  large = λ at c. record { two = λ e. absurd (omega arith); nineteen = λ e. c };
  outside = λ at. neither s _ (λ e. omega arith) (λ e. omega arith);
  unknown = λ at. neither s _ (λ e. omega arith) (λ e. omega arith);
  zero_code = λ at. neither s _ (λ e. omega arith) (λ e. omega arith);
  not_above = λ at. neither s _ (λ e. omega arith) (λ e. omega arith);
  goes_on = λ at. neither s _ (λ e. omega arith) (λ e. omega arith);
})
