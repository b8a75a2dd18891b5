-- What stands at a place of a table: a number, or why there is none (document 01, "Bytes", codes 1 and 2; document 02, M-104, code 19).
use Prim.Native.Nat.{ℕ, zero, suc, ◌+◌, ◌*◌, ◌-◌, ◌≤◌, ◌<◌}
use Rattle.std.specs.Prelude.{Result, Ok, Err, cond, List, length, get_or, leb, ltb, eqb, ◌≡◌}
use borrow.Author.Tests.{le-leb, lt-leb, lt-ltb, le-ltb, eq-eqb, ne_eqb}
use native.Mathlib.Omega.{arith}
use Rattle.answers.specs.declared.Refusal.{Refusal}
use Rattle.answers.specs.declared.Refusal.TheVariants.{TableEnds, PaddedNumber, LargeNumber}
use Rattle.numbers.specs.declared.Cursor.{Cursor}

-- what stands at a place: a number with the next place, or the refusal
abbrev pub NumberRead : Type 0
NumberRead = Result (ℕ × Cursor) Refusal

abbrev pub number : ℕ → ℕ → NumberRead
number n next = Ok (n, record { at = next })

-- a number whose lowest group is `low` and whose others were read
abbrev pub with_lowest : ℕ → NumberRead → NumberRead
with_lowest low (Ok (n, next)) = Ok (low + 128 * n, next)
with_lowest low (Err refusal) = Err refusal

-- the bytes after the first: g more than this one may follow; the fifth byte is below 16, the last is not 0
unfoldable pub more_from : ℕ → List ℕ → ℕ → ℕ → NumberRead
more_from zero s first at =
    cond (leb (length s) at) (Err (TableEnds (length s)))
    (cond (eqb (get_or s at 0) 0) (Err (PaddedNumber first))
    (cond (leb 16 (get_or s at 0)) (Err (LargeNumber first))
    (number (get_or s at 0) (at + 1))))
more_from (suc g) s first at =
    cond (leb (length s) at) (Err (TableEnds (length s)))
    (cond (eqb (get_or s at 0) 0) (Err (PaddedNumber first))
    (cond (ltb (get_or s at 0) 128) (number (get_or s at 0) (at + 1))
    (with_lowest (get_or s at 0 - 128) (more_from g s first (at + 1)))))

-- the number at a place of a table, with the next place
unfoldable pub number_at : List ℕ → ℕ → NumberRead
number_at s at =
    cond (leb (length s) at) (Err (TableEnds (length s)))
    (cond (ltb (get_or s at 0) 128) (number (get_or s at 0) (at + 1))
    (with_lowest (get_or s at 0 - 128) (more_from 3 s at (at + 1))))

-- The laws of the definition, case by case. `byte` is what stands at the place, `next` is the place behind it.

pub more_ends : (g : ℕ) (s : List ℕ) (first at : ℕ) → length s ≤ at → more_from g s first at ≡ Err (TableEnds (length s))
unfolding more_from
more_ends zero s first at h = simp (le-leb (length s) at h)
more_ends (suc g) s first at h = simp (le-leb (length s) at h)

pub number_ends : (s : List ℕ) (at : ℕ) → length s ≤ at → number_at s at ≡ Err (TableEnds (length s))
unfolding number_at
number_ends s at h = simp (le-leb (length s) at h)

module _ (s : List ℕ) (first at next byte : ℕ) (inside : at < length s) (stands : byte ≡ get_or s at 0) (behind : next ≡ at + 1) where
  pub more_padded : (g : ℕ) → byte ≡ 0 → more_from g s first at ≡ Err (PaddedNumber first)
  unfolding more_from
  more_padded zero h = simp (lt-leb (length s) at inside, ← stands, eq-eqb byte 0 h)
  more_padded (suc g) h = simp (lt-leb (length s) at inside, ← stands, eq-eqb byte 0 h)

  pub more_last : (g : ℕ) → (byte ≡ 0 → ⊥) → byte < 128 → more_from (suc g) s first at ≡ number byte next
  unfolding more_from
  more_last g h k = simp (lt-leb (length s) at inside, ← stands, ne_eqb byte 0 h, lt-ltb byte 128 k, behind)

  pub more_more : (g : ℕ) → 128 ≤ byte → more_from (suc g) s first at ≡ with_lowest (byte - 128) (more_from g s first next)
  unfolding more_from
  more_more g k = let h : byte ≡ 0 → ⊥ = λ e. omega arith in simp (lt-leb (length s) at inside, ← stands, ne_eqb byte 0 h, le-ltb byte 128 k, behind)

  pub fifth_large : 16 ≤ byte → more_from 0 s first at ≡ Err (LargeNumber first)
  unfolding more_from
  fifth_large k = let h : byte ≡ 0 → ⊥ = λ e. omega arith in simp (lt-leb (length s) at inside, ← stands, ne_eqb byte 0 h, le-leb 16 byte k)

  pub fifth_last : (byte ≡ 0 → ⊥) → byte < 16 → more_from 0 s first at ≡ number byte next
  unfolding more_from
  fifth_last h k = simp (lt-leb (length s) at inside, ← stands, ne_eqb byte 0 h, lt-leb 16 byte k, behind)

  pub number_short : byte < 128 → number_at s at ≡ number byte next
  unfolding number_at
  number_short k = simp (lt-leb (length s) at inside, ← stands, lt-ltb byte 128 k, behind)

  pub number_long : 128 ≤ byte → number_at s at ≡ with_lowest (byte - 128) (more_from 3 s at next)
  unfolding number_at
  number_long k = simp (lt-leb (length s) at inside, ← stands, le-ltb byte 128 k, behind)
