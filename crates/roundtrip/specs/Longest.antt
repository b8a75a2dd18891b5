-- The greatest length of a table's written form, 65,415 bytes, is reached (document 01, "Bytes").
use Prim.Native.Nat.{ℕ, zero, suc, ◌+◌, ◌*◌, ◌/◌, ◌%◌, ◌≤◌, ◌<◌, ◌^◌}
use Rattle.std.specs.Prelude.{◌≡◌, refl, get_or, replicate, T}
use Rattle.std.proofs.Common.{ap, length-append, eq-eqb, ne_eqb, lt-ltb}
use mathlib.Core.List.{List, [], ◌∷◌}
use native.Mathlib.Omega.{arith}
use Rattle.std.proofs.Math.Decide.{dec_lt}
use Rattle.std.proofs.Math.ListN.{length, length-replicate}
use Rattle.std.proofs.lemmas.List.{get_or-replicate}
use Rattle.model.specs.Table.{Table, Transition, Each, Proper, ProperTransition, key, lower, Ascending}
use Rattle.numbers.specs.Written.{groups, written, written_all}
use Rattle.format.specs.Written.{transitions_numbers, bytes_of}
use Rattle.roundtrip.specs.Numbers.{written_one, two_bytes}
use Rattle.roundtrip.specs.Length.{length_table}

-- the greatest code, five bytes long
abbrev top : ℕ
top = 4294967295

top_length : length (written top) ≡ 5
unfolding groups
top_length = refl

-- transition i: four children and a target of 128 or more, of which the last two children tell i
abbrev row : ℕ → Transition
row i = record { symbol = 0; children = 128 ∷ 128 ∷ (128 + i / 128) ∷ (128 + i % 128) ∷ []; target = 128; code = top }

-- k of them, from i on, 16 bytes each, all proper and ascending
rows : ℕ → ℕ → List Transition
rows i zero = []
rows i (suc k) = row i ∷ rows (suc i) k

rows_many : (i k : ℕ) → length (rows i k) ≡ k
unfolding rows
rows_many i zero = refl
rows_many i (suc k) = ap suc (rows_many (suc i) k)

rows_length : (i k : ℕ) → i + k ≤ 16384 → length (written_all (transitions_numbers (rows i k))) ≡ 16 * k
unfolding rows
rows_length i zero h = omega arith
rows_length i (suc k) h =
    simp length-append
    (omega (
      arith,
      written_one 0 (omega arith),
      two_bytes 128 (omega arith) (omega arith),
      two_bytes (128 + i / 128) (omega arith) (omega arith),
      two_bytes (128 + i % 128) (omega arith) (omega arith),
      top_length,
      rows_length (suc i) k (omega arith),
    ))

module _ (ranks : List ℕ) (states : ℕ) (some : 0 < length ranks) (four : get_or ranks 0 0 ≡ 4) (all : 256 ≤ states) where
  row_proper : (i : ℕ) → i < 16384 → ProperTransition ranks states (row i)
  row_proper i h = record {
    symbol_known = some;
    children_many = omega (arith, four);
    children_known = (omega arith, (omega arith, (omega arith, (omega arith, tt))));
    target_known = omega arith;
    code_positive = omega arith;
    code_fits = omega arith;
  }

  rows_proper : (i k : ℕ) → i + k ≤ 16384 → Each (ProperTransition ranks states) (rows i k)
  unfolding rows
  rows_proper i zero h = tt
  rows_proper i (suc k) h = (row_proper i (omega arith), rows_proper (suc i) k (omega arith))

-- each is above the one before
row_above : (i : ℕ) → i < 16384 → T (lower (key (row i)) (key (row (suc i))))
row_above i h =
    elim (dec_lt 0 (suc i % 128)) [
      | yes l ↦
          simp (eq-eqb (128 + i / 128) (128 + suc i / 128) (omega arith), ne_eqb (128 + i % 128) (128 + suc i % 128) (omega arith), lt-ltb (128 + i % 128) (128 + suc i % 128) (omega arith)) tt
      | no l ↦ simp (ne_eqb (128 + i / 128) (128 + suc i / 128) (omega arith), lt-ltb (128 + i / 128) (128 + suc i / 128) (omega arith)) tt
    ]

rows_ascending : (i k : ℕ) (before : List ℕ) → i + k ≤ 16384 → T (lower before (key (row i))) → Ascending before (rows i k)
unfolding rows
rows_ascending i zero before h above = tt
rows_ascending i (suc k) before h above = (above, rows_ascending (suc i) k (key (row i)) (omega arith) (row_above i (omega arith)))

replicate_length : (n c width : ℕ) → length (written c) ≡ width → length (written_all (replicate n c)) ≡ width * n
replicate_length zero c width h = omega arith
replicate_length (suc n) c width h = omega (arith, length-append (written c) (written_all (replicate n c)), h, replicate_length n c width h)

each_replicate : (P : ℕ → Type 0) (n c : ℕ) → P c → Each P (replicate n c)
each_replicate P zero c h = tt
each_replicate P (suc n) c h = (h, each_replicate P n c h)

-- symbols of rank 4, the greatest final codes, k transitions
full : ℕ → ℕ → ℕ → Table
full symbols states k = record { arithmetic = 0; states = states; ranks = replicate symbols 4; finals = replicate states top; transitions = rows 0 k }

module _ (symbols states k : ℕ) (symbols-128 : symbols ≡ 128) (states-256 : states ≡ 256) (k-4000 : k ≡ 4000) where
  full_proper : Proper (full symbols states k)
  unfolding full
  full_proper =
      let many : length {A = ℕ} (replicate symbols 4) ≡ symbols = length-replicate symbols 4 in
      record {
        arithmetic_known = omega arith;
        states_some = omega arith;
        states_few = omega arith;
        symbols_some = omega arith;
        symbols_few = omega arith;
        ranks_small = each_replicate (λ c. c ≤ 4) symbols 4 (omega arith);
        finals_many = length-replicate states top;
        finals_fit = each_replicate (λ c. c < 2 ^ 32) states top (omega arith);
        transitions_few = omega (arith, rows_many 0 k);
        transitions_proper = rows_proper (replicate symbols 4) states (omega arith) (get_or-replicate symbols 0 4 0 (omega arith)) (omega arith) 0 k (omega arith);
        ascending = rows_ascending 0 k [] (omega arith) tt;
      }

  full_length : length (bytes_of (full symbols states k)) ≡ 65415
  unfolding full
  full_length =
      let many : length {A = ℕ} (replicate symbols 4) ≡ symbols = length-replicate symbols 4 in
      omega (
        arith,
        length_table (full symbols states k),
        written_one 0 (omega arith),
        two_bytes states (omega arith) (omega arith),
        two_bytes (length {A = ℕ} (replicate symbols 4)) (omega arith) (omega arith),
        replicate_length symbols 4 1 (written_one 4 (omega arith)),
        replicate_length states top 5 top_length,
        two_bytes (length (rows 0 k)) (omega (arith, rows_many 0 k)) (omega (arith, rows_many 0 k)),
        rows_length 0 k (omega arith),
      )

-- a proper table of the greatest length
pub longest : (X : Table) × Proper X × (length (bytes_of X) ≡ 65415)
longest = (full 128 256 4000, full_proper 128 256 4000 refl refl refl, full_length 128 256 4000 refl refl refl)
