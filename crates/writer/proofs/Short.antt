-- The written form of a number, from its lowest group on.
use Prim.Native.Nat.{ℕ, zero, suc, ◌+◌, ◌*◌, ◌/◌, ◌%◌, ◌≤◌, ◌<◌, ◌^◌}
use mathlib.Core.Path.{◌≡◌, sym, ap, ◌∙◌}
use mathlib.Core.List.{List, [], ◌∷◌}
use native.Mathlib.Omega.{arith}
use native.Mathlib.Decide.{dec_lt}
use lib.ListN.{length}
use Rattle.numbers.specs.Written.{groups, written}
use Rattle.roundtrip.specs.Numbers.{groups_last, groups_more, two_bytes}

-- what g more groups can hold
abbrev bound : ℕ → ℕ
bound zero = 128
bound (suc g) = 128 * bound g

groups_enough : (g n : ℕ) → n < bound g → groups (suc g) n ≡ groups g n
groups_enough zero n h = groups_last 1 n h ∙ sym (groups_last 0 n h)
groups_enough (suc g) n h = go (dec_lt n 128) (λ k. groups_enough g (n / 128) k)
  where
    go : Dec (n < 128) → (n / 128 < bound g → groups (suc g) (n / 128) ≡ groups g (n / 128)) → groups (suc (suc g)) n ≡ groups (suc g) n
    go (yes k) f = groups_last (suc (suc g)) n k ∙ sym (groups_last (suc g) n k)
    go (no k) f = groups_more (suc g) n (omega arith) ∙ ap (λ (l : List ℕ). (128 + n % 128) ∷ l) (f (omega arith)) ∙ sym (groups_more g n (omega arith))

pub written_short : (n : ℕ) → n < 128 → written n ≡ n ∷ []
written_short n h = groups_last 4 n h

pub written_long : (n : ℕ) → 128 ≤ n → n < 2 ^ 32 → written n ≡ (128 + n % 128) ∷ written (n / 128)
written_long n h k = groups_more 3 n h ∙ ap (λ (l : List ℕ). (128 + n % 128) ∷ l) (sym (groups_enough 3 (n / 128) (omega arith)))

-- How many bytes a number has: one for every seven bits that are needed.

one_more : (n : ℕ) → 128 ≤ n → n < 2 ^ 32 → length (written n) ≡ length (written (n / 128)) + 1
one_more n h k = rw (written_long n h k) (omega arith)

pub three_bytes : (n : ℕ) → 16384 ≤ n → n < 2097152 → length (written n) ≡ 3
three_bytes n h k = omega (arith, one_more n (omega arith) (omega arith), two_bytes (n / 128) (omega arith) (omega arith))

pub four_bytes : (n : ℕ) → 2097152 ≤ n → n < 268435456 → length (written n) ≡ 4
four_bytes n h k = omega (arith, one_more n (omega arith) (omega arith), three_bytes (n / 128) (omega arith) (omega arith))

pub five_bytes : (n : ℕ) → 268435456 ≤ n → n < 2 ^ 32 → length (written n) ≡ 5
five_bytes n h k = omega (arith, one_more n (omega arith) k, four_bytes (n / 128) (omega arith) (omega arith))
