-- A number's reading and its written form (document 01, "Bytes"): what is read is what is written there, and what is written is read.
use Rattle.std.specs.Prelude.{ℕ, zero, suc, ◌+◌, ◌*◌, ◌-◌, ◌/◌, ◌%◌, ◌≤◌, ◌<◌, ◌^◌, ◌≡◌, refl, List, [], ◌∷◌, ◌++◌, length, get_or, drop, Ok, Err}
use Rattle.std.proofs.Common.{sym, ap, ap₂, ◌∙◌, arith, add-one, length-drop, drop-cons, drop-drop, drop_at, lt-ltb, le-ltb}
use Rattle.std.proofs.Math.Nat.{one-le-pow}
use Rattle.std.proofs.Math.Decide.{dec_lt}
use Rattle.answers.specs.declared.Refusal.{Refusal}
use Rattle.model.specs.Table.{Each}
use Rattle.numbers.specs.declared.Cursor.{Cursor}
use Rattle.numbers.specs.Written.{groups, written}
use Rattle.numbers.specs.Read.{NumberRead, number, with_lowest, more_from, number_at, more_ends, number_ends, more_padded, more_last, more_more, fifth_large, fifth_last, number_short, number_long}

groups_zero : (n : ℕ) → groups 0 n ≡ n ∷ []
unfolding groups
groups_zero n = refl

-- a number below 128 is its own last group
pub groups_last : (g n : ℕ) → n < 128 → groups g n ≡ n ∷ []
unfolding groups
groups_last zero n h = groups_zero n
groups_last (suc g) n h = simp (groups, lt-ltb n 128 h)

-- a greater one is its lowest seven bits, marked, and the groups of the rest
pub groups_more : (g n : ℕ) → 128 ≤ n → groups (suc g) n ≡ (128 + n % 128) ∷ groups g (n / 128)
unfolding groups
groups_more g n h = simp (groups, le-ltb n 128 h)

-- these bytes stand in s from `at` up to `p`
pub record Stands (s : List ℕ) (at : ℕ) (bytes : List ℕ) (p : ℕ) : Type 0 where
  pub there : drop at s ≡ bytes ++ drop p s
  pub behind : p ≡ at + length bytes
  pub inside : p ≤ length s

-- one byte, and those behind it
stands_cons : (s : List ℕ) (at byte : ℕ) (bytes : List ℕ) (p : ℕ) → at < length s → byte ≡ get_or s at 0 → Stands s (at + 1) bytes p
    → Stands s at (byte ∷ bytes) p
stands_cons s at byte bytes p h e r = record {
  there = drop-cons s at 0 h ∙ simp (← add-one at, r.there, e);
  behind = omega (arith, r.behind);
  inside = r.inside;
}

stands_one : (s : List ℕ) (at byte : ℕ) → at < length s → byte ≡ get_or s at 0 → Stands s at (byte ∷ []) (at + 1)
stands_one s at byte h e = stands_cons s at byte [] (at + 1) h e (record { there = refl; behind = omega arith; inside = omega arith })

-- what a number with a lowest group was read from
below_number : (low n p : ℕ) (r : NumberRead) → with_lowest low r ≡ number n p → (m : ℕ) × (r ≡ number m p) × (n ≡ low + 128 * m)
below_number low n p (Ok (m, next)) e =
    let pair : (low + 128 * m, next) ≡ (n, record { at = p }) = cc in
    let count : low + 128 * m ≡ n = ap (λ (v : ℕ × Cursor). v.0) pair in
    let place : next ≡ record { at = p } = ap (λ (v : ℕ × Cursor). v.1) pair in
    (m, ap (λ (c : Cursor). Ok (m, c)) place, sym count)
below_number low n p (Err refusal) e = let z : ◌≡◌ {A = ℕ} 0 1 = cc in absurd (omega arith)

never : (r : NumberRead) (refusal : Refusal) (n p : ℕ) → r ≡ Err refusal → r ≡ number n p → ⊥
never r refusal n p e e₁ = let z : ◌≡◌ {A = ℕ} 0 1 = cc in omega arith

module _ (s : List ℕ) (at n p : ℕ) where
  -- the last byte of a number is the number's last group
  last_stands : (g : ℕ) → at < length s → n ≡ get_or s at 0 → p ≡ at + 1 → n < 128 → Stands s at (groups g n) p
  last_stands g h e q l = rw (groups_last g n l, q) (stands_one s at n h e)

  -- a byte of 128 or more is a number's lowest group, if the others stand behind it
  more_stands : (g m : ℕ) → at < length s → 128 ≤ get_or s at 0 → get_or s at 0 < 256 → n ≡ get_or s at 0 - 128 + 128 * m → 0 < m
      → Stands s (at + 1) (groups g m) p → Stands s at (groups (suc g) n) p
  more_stands g m h l u e some r =
      let high : n / 128 ≡ m = omega arith in
      rw (groups_more g n (omega arith), high) (stands_cons s at (128 + n % 128) (groups g m) p h (omega arith) r)

module _ (s : List ℕ) (g first at n p : ℕ) (e : more_from g s first at ≡ number n p) where
  more_inside : at < length s
  more_inside = elim (dec_lt at (length s)) [ yes h ↦ h | no h ↦ absurd (never _ _ n p (more_ends g s first at (omega arith)) e) ]

  more_nonzero : get_or s at 0 ≡ 0 → ⊥
  more_nonzero z = never _ _ n p (more_padded s first at (at + 1) (get_or s at 0) more_inside refl refl g z) e

-- numbers as read: what was read, and where it ended
same_number : (n m p q : ℕ) (r : NumberRead) → r ≡ number m q → r ≡ number n p → (n ≡ m) × (p ≡ q)
same_number n m p q r e e₁ =
    let pair : ◌≡◌ {A = ℕ × Cursor} (n, record { at = p }) (m, record { at = q }) = cc in
    (ap (λ (v : ℕ × Cursor). v.0) pair, ap (λ (v : ℕ × Cursor). v.1.at) pair)

module _ (s : List ℕ) (small : (i : ℕ) → get_or s i 0 < 256) where
  -- the bytes after the first
  more_sound : (g first at n p : ℕ) → more_from g s first at ≡ number n p → Stands s at (groups g n) p × (0 < n) × (n < 16 * 128 ^ g)
  more_sound zero first at n p e =
      let h : at < length s = more_inside s 0 first at n p e in
      let z : get_or s at 0 ≡ 0 → ⊥ = more_nonzero s 0 first at n p e in
      elim (dec_lt (get_or s at 0) 16) [
        | yes l ↦
            let same = same_number n (get_or s at 0) p (at + 1) _ (fifth_last s first at (at + 1) (get_or s at 0) h refl refl z l) e in
            (last_stands s at n p 0 h same.0 same.1 (omega arith), omega arith, omega arith)
        | no l ↦ absurd (never _ _ n p (fifth_large s first at (at + 1) (get_or s at 0) h refl refl (omega arith)) e)
      ]
  more_sound (suc g) first at n p e =
      let h : at < length s = more_inside s (suc g) first at n p e in
      let z : get_or s at 0 ≡ 0 → ⊥ = more_nonzero s (suc g) first at n p e in
      elim (dec_lt (get_or s at 0) 128) [
        | yes l ↦
            let same = same_number n (get_or s at 0) p (at + 1) _ (more_last s first at (at + 1) (get_or s at 0) h refl refl g z l) e in
            (last_stands s at n p (suc g) h same.0 same.1 (omega arith), omega arith, omega (arith, one-le-pow g 128 (omega arith)))
        | no l ↦
            let split = below_number (get_or s at 0 - 128) n p (more_from g s first (at + 1)) (sym (more_more s first at (at + 1) (get_or s at 0) h refl refl g (omega arith)) ∙ e) in
            let rest = more_sound g first (at + 1) split.0 p split.1 in
            (more_stands s at n p g split.0 h (omega arith) (small at) split.2 rest.1 rest.0, omega (arith, split.2, rest.1), omega (arith, split.2, rest.2, small at))
      ]

  -- a number that is read is below 2^32, and its written form stands there, up to the next place
  pub number_sound : (at n p : ℕ) → number_at s at ≡ number n p → Stands s at (written n) p × (n < 2 ^ 32)
  number_sound at n p e =
      elim (dec_lt at (length s)) [
        | yes h ↦
            elim (dec_lt (get_or s at 0) 128) [
              | yes l ↦
                  let same = same_number n (get_or s at 0) p (at + 1) _ (number_short s at at (at + 1) (get_or s at 0) h refl refl l) e in
                  (last_stands s at n p 4 h same.0 same.1 (omega arith), omega arith)
              | no l ↦
                  let split = below_number (get_or s at 0 - 128) n p (more_from 3 s at (at + 1)) (sym (number_long s at at (at + 1) (get_or s at 0) h refl refl (omega arith)) ∙ e) in
                  let rest = more_sound 3 at (at + 1) split.0 p split.1 in
                  (more_stands s at n p 3 split.0 h (omega arith) (small at) split.2 rest.1 rest.0, omega (arith, split.2, rest.2, small at))
            ]
        | no h ↦ absurd (never _ _ n p (number_ends s at (omega arith)) e)
      ]

-- what stands behind bytes
pub drop_behind : (s : List ℕ) (at : ℕ) (bytes rest : List ℕ) → drop at s ≡ bytes ++ rest → drop (at + length bytes) s ≡ rest
drop_behind s at bytes rest e = sym (drop-drop (length bytes) at s) ∙ ap (drop (length bytes)) e ∙ drop_at bytes rest (length bytes) refl

-- the first of the bytes that stand at a place, and the others
first_byte : (s : List ℕ) (at byte : ℕ) (bytes : List ℕ) → drop at s ≡ byte ∷ bytes
    → (at < length s) × (byte ≡ get_or s at 0) × (drop (at + 1) s ≡ bytes)
first_byte s at byte bytes e =
    let h : at < length s = omega (arith, simp length-drop at (ap length e)) in
    let both : get_or s at 0 ∷ drop (suc at) s ≡ byte ∷ bytes = sym (drop-cons s at 0 h) ∙ e in
    (h, cc, rw (add-one at) cc)

module _ (s : List ℕ) where
  -- a number of several bytes is read if its bytes after the first are
  more_read : (g first at n : ℕ) → 128 ≤ n → more_from g s first (at + 1) ≡ number (n / 128) (at + 1 + length (groups g (n / 128)))
      → with_lowest (128 + n % 128 - 128) (more_from g s first (at + 1)) ≡ number n (at + length (groups (suc g) n))
  more_read g first at n l e =
      ap (with_lowest (128 + n % 128 - 128)) e
      ∙ ap₂ number (omega arith) (simp (groups_more g n l) (omega arith))

  -- the bytes after the first
  more_complete : (g first at n : ℕ) (rest : List ℕ) → 0 < n → n < 16 * 128 ^ g → drop at s ≡ groups g n ++ rest
      → more_from g s first at ≡ number n (at + length (groups g n))
  more_complete zero first at n rest some few e =
      let (h, stands, behind) = first_byte s at n rest (rw (groups_last 0 n (omega arith)) at e) in
      fifth_last s first at (at + length (groups 0 n)) n h stands (simp (groups_last 0 n (omega arith)) refl) (omega arith) few
  more_complete (suc g) first at n rest some few e =
      elim (dec_lt n 128) [
        | yes l ↦
            let (h, stands, behind) = first_byte s at n rest (rw (groups_last (suc g) n l) at e) in
            more_last s first at (at + length (groups (suc g) n)) n h stands (simp (groups_last (suc g) n l) refl) g (omega arith) l
        | no l ↦
            let (h, stands, behind) = first_byte s at (128 + n % 128) (groups g (n / 128) ++ rest) (rw (groups_more g n (omega arith)) at e) in
            more_more s first at (at + 1) (128 + n % 128) h stands refl g (omega arith)
            ∙ more_read g first at n (omega arith) (more_complete g first (at + 1) (n / 128) rest (omega arith) (omega arith) behind)
      ]

  -- a number below 2^32 whose written form stands at a place is read there
  pub number_complete : (at n : ℕ) (rest : List ℕ) → n < 2 ^ 32 → drop at s ≡ written n ++ rest → number_at s at ≡ number n (at + length (written n))
  number_complete at n rest few e =
      elim (dec_lt n 128) [
        | yes l ↦
            let (h, stands, behind) = first_byte s at n rest (rw (groups_last 4 n l) at e) in
            number_short s at at (at + length (written n)) n h stands (simp (groups_last 4 n l) refl) l
        | no l ↦
            let (h, stands, behind) = first_byte s at (128 + n % 128) (groups 3 (n / 128) ++ rest) (rw (groups_more 3 n (omega arith)) at e) in
            number_long s at at (at + 1) (128 + n % 128) h stands refl (omega arith)
            ∙ more_read 3 at at n (omega arith) (more_complete 3 at (at + 1) (n / 128) rest (omega arith) (omega arith) behind)
      ]

-- How many bytes a number takes.

groups_few : (g n : ℕ) → length (groups g n) ≤ g + 1
groups_few zero n = rw (groups_zero n) (omega arith)
groups_few (suc g) n =
    elim (dec_lt n 128) [ yes l ↦ rw (groups_last (suc g) n l) (omega arith) | no l ↦ rw (groups_more g n (omega arith)) (omega (arith, groups_few g (n / 128))) ]

pub written_few : (n : ℕ) → length (written n) ≤ 5
written_few n = groups_few 4 n

pub written_one : (n : ℕ) → n < 128 → length (written n) ≡ 1
written_one n l = rw (groups_last 4 n l)

pub two_bytes : (n : ℕ) → 128 ≤ n → n < 16384 → length (written n) ≡ 2
two_bytes n h l = rw (groups_more 3 n h, groups_last 3 (n / 128) (omega arith))

pub written_two : (n : ℕ) → n < 16384 → length (written n) ≤ 2
written_two n l =
    elim (dec_lt n 128) [
      | yes few ↦ omega (arith, written_one n few)
      | no many ↦ omega (arith, two_bytes n (omega arith) l)
    ]

-- What is written are bytes.

groups_bytes : (g n : ℕ) → n < 16 * 128 ^ g → Each (λ b. b < 256) (groups g n)
groups_bytes zero n h = rw (groups_zero n) (omega arith, tt)
groups_bytes (suc g) n h =
    elim (dec_lt n 128) [
      | yes l ↦ rw (groups_last (suc g) n l) (omega arith, tt)
      | no l ↦ rw (groups_more g n (omega arith)) (omega arith, groups_bytes g (n / 128) (omega arith))
    ]

pub written_bytes : (n : ℕ) → n < 2 ^ 32 → Each (λ b. b < 256) (written n)
written_bytes n h = groups_bytes 4 n h

-- A number is written in the fewest bytes: what is written means the number, and no other bytes that mean it are fewer.

-- what bytes mean, seven bits each, the lowest first
abbrev pub groups_mean : List ℕ → ℕ
groups_mean [] = 0
groups_mean (b ∷ bs) = b % 128 + 128 * groups_mean bs

groups-mean : (g n : ℕ) → n < 128 * 128 ^ g → groups_mean (groups g n) ≡ n
groups-mean zero n h = rw (groups_zero n) (omega arith)
groups-mean (suc g) n h =
    elim (dec_lt n 128) [
      | yes l ↦ rw (groups_last (suc g) n l) (omega arith)
      | no l ↦ rw (groups_more g n (omega arith)) (omega (arith, groups-mean g (n / 128) (omega arith)))
    ]

groups_fewest : (g n : ℕ) (bs : List ℕ) → 1 ≤ length bs → groups_mean bs ≡ n → length (groups g n) ≤ length bs
groups_fewest zero n bs some e = rw (groups_zero n) some
groups_fewest (suc g) n [] some e = absurd (omega arith)
groups_fewest (suc g) n (b ∷ []) some e = rw (groups_last (suc g) n (omega arith)) (omega arith)
groups_fewest (suc g) n (b ∷ c ∷ bs) some e =
    elim (dec_lt n 128) [
      | yes l ↦ rw (groups_last (suc g) n l) (omega arith)
      | no l ↦
          let high : groups_mean (c ∷ bs) ≡ n / 128 = omega arith in
          rw (groups_more g n (omega arith)) (omega (arith, groups_fewest g (n / 128) (c ∷ bs) (omega arith) high))
    ]

pub written_means : (n : ℕ) → n < 2 ^ 32 → groups_mean (written n) ≡ n
written_means n h = groups-mean 4 n (omega arith)

pub written_fewest : (n : ℕ) (bs : List ℕ) → 1 ≤ length bs → groups_mean bs ≡ n → length (written n) ≤ length bs
written_fewest n bs some e = groups_fewest 4 n bs some e
