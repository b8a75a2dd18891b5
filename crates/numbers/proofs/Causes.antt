-- The reader names exactly the cause that is met, and no number is both padded and too large (document 02, M-104).
use Rattle.std.specs.Prelude.{ℕ, zero, suc, ◌+◌, ◌-◌, ◌≤◌, ◌<◌, ◌⊎◌, ◌≡◌, refl, List, length, get_or, Ok, Err}
use Rattle.std.proofs.Common.{inl, inr, ⊎_elim, sym, ap, ◌∙◌, subst, arith, add-zero}
use Rattle.std.proofs.Math.Decide.{dec_le, dec_lt, ℕ_discrete}
use Rattle.std.proofs.Math.ListN.{get_or-eq_default}
use Rattle.answers.specs.declared.Refusal.{Refusal}
use Rattle.numbers.specs.Read.{NumberRead, number, with_lowest, more_from, number_at, more_ends, number_ends, more_padded, more_last, more_more, fifth_large, fifth_last, number_short, number_long}
use Rattle.numbers.specs.Causes.{GoesOn, Padded, TooLarge, Cause, ended, padded, large}

-- No number is both padded and too large.
pub never_padded_and_large : (s : List ℕ) (first : ℕ) → Padded s first → TooLarge s first → ⊥
never_padded_and_large s first p q = go (dec_lt p.before 4)
  where
    go : Dec (p.before < 4) → ⊥
    go (yes l) = omega (arith, q.goes_on p.before l, p.last)
    go (no l) =
        let four : p.before ≡ 4 = omega (arith, p.few) in
        let fifth : get_or s (first + 4) 0 ≡ 0 = subst (λ (k : ℕ). get_or s (first + k) 0 ≡ 0) four p.last in
        omega (arith, q.fifth)

-- behind the last byte nothing goes on
byte_inside : (s : List ℕ) (at : ℕ) → 0 < get_or s at 0 → at < length s
byte_inside s at h = go (dec_lt at (length s))
  where
    go : Dec (at < length s) → at < length s
    go (yes l) = l
    go (no l) = let beyond : length s ≤ at = omega arith in absurd (omega (arith, get_or-eq_default s 0 beyond))

module _ (s : List ℕ) (at count : ℕ) (h : GoesOn s at (suc count)) where
  goes_here : 128 ≤ get_or s at 0
  goes_here = subst (λ (j : ℕ). 128 ≤ get_or s j 0) (add-zero at) (h 0 (omega arith))

  goes_next : GoesOn s (at + 1) count
  goes_next i l = let next : at + suc i ≡ at + 1 + i = omega arith in subst (λ (j : ℕ). 128 ≤ get_or s j 0) next (h (suc i) (omega arith))

goes_further : (s : List ℕ) (at count : ℕ) → GoesOn s at count → 128 ≤ get_or s (at + count) 0 → GoesOn s at (suc count)
goes_further s at count h top i l = go (dec_lt i count)
  where
    go : Dec (i < count) → 128 ≤ get_or s (at + i) 0
    go (yes k) = h i k
    go (no k) = let last : count ≡ i = omega arith in subst (λ (j : ℕ). 128 ≤ get_or s (at + j) 0) last top

-- a refusal behind the lowest group is the number's
lowest_refused : (low : ℕ) (r : NumberRead) (refusal : Refusal) → with_lowest low r ≡ Err refusal → r ≡ Err refusal
lowest_refused low (Ok (n, next)) refusal e = let z : ◌≡◌ {A = ℕ} 0 1 = cc in absurd (omega arith)
lowest_refused low (Err refusal₁) refusal e = e

never_number : (n next : ℕ) (r : NumberRead) (refusal : Refusal) → r ≡ number n next → r ≡ Err refusal → ⊥
never_number n next r refusal e f = let z : ◌≡◌ {A = ℕ} 0 1 = cc in omega arith

module _ (s : List ℕ) (first : ℕ) (refusal : Refusal) where
  -- a refusal behind so many bytes that go on
  more_behind : (count g more at : ℕ) → more ≡ g + count → GoesOn s at count → more_from g s first (at + count) ≡ Err refusal → more_from more s first at ≡ Err refusal
  more_behind zero g more at m h e =
      let same : more ≡ g = omega arith in
      rw same (subst (λ (j : ℕ). more_from g s first j ≡ Err refusal) (add-zero at) e)
  more_behind (suc count) g zero at m h e = absurd (omega arith)
  more_behind (suc count) g (suc more) at m h e =
      let top = goes_here s at count h in
      let next : at + suc count ≡ at + 1 + count = omega arith in
      more_more s first at (at + 1) (get_or s at 0) (byte_inside s at (omega arith)) refl refl more top
      ∙ ap (with_lowest (get_or s at 0 - 128))
      (more_behind count g more (at + 1) (omega arith) (goes_next s at count h) (subst (λ (j : ℕ). more_from g s first j ≡ Err refusal) next e))

  number_behind : (count g : ℕ) → 4 ≡ g + count → 1 ≤ count → GoesOn s first count → more_from g s first (first + count) ≡ Err refusal → number_at s first ≡ Err refusal
  number_behind zero g m l h e = absurd (omega arith)
  number_behind (suc count) g m l h e =
      let top = goes_here s first count h in
      let next : first + suc count ≡ first + 1 + count = omega arith in
      number_long s first first (first + 1) (get_or s first 0) (byte_inside s first (omega arith)) refl refl top
      ∙ ap (with_lowest (get_or s first 0 - 128))
      (more_behind count g 3 (first + 1) (omega arith) (goes_next s first count h) (subst (λ (j : ℕ). more_from g s first j ≡ Err refusal) next e))

  -- The refusal is given where its cause is met.
  pub cause_refused : Cause s first refusal → number_at s first ≡ Err refusal
  cause_refused (ended e c) = go c.before c.few c.goes_on c.ends
    where
      go : (before : ℕ) → before ≤ 4 → GoesOn s first before → length s ≤ first + before → number_at s first ≡ Err refusal
      go zero few on end = rw e (number_ends s first (omega arith))
      go (suc before) few on end =
          number_behind (suc before) (4 - suc before) (omega arith) (omega arith) on (rw e (more_ends (4 - suc before) s first (first + suc before) end))
  cause_refused (padded e c) =
      let b = c.before in
      number_behind b (4 - b) (omega (arith, c.few)) c.some c.goes_on
      (rw e (more_padded s first (first + b) (first + b + 1) (get_or s (first + b) 0) c.inside refl refl (4 - b) c.last))
  cause_refused (large e c) =
      let inside : first + 4 < length s = byte_inside s (first + 4) (omega (arith, c.fifth)) in
      number_behind 4 0 refl (omega arith) c.goes_on (rw e (fifth_large s first (first + 4) (first + 4 + 1) (get_or s (first + 4) 0) inside refl refl c.fifth))

  same : {r : NumberRead} {other : Refusal} → r ≡ Err other → r ≡ Err refusal → refusal ≡ other
  same e f = cc

  module _ (count : ℕ) (some : 1 ≤ count) (few : count ≤ 4) (on : GoesOn s first count) where
    -- what stands behind bytes that go on: the cause, or a byte that is not 0
    more_next : (g : ℕ) → more_from g s first (first + count) ≡ Err refusal → Cause s first refusal ⊎ ((first + count < length s) × (get_or s (first + count) 0 ≡ 0 → ⊥))
    more_next g e = go (dec_le (length s) (first + count)) (ℕ_discrete (get_or s (first + count) 0) 0)
      where
        go : Dec (length s ≤ first + count) → Dec (get_or s (first + count) 0 ≡ 0) → Cause s first refusal ⊎ ((first + count < length s) × (get_or s (first + count) 0 ≡ 0 → ⊥))
        go (yes end) z = inl (ended (same (more_ends g s first (first + count) end) e) (record { before = count; few = few; goes_on = on; ends = end }))
        go (no end) (yes z) =
            let inside : first + count < length s = omega arith in
            inl
            (padded (same (more_padded s first (first + count) (first + count + 1) (get_or s (first + count) 0) inside refl refl g z) e)
            (record { before = count; some = some; few = few; goes_on = on; inside = inside; last = z }))
        go (no end) (no z) = inr (omega arith, z)

  more_cause : (g count : ℕ) → 4 ≡ g + count → 1 ≤ count → GoesOn s first count → more_from g s first (first + count) ≡ Err refusal → Cause s first refusal
  more_cause zero count m some on e =
      ⊎_elim (λ c. c)
      (λ n. elim (dec_le 16 (get_or s (first + count) 0)) [
        | yes k ↦
            let four : count ≡ 4 = omega arith in
            large (same (fifth_large s first (first + count) (first + count + 1) (get_or s (first + count) 0) n.0 refl refl k) e)
            (record { goes_on = subst (GoesOn s first) four on; fifth = subst (λ (j : ℕ). 16 ≤ get_or s (first + j) 0) four k })
        | no k ↦ absurd (never_number _ _ _ refusal (fifth_last s first (first + count) (first + count + 1) (get_or s (first + count) 0) n.0 refl refl n.1 (omega arith)) e)
      ])
      (more_next count some (omega arith) on 0 e)
  more_cause (suc g) count m some on e =
      ⊎_elim (λ c. c)
      (λ n. elim (dec_lt (get_or s (first + count) 0) 128) [
        | yes k ↦ absurd (never_number _ _ _ refusal (more_last s first (first + count) (first + count + 1) (get_or s (first + count) 0) n.0 refl refl g n.1 k) e)
        | no k ↦
            let top : 128 ≤ get_or s (first + count) 0 = omega arith in
            let next : first + count + 1 ≡ first + suc count = omega arith in
            let later = lowest_refused _ _ refusal (sym (more_more s first (first + count) (first + count + 1) (get_or s (first + count) 0) n.0 refl refl g top) ∙ e) in
            more_cause g (suc count) (omega arith) (omega arith) (goes_further s first count on top) (subst (λ (j : ℕ). more_from g s first j ≡ Err refusal) next later)
      ])
      (more_next count some (omega arith) on (suc g) e)

  -- Where no number stands, the refusal names the cause that is met.
  pub number_cause : number_at s first ≡ Err refusal → Cause s first refusal
  number_cause e = go (dec_le (length s) first) (dec_lt (get_or s first 0) 128)
    where
      go : Dec (length s ≤ first) → Dec (get_or s first 0 < 128) → Cause s first refusal
      go (yes end) k =
          ended (same (number_ends s first end) e) (record { before = 0; few = omega arith; goes_on = λ i l. absurd (omega arith); ends = omega arith })
      go (no end) (yes k) = absurd (never_number _ _ _ refusal (number_short s first first (first + 1) (get_or s first 0) (omega arith) refl refl k) e)
      go (no end) (no k) =
          let top : 128 ≤ get_or s first 0 = omega arith in
          let begun : GoesOn s first 1 = λ i l. let here : i ≡ 0 = omega arith in rw (here, add-zero) top in
          more_cause 3 1 refl (omega arith) begun
          (lowest_refused _ _ refusal (sym (number_long s first first (first + 1) (get_or s first 0) (omega arith) refl refl top) ∙ e))
