-- The invariant of the loop over the bytes after a number's first: the groups so far, and what the definition reads from here on,
-- make up what it reads from the second byte on.
use Prim.Native.Nat.{ℕ, zero, suc, ◌+◌, ◌*◌, ◌-◌, ◌^◌, ◌≤◌, ◌<◌}
use mathlib.Core.Logic.{◌⊎◌, inl, inr, ⊎_elim}
use mathlib.Core.Path.{◌≡◌, refl, sym, ap, ◌∙◌}
use mathlib.Core.List.{List}
use native.Mathlib.Omega.{arith}
use native.Mathlib.Nat.{mul-add, mul_assoc, mul-le-mul, mul-le-mul_left, one-le-pow, pow-succ'}
use lib.ListN.{length, get_or}
use Rattle.answers.specs.declared.Refusal.TheVariants.{TableEnds, PaddedNumber, LargeNumber}
use Rattle.std.specs.Prelude.{Ok, Err}
use Rattle.numbers.specs.Read.{NumberRead, with_lowest, number, more_from, more_ends, more_padded, more_last, more_more, fifth_large, fifth_last}

-- a number whose lowest groups gave `value` and whose others were read: a one of these counts `unit`
abbrev joined : ℕ → ℕ → NumberRead → NumberRead
joined value unit (Ok (n, next)) = Ok (value + unit * n, next)
joined value unit (Err refusal) = Err refusal

joined_first : (low : ℕ) (r : NumberRead) → joined low 128 r ≡ with_lowest low r
joined_first low (Ok (n, next)) = refl
joined_first low (Err refusal) = refl

-- one group more
joined_below : (value unit group : ℕ) (r : NumberRead) → joined value unit (with_lowest group r) ≡ joined (value + unit * group) (unit * 128) r
joined_below value unit group (Ok (n, next)) =
    ap (λ (m : ℕ). Ok (m, next)) (rw (mul-add unit group (128 * n), ← mul_assoc unit 128 n) (omega arith))
joined_below value unit group (Err refusal) = refl

-- what the definition reads of a number whose first byte gave `low`
abbrev pub whole : List ℕ → ℕ → ℕ → NumberRead
whole s first low = with_lowest low (more_from 3 s first (first + 1))

-- `left` bytes may come before the fifth, whose unit is 2^28
pub record Groups (s : List ℕ) (first low value unit at : ℕ) : Type 0 where
  pub left : ℕ
  pub counts : unit * 128 ^ left ≡ 268435456
  pub small : value < unit
  pub rest : joined value unit (more_from left s first at) ≡ whole s first low

module _ (s : List ℕ) (first low : ℕ) where
  pub groups_start : low < 128 → Groups s first low low 128 (first + 1)
  groups_start h = record { left = 3; counts = refl; small = h; rest = joined_first low (more_from 3 s first (first + 1)) }

  module _ (value unit at : ℕ) (g : Groups s first low value unit at) where
    -- the next byte is the fifth, or one before it
    record Fifth : Type 0 where
      full : unit ≡ 268435456
      rest : joined value unit (more_from 0 s first at) ≡ whole s first low

    record Before : Type 0 where
      later : ℕ
      counts : unit * 128 * 128 ^ later ≡ 268435456
      few : unit ≤ 2097152
      rest : joined value unit (more_from (suc later) s first at) ≡ whole s first low

    which : Fifth ⊎ Before
    which = go g.left g.counts g.rest
      where
        go : (left : ℕ) → unit * 128 ^ left ≡ 268435456 → joined value unit (more_from left s first at) ≡ whole s first low → Fifth ⊎ Before
        go zero e r = inl (record { full = omega arith; rest = r })
        go (suc left) e r =
            let counts : unit * 128 * 128 ^ left ≡ 268435456 = mul_assoc unit 128 (128 ^ left) ∙ ap (λ (n : ℕ). unit * n) (sym (pow-succ' 128 left)) ∙ e in
            inr (record { later = left; counts = counts; few = omega (arith, mul-le-mul_left (unit * 128) (one-le-pow left 128 (omega arith))); rest = r })

    pub table_ends : length s ≤ at → Err (TableEnds (length s)) ≡ whole s first low
    table_ends h = ap (joined value unit) (sym (more_ends g.left s first at h)) ∙ g.rest

    -- a group on top of the value fits 32 bits
    pub group_fits : (group : ℕ) → group < 256 → (unit ≡ 268435456 → group < 16) → value + unit * group < 2 ^ 32
    group_fits group h room =
        let bytes : group ≤ 255 = omega arith in
        ⊎_elim
        (λ (f : Fifth). let bits : group ≤ 15 = omega (arith, room f.full) in let top : unit ≤ 268435456 = omega (arith, f.full) in omega (arith, g.small, mul-le-mul top bits))
        (λ (b : Before). omega (arith, g.small, mul-le-mul b.few bytes))
        which

    module _ (byte : ℕ) (inside : at < length s) (stands : byte ≡ get_or s at 0) where
      pub byte_padded : byte ≡ 0 → Err (PaddedNumber first) ≡ whole s first low
      byte_padded h = ap (joined value unit) (sym (more_padded s first at (at + 1) byte inside stands refl g.left h)) ∙ g.rest

      pub fifth_too_large : unit ≡ 268435456 → 16 ≤ byte → Err (LargeNumber first) ≡ whole s first low
      fifth_too_large full h =
          ⊎_elim
          (λ (f : Fifth). ap (joined value unit) (sym (fifth_large s first at (at + 1) byte inside stands refl h)) ∙ f.rest)
          (λ (b : Before). absurd (omega (arith, b.few)))
          which

      module _ (room : unit ≡ 268435456 → byte < 16) where
        pub byte_last : (byte ≡ 0 → ⊥) → byte < 128 → number (value + unit * byte) (at + 1) ≡ whole s first low
        byte_last h k =
            ⊎_elim
            (λ (f : Fifth). ap (joined value unit) (sym (fifth_last s first at (at + 1) byte inside stands refl h (room f.full))) ∙ f.rest)
            (λ (b : Before). ap (joined value unit) (sym (more_last s first at (at + 1) byte inside stands refl b.later h k)) ∙ b.rest)
            which

        before : 128 ≤ byte → Before
        before h = ⊎_elim (λ (f : Fifth). absurd (omega (arith, room f.full))) (λ (b : Before). b) which

        pub unit_grows : 128 ≤ byte → unit * 128 < 2 ^ 32
        unit_grows h = omega (arith, (before h).few)

        pub groups_go_on : 128 ≤ byte → byte < 256 → Groups s first low (value + unit * (byte - 128)) (unit * 128) (at + 1)
        groups_go_on h k =
            let b = before h in
            let bits : byte - 128 ≤ 127 = omega arith in
            record {
              left = b.later;
              counts = b.counts;
              small = omega (arith, g.small, mul-le-mul_left unit bits);
              rest =
                  sym (joined_below value unit (byte - 128) (more_from b.later s first (at + 1)))
                  ∙ ap (joined value unit) (sym (more_more s first at (at + 1) byte inside stands refl b.later h))
                  ∙ b.rest;
            }
