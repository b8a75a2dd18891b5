-- The blocks to start from, state by state: each shares the block of the first state that may share it, or gets the next number.
use Prim.Native.Nat.{ℕ, ◌+◌, ◌≤◌, ◌<◌}
use mathlib.Core.List.{List}
use mathlib.Core.Logic.{◌↔◌}
use mathlib.Core.Path.{◌≡◌, refl, sym, ◌∙◌}
use native.Mathlib.Decide.{dec_lt}
use native.Mathlib.Omega.{arith}
use borrow.Author.Count.{below_more}
use lib.ListN.{length, get_or, set, length-set}
use Rattle.std.specs.Prelude.{Some, None}
use Rattle.theory.specs.declared.Direction.{Direction}
use Rattle.theory.specs.declared.Direction.TheVariants.{Backward as backward, Forward as forward}
use Rattle.partition.specs.Numbering.{MayShare, Started, FirstAlike}
use Rattle.partition.proofs.Sharing.{older, newest, sharing_goes_on}

module _ (d : Direction) (finals : List ℕ) where
  share_self : (p : ℕ) → MayShare d finals p p
  share_self = go d
    where
      go : (d : Direction) (p : ℕ) → MayShare d finals p p
      go backward p = tt
      go forward p = refl

  share_sym : (p q : ℕ) → MayShare d finals p q → MayShare d finals q p
  share_sym = go d
    where
      go : (d : Direction) (p q : ℕ) → MayShare d finals p q → MayShare d finals q p
      go backward p q h = tt
      go forward p q h = sym h

  share_trans : (p q r : ℕ) → MayShare d finals p q → MayShare d finals q r → MayShare d finals p r
  share_trans = go d
    where
      go : (d : Direction) (p q r : ℕ) → MayShare d finals p q → MayShare d finals q r → MayShare d finals p r
      go backward p q r h i = tt
      go forward p q r h i = h ∙ i

  pub starting_starts : (blocks : List ℕ) → length blocks ≡ 256 → Started d 0 finals blocks 0
  starting_starts blocks long = record {
    numbered = record { below = λ q l. absurd (omega arith); used = λ D l. absurd (omega arith); long = long };
    shared = λ p q l. absurd (omega arith);
  }

  module _ (q total : ℕ) (blocks : List ℕ) (so_far : Started d q finals blocks total) (inside : q < 256) where
    -- q gets the number v, which is one of the numbers so far or the next
    step : (v total' : ℕ) → v < total' → total ≤ total' → ((D : ℕ) → D < total' → (D < total → ⊥) → v ≡ D) → ((r : ℕ) → r < q → (get_or blocks r 0 ≡ v) ↔ MayShare d finals r q)
        → Started d (q + 1) finals (set blocks q v) total'
    step v total' known more new shares = record {
      numbered = record {
        below = below_more (λ (r : ℕ). get_or (set blocks q v) r 0 < total') q (λ r h. rw (older blocks q v fits r h) (omega (arith, so_far.numbered.below r h))) (rw (newest blocks q v fits) known);
        used = λ D l. used D l (dec_lt D total);
        long = length-set blocks q v ∙ so_far.numbered.long;
      };
      shared = sharing_goes_on blocks q v fits (MayShare d finals) share_self share_sym so_far.shared shares;
    }
      where
        fits : q < length blocks
        fits = omega (arith, so_far.numbered.long)

        used : (D : ℕ) → D < total' → Dec (D < total) → (r : ℕ) × (r < q + 1) × (get_or (set blocks q v) r 0 ≡ D)
        used D l (yes h) = let u = so_far.numbered.used D h in (u.0, omega (arith, u.1), older blocks q v fits u.0 u.1 ∙ u.2)
        used D l (no h) = (q, omega arith, newest blocks q v fits ∙ new D l h)

    pub starting_shares : (p : ℕ) → FirstAlike d finals q (Some p) → Started d (q + 1) finals (set blocks q (get_or blocks p 0)) total
    starting_shares p first = step (get_or blocks p 0) total (so_far.numbered.below p first.0) (omega arith) (λ D k h. absurd (h k))
        (λ r h. (λ e. share_trans r p q ((so_far.shared r p h first.0).0 e) first.1, λ s. (so_far.shared r p h first.0).1 (share_trans r q p s (share_sym p q first.1))))

    pub starting_new : FirstAlike d finals q None → Started d (q + 1) finals (set blocks q total) (total + 1)
    starting_new none = step total (total + 1) (omega arith) (omega arith) (λ D k h. omega arith)
        (λ r h. (λ e. absurd (omega (arith, so_far.numbered.below r h)), λ s. absurd (none r h s)))
