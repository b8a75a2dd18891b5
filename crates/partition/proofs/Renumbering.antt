-- Members get the numbers of their parts, one after the other.
use Prim.Native.Nat.{ℕ, ◌+◌, ◌<◌}
use mathlib.Core.Bool.{Bool, false}
use mathlib.Core.List.{List}
use mathlib.Core.Logic.{◌≢◌}
use mathlib.Core.Path.{◌≡◌, refl, sym, ap, ◌∙◌}
use native.Mathlib.Decide.{ℕ_discrete, dec_lt}
use native.Mathlib.Omega.{arith}
use lib.ListN.{length, get_or, set, length-set}
use lib.Seq.{get_or-set_same, get_or-set_other}
use Rattle.partition.specs.Members.{flag}
use Rattle.partition.specs.Parts.{number_of, Renumbered}

module _ (block total keeper : ℕ) (found part blocks₀ : List ℕ) (dirty₀ : List Bool) where
  pub renumbering_starts : length blocks₀ ≡ 256 → length dirty₀ ≡ 256 → Renumbered 0 block total keeper found part blocks₀ dirty₀ blocks₀ dirty₀
  renumbering_starts b d = record {
    numbered = λ i l. absurd (omega arith);
    cleared = λ i l. absurd (omega arith);
    others = λ q h. (refl, refl);
    blocks_long = b;
    dirty_long = d;
  }

  pub renumbering_goes_on : (i : ℕ) (blocks : List ℕ) (dirty : List Bool) → Renumbered i block total keeper found part blocks₀ dirty₀ blocks dirty
      → (p number : ℕ) → p ≡ get_or found i 0 → p < 256 → number ≡ number_of keeper block total (get_or part i 0)
      → ((k : ℕ) → k < i → get_or found k 0 ≡ get_or found i 0 → get_or part k 0 ≡ get_or part i 0)
      → Renumbered (i + 1) block total keeper found part blocks₀ dirty₀ (set blocks p number) (set dirty p false)
  renumbering_goes_on i blocks dirty so_far p number own inside is agree = record {
    numbered = λ k l. numbered k l (ℕ_discrete (get_or found k 0) p);
    cleared = λ k l. cleared k l (ℕ_discrete (get_or found k 0) p);
    others = λ q h.
        let away : q ≢ p = λ e. h i (omega arith) (sym own ∙ sym e) in
        let before = so_far.others q (λ k l. h k (omega arith)) in
        (get_or-set_other blocks p q number 0 away ∙ before.0, get_or-set_other dirty p q false false away ∙ before.1);
    blocks_long = length-set blocks p number ∙ so_far.blocks_long;
    dirty_long = length-set dirty p false ∙ so_far.dirty_long;
  }
    where
      -- a member is one of the earlier ones, or the one at hand
      last : (k : ℕ) → k < i + 1 → (k < i → ⊥) → i ≡ k
      last k l h = omega arith

      earlier : (k : ℕ) → k < i + 1 → get_or found k 0 ≢ p → k < i
      earlier k l d = go (dec_lt k i)
        where
          go : Dec (k < i) → k < i
          go (yes h) = h
          go (no h) = absurd (d (ap (λ (x : ℕ). get_or found x 0) (sym (last k l h)) ∙ sym own))

      same_part : (k : ℕ) → k < i + 1 → get_or found k 0 ≡ p → get_or part k 0 ≡ get_or part i 0
      same_part k l e = go (dec_lt k i)
        where
          go : Dec (k < i) → get_or part k 0 ≡ get_or part i 0
          go (yes h) = agree k h (e ∙ own)
          go (no h) = ap (λ (x : ℕ). get_or part x 0) (sym (last k l h))

      numbered : (k : ℕ) → k < i + 1 → Dec (get_or found k 0 ≡ p) → get_or (set blocks p number) (get_or found k 0) 0 ≡ number_of keeper block total (get_or part k 0)
      numbered k l (yes e) = rw (e, same_part k l e) (get_or-set_same blocks p number 0 (omega (arith, so_far.blocks_long)) ∙ is)
      numbered k l (no d) = get_or-set_other blocks p (get_or found k 0) number 0 d ∙ so_far.numbered k (earlier k l d)

      cleared : (k : ℕ) → k < i + 1 → Dec (get_or found k 0 ≡ p) → flag (set dirty p false) (get_or found k 0) ≡ false
      cleared k l (yes e) = rw e (get_or-set_same dirty p false false (omega (arith, so_far.dirty_long)))
      cleared k l (no d) = get_or-set_other dirty p (get_or found k 0) false false d ∙ so_far.cleared k (earlier k l d)
