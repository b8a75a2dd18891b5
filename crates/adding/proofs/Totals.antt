-- The loop that adds up the final code of each block.
use Prim.Native.Nat.{ℕ, suc, ◌+◌, ◌-◌, ◌≤◌, ◌<◌}
use mathlib.Core.Path.{◌≡◌, sym, ap, ◌∙◌}
use mathlib.Core.Bool.{Bool}
use mathlib.Core.List.{List}
use native.Mathlib.Omega.{arith}
use native.Mathlib.Nat.{sub-zero}
use native.Mathlib.Decide.{ℕ_discrete}
use native.Mathlib.Numerals.{add-one}
use borrow.Author.Tests.{eq-eqb, ne_eqb}
use lib.Dec.{eqb}
use lib.ListN.{length, get_or, set, replicate, length-set, length-replicate, get_or-replicate}
use lib.Seq.{get_or-set_same, get_or-set_other}
use Rattle.theory.specs.Arithmetic.{arithmetic, Weight, meaning, code_of, meaning_zero, meaning-code_of, code_of_zero}
use Rattle.theory.specs.Below.{up_from}
use Rattle.theory.specs.Semiring.{Operations, Laws}
use Rattle.theory.specs.Sum.{only, sum, zero_plus}
use Rattle.adding.specs.Finals.{finals_added}
use Rattle.theory.proofs.Laws.{laws}

module _ (a n : ℕ) (finals : List ℕ) (b : ℕ → ℕ) where
  abbrev S : Operations
  S = arithmetic a

  L : Laws S
  L = laws a

  -- the final weight of p, where p is in the block D
  abbrev share : ℕ → ℕ → Weight a
  share D p = only S (eqb (b p) D) (meaning a (get_or finals p 0))

  -- the members below q are added up, and what is left makes up the whole
  pub record Totalling (sums : List ℕ) (q : ℕ) : Type 0 where
    pub long : length sums ≡ 256
    pub own : (D : ℕ) → D < 256 → get_or sums D 0 ≡ code_of a (meaning a (get_or sums D 0))
    pub rest : (D : ℕ) → D < 256 → S.plus (meaning a (get_or sums D 0)) (sum S (up_from q (n - q)) (share D)) ≡ finals_added a n finals b D

  pub totalling_starts : Totalling (replicate 256 0) 0
  totalling_starts = record {
    long = length-replicate {A = ℕ} 256 0;
    own = λ D l. rw (get_or-replicate {A = ℕ} 256 D 0 0 l, meaning_zero a) (sym (code_of_zero a));
    rest = λ D l. rw (get_or-replicate {A = ℕ} 256 D 0 0 l, meaning_zero a, sub-zero n) (zero_plus S L _);
  }

  module _ (sums : List ℕ) (q : ℕ) (so_far : Totalling sums q) where
    pub totalling_goes_on : q < n → (C new : ℕ) → C ≡ b q → C < 256
        → new ≡ code_of a (S.plus (meaning a (get_or sums C 0)) (meaning a (get_or finals q 0))) → Totalling (set sums C new) (q + 1)
    totalling_goes_on more C new e few f = record {
      long = length-set sums C new ∙ so_far.long;
      own = λ D l. own_next D l (ℕ_discrete D C);
      rest = λ D l. rest_next D l (ℕ_discrete D C);
    }
      where
        here : get_or (set sums C new) C 0 ≡ new
        here = get_or-set_same sums C new 0 (omega (arith, so_far.long))

        own_next : (D : ℕ) → D < 256 → Dec (D ≡ C) → get_or (set sums C new) D 0 ≡ code_of a (meaning a (get_or (set sums C new) D 0))
        own_next D l (yes d) = rw (d, here, f, meaning-code_of)
        own_next D l (no d) = rw (get_or-set_other sums C D new 0 d) (so_far.own D l)

        opened : (D : ℕ) → sum S (up_from q (n - q)) (share D) ≡ S.plus (share D q) (sum S (up_from (q + 1) (n - (q + 1))) (share D))
        opened D = let left : n - q ≡ suc (n - (q + 1)) = omega arith in rw (left, add-one q)

        rest_next : (D : ℕ) → D < 256 → Dec (D ≡ C) → S.plus (meaning a (get_or (set sums C new) D 0)) (sum S (up_from (q + 1) (n - (q + 1))) (share D)) ≡ finals_added a n finals b D
        rest_next D l (yes d) =
            let in_block : share D q ≡ meaning a (get_or finals q 0) = ap (λ (c : Bool). only S c (meaning a (get_or finals q 0))) (eq-eqb (b q) D (sym e ∙ sym d)) in
            let now_at : meaning a (get_or (set sums C new) D 0) ≡ S.plus (meaning a (get_or sums D 0)) (meaning a (get_or finals q 0)) = rw (d, here, f, meaning-code_of) in
            ap (λ (w : Weight a). S.plus w (sum S (up_from (q + 1) (n - (q + 1))) (share D))) now_at
            ∙ L.plus_assoc _ _ _
            ∙ ap (S.plus (meaning a (get_or sums D 0))) (ap (λ (w : Weight a). S.plus w (sum S (up_from (q + 1) (n - (q + 1))) (share D))) (sym in_block) ∙ sym (opened D))
            ∙ so_far.rest D l
        rest_next D l (no d) =
            let out : share D q ≡ S.zero = ap (λ (c : Bool). only S c (meaning a (get_or finals q 0))) (ne_eqb (b q) D (λ g. d (sym g ∙ sym e))) in
            ap (λ (x : ℕ). S.plus (meaning a x) (sum S (up_from (q + 1) (n - (q + 1))) (share D))) (get_or-set_other sums C D new 0 d)
            ∙ ap (S.plus (meaning a (get_or sums D 0))) (sym (zero_plus S L _) ∙ ap (λ (w : Weight a). S.plus w (sum S (up_from (q + 1) (n - (q + 1))) (share D))) (sym out) ∙ sym (opened D))
            ∙ so_far.rest D l

    pub totalling_ends : n ≤ q → (D : ℕ) → D < 256 → get_or sums D 0 ≡ code_of a (finals_added a n finals b D)
    totalling_ends done D l =
        let none : n - q ≡ 0 = omega arith in
        so_far.own D l ∙ ap (code_of a) (sym (L.plus_zero _) ∙ ap (λ (k : ℕ). S.plus (meaning a (get_or sums D 0)) (sum S (up_from q k) (share D))) (sym none) ∙ so_far.rest D l)
