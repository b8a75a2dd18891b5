-- The loop that names a member of each block.
use Prim.Native.Nat.{ℕ, suc, ◌+◌, ◌≤◌, ◌<◌}
use mathlib.Core.Path.{◌≡◌, refl, sym, ◌∙◌}
use mathlib.Core.List.{List}
use native.Mathlib.Omega.{arith}
use native.Mathlib.Decide.{ℕ_discrete}
use native.Mathlib.Numerals.{add-one}
use borrow.Author.Tests.{eq-eqb, ne_eqb}
use lib.ListN.{length, set, replicate, length-set, length-replicate, get_or-replicate}
use lib.Seq.{get_or-set_same, get_or-set_other}
use Rattle.theory.specs.Blocks.{FirstUse, block_count, member}
use Rattle.theory.proofs.Blocks.{block_count_few}
use Rattle.theory.specs.AddingUp.{Names}
use Rattle.theory.proofs.AddingUp.{member_names}
use Rattle.adding.specs.Named.{name_of, Greatest}

module _ (b : ℕ → ℕ) where
  -- of the states below q the greatest in each block is named
  pub record Naming (names : List ℕ) (q : ℕ) : Type 0 where
    pub long : length names ≡ 256
    pub greatest : Greatest b q names

  pub naming_starts : Naming (replicate 256 0) 0
  naming_starts = record { long = length-replicate {A = ℕ} 256 0; greatest = λ D l. get_or-replicate 256 D 0 0 l }

  -- the next state is named for its block
  pub naming_goes_on : (names : List ℕ) (q : ℕ) → Naming names q → (D : ℕ) → D ≡ b q → D < 256 → Naming (set names D q) (q + 1)
  naming_goes_on names q so_far D e few = record {
    long = length-set names D q ∙ so_far.long;
    greatest = λ C l. rw (add-one q) (go C l (ℕ_discrete C D));
  }
    where
      go : (C : ℕ) → C < 256 → Dec (C ≡ D) → name_of (set names D q) C ≡ member b (suc q) C
      go C l (yes d) = rw (eq-eqb (b q) C (sym e ∙ sym d), d, get_or-set_same names D q 0 (omega (arith, so_far.long))) refl
      go C l (no d) = rw (ne_eqb (b q) C (λ g. d (sym g ∙ sym e)), get_or-set_other names D C q 0 d) (so_far.greatest C l)

module _ (b : ℕ → ℕ) (n : ℕ) where
  -- the greatest members are members
  pub greatest_names : FirstUse n b → n ≤ 256 → (names : List ℕ) → Greatest b n names → Names n b (name_of names)
  greatest_names numbered few names greatest = record {
    named_known = λ D l. rw (greatest D (small D l)) ((member_names n b numbered).named_known D l);
    named_block = λ D l. rw (greatest D (small D l)) ((member_names n b numbered).named_block D l);
  }
    where
      small : (D : ℕ) → D < block_count b n → D < 256
      small D l = omega (arith, block_count_few n b numbered n (omega arith))
