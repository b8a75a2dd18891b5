-- Refinement of blocks by profiles: what holds while blocks are split, and that it ends at the coarsest bisimulation.
use Rattle.std.specs.Prelude.{◌≡◌, ◌⊎◌, ◌≢◌, ◌↔◌, false, List, ℕ, ◌<◌, eqb}
use Rattle.std.proofs.Common.{sym, ◌∙◌, inl, inr}
use Rattle.model.specs.Table.{Each}
use Rattle.theory.specs.Equality.{numbers, equal_or_not, false_differ}
use Rattle.theory.specs.Semiring.{Operations, Laws}
use Rattle.theory.specs.Bisimulation as General
use Rattle.theory.specs.Profile.{Use, SameProfile, Independent, profile_kept, Alike, alike_agreement}

module _ (S : Operations) (n : ℕ) (grade : ℕ → S.Carrier) (uses : List (Use S.Carrier)) (known : Each (λ u. Each (λ r. r < n) u.through) uses) where
  -- b are the present blocks; a state that is not clean has to be looked at again
  pub record Refining (b : ℕ → ℕ) (Clean : ℕ → Type 0) : Type 0 where
    pub covers : General.Covers n (Alike S n grade uses) b
    pub graded : (p q : ℕ) → p < n → q < n → b p ≡ b q → grade p ≡ grade q
    pub settled : (p q : ℕ) → p < n → q < n → Clean p → Clean q → b p ≡ b q → SameProfile S uses b p q

  -- at the start the blocks are the grades, and no state is clean
  pub refining_start : (b : ℕ → ℕ) → ((p q : ℕ) → p < n → q < n → (b p ≡ b q) ↔ (grade p ≡ grade q)) → Refining b (λ q. ⊥)
  refining_start b h = record {
    covers = λ c bis. record { keeps = λ p q lp lq e. (h p q lp lq).1 (bis.agree p q lp lq e).0 };
    graded = λ p q lp lq e. (h p q lp lq).0 e;
    settled = λ p q lp lq x y e. absurd x;
  }

  -- the block D is split by profiles into parts, one of which may keep its number; no other block changes; a state is clean afterwards
  -- only if it was clean or in D, and depends on no state that has a new number
  pub record Split (D : ℕ) (b b' : ℕ → ℕ) (Clean Clean' : ℕ → Type 0) : Type 0 where
    pub elsewhere : (p : ℕ) → p < n → b p ≢ D → b' p ≡ b p
    pub parts : (p q : ℕ) → p < n → q < n → b p ≡ D → b q ≡ D → (b' p ≡ b' q) ↔ SameProfile S uses b p q
    pub apart : (p q : ℕ) → p < n → q < n → b p ≡ D → b q ≢ D → b' p ≢ b' q
    pub cleared : (p : ℕ) → p < n → Clean' p → b p ≢ D → Clean p
    pub marked : (p : ℕ) → p < n → Clean' p → Independent S uses b b' p

  module _ (L : Laws S) (D : ℕ) (b b' : ℕ → ℕ) (Clean Clean' : ℕ → Type 0) (before : Refining b Clean) (split : Split D b b' Clean Clean') where
    -- parts of one block
    split_refines : (p q : ℕ) → p < n → q < n → b' p ≡ b' q → ((b p ≡ D) × (b q ≡ D)) ⊎ ((b p ≢ D) × (b q ≢ D) × (b p ≡ b q))
    split_refines p q lp lq e = go (equal_or_not numbers (b p) D) (equal_or_not numbers (b q) D)
      where
        go : (b p ≡ D) ⊎ (eqb (b p) D ≡ false) → (b q ≡ D) ⊎ (eqb (b q) D ≡ false) → ((b p ≡ D) × (b q ≡ D)) ⊎ ((b p ≢ D) × (b q ≢ D) × (b p ≡ b q))
        go (inl x) (inl y) = inl (x, y)
        go (inl x) (inr y) = absurd (split.apart p q lp lq x (false_differ numbers (b q) D y) e)
        go (inr x) (inl y) = absurd (split.apart q p lq lp y (false_differ numbers (b p) D x) (sym e))
        go (inr x) (inr y) = let hp : b p ≢ D = false_differ numbers (b p) D x in let hq : b q ≢ D = false_differ numbers (b q) D y in
            inr (hp, hq, sym (split.elsewhere p lp hp) ∙ e ∙ split.elsewhere q lq hq)

    -- a split keeps what holds
    pub refining_split : Refining b' Clean'
    refining_split = record {
      covers = General.split_covers n (Alike S n grade uses) (alike_agreement S n grade uses L known) b b' stay before.covers;
      graded = λ p q lp lq e. elim (split_refines p q lp lq e) [ inl r ↦ before.graded p q lp lq (r.0 ∙ sym r.1) | inr r ↦ before.graded p q lp lq r.2 ];
      settled = settled;
    }
      where
        stay : (p q : ℕ) → p < n → q < n → b p ≡ b q → Alike S n grade uses b p q → b' p ≡ b' q
        stay p q lp lq e h = go (equal_or_not numbers (b p) D)
          where
            go : (b p ≡ D) ⊎ (eqb (b p) D ≡ false) → b' p ≡ b' q
            go (inl x) = (split.parts p q lp lq x (sym e ∙ x)).1 h.1
            go (inr x) = let hp : b p ≢ D = false_differ numbers (b p) D x in split.elsewhere p lp hp ∙ e ∙ sym (split.elsewhere q lq (λ y. hp (e ∙ y)))

        settled : (p q : ℕ) → p < n → q < n → Clean' p → Clean' q → b' p ≡ b' q → SameProfile S uses b' p q
        settled p q lp lq cp cq e k = sym (profile_kept S uses b b' p (split.marked p lp cp) k) ∙ same (split_refines p q lp lq e) k ∙ profile_kept S uses b b' q (split.marked q lq cq) k
          where
            same : ((b p ≡ D) × (b q ≡ D)) ⊎ ((b p ≢ D) × (b q ≢ D) × (b p ≡ b q)) → SameProfile S uses b p q
            same (inl r) = (split.parts p q lp lq r.0 r.1).0 e
            same (inr r) = before.settled p q lp lq (split.cleared p lp cp r.0) (split.cleared q lq cq r.1) r.2

  -- where every state is clean, the blocks are the coarsest bisimulation
  pub refining_end : (b : ℕ → ℕ) (Clean : ℕ → Type 0) → Refining b Clean → ((q : ℕ) → q < n → Clean q) → General.Coarsest n (Alike S n grade uses) b
  refining_end b Clean r c = General.covers_coarsest n (Alike S n grade uses) b
      (record { agree = λ p q lp lq e. (r.graded p q lp lq e, r.settled p q lp lq (c p lp) (c q lq) e) }) r.covers
