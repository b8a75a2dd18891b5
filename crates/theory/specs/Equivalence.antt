-- The papers speak of equivalences on the states, our definitions of blocks: functions from states to block numbers. Each is the other:
-- states that share a block are an equivalence, and for each equivalence on n states there are blocks that states share exactly if it relates
-- them.
use Rattle.std.specs.Prelude.{◌≡◌, ◌↔◌, Bool, true, false, cond, ℕ, zero, suc, ◌<◌, ◌≤◌, T}
use Rattle.std.proofs.Common.{sym, subst, arith}
use Rattle.std.proofs.Math.Decide.{ℕ_discrete}

-- an equivalence on the states below n, given by a test
pub record Equivalence (n : ℕ) (related : ℕ → ℕ → Bool) : Type 0 where
  pub itself : (p : ℕ) → p < n → T (related p p)
  pub turned : (p q : ℕ) → p < n → q < n → T (related p q) → T (related q p)
  pub through : (p q r : ℕ) → p < n → q < n → r < n → T (related p q) → T (related q r) → T (related p r)

-- the greatest number below n that passes a test
abbrev greatest : (ℕ → Bool) → ℕ → ℕ
greatest test zero = zero
greatest test (suc i) = cond (test i) i (greatest test i)

-- if one passes, so does the greatest that does
greatest_passes : (test : ℕ → Bool) (n q : ℕ) → q < n → T (test q) → (greatest test n < n) × T (test (greatest test n)) × (q ≤ greatest test n)
greatest_passes test zero q l h = absurd (omega arith)
greatest_passes test (suc i) q l h = go (test i) (λ t. t) (λ e. lower e) (greatest_passes test i q)
  where
    lower : (T (test i) → ⊥) → q < i
    lower never = elim (ℕ_discrete q i) [ yes e ↦ absurd (never (subst (λ (x : ℕ). T (test x)) e h)) | no d ↦ omega arith ]

    go : (c : Bool) → (T c → T (test i)) → ((T c → ⊥) → q < i) → (q < i → T (test q) → (greatest test i < i) × T (test (greatest test i)) × (q ≤ greatest test i))
        → (cond c i (greatest test i) < suc i) × T (test (cond c i (greatest test i))) × (q ≤ cond c i (greatest test i))
    go true passes below ih = (omega arith, passes tt, omega arith)
    go false passes below ih = let r = ih (below (λ t. t)) h in (omega (arith, r.0), r.1, r.2)

module _ (n : ℕ) (related : ℕ → ℕ → Bool) (E : Equivalence n related) where
  -- a state's block is the greatest state that is related to it
  blocks : ℕ → ℕ
  blocks p = greatest (λ q. related q p) n

  own : (p : ℕ) → p < n → (blocks p < n) × T (related (blocks p) p)
  unfolding blocks
  own p l = let r = greatest_passes (λ q. related q p) n p l (E.itself p l) in (r.0, r.1)

  no_less : (p q : ℕ) → p < n → q < n → T (related p q) → blocks p ≤ blocks q
  unfolding blocks
  no_less p q l m h = (greatest_passes (λ r. related r q) n (blocks p) (own p l).0 (E.through (blocks p) p q (own p l).0 l m (own p l).1 h)).2

  -- there are blocks that two states share exactly if they are related
  pub equivalence_blocks : (b : ℕ → ℕ) × ((p q : ℕ) → p < n → q < n → T (related p q) ↔ (b p ≡ b q))
  equivalence_blocks = (
    blocks,
    λ p q l m. (
      λ h. omega (arith, no_less p q l m h, no_less q p m l (E.turned p q l m h)),
      λ e. E.through p (blocks p) q l (own p l).0 m (E.turned (blocks p) p (own p l).0 l (own p l).1) (subst (λ (D : ℕ). T (related D q)) (sym e) (own q m).1),
    ),
  )
