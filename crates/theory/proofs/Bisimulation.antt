-- The coarsest blocks, numbered by first use, are determined.
use Rattle.std.specs.Prelude.{◌≡◌, ℕ, ◌<◌}
use Rattle.theory.specs.Blocks.{FirstUse}
use Rattle.theory.proofs.Blocks.{first_use_unique}
use Rattle.theory.specs.Bisimulation.{Coarsest}

module _ (n : ℕ) (Agree : (ℕ → ℕ) → ℕ → ℕ → Type 0) where
  pub coarsest_unique : (b c : ℕ → ℕ) → FirstUse n b → FirstUse n c → Coarsest n Agree b → Coarsest n Agree c → (q : ℕ) → q < n → b q ≡ c q
  coarsest_unique b c fb fc B C = first_use_unique n b c fb fc
      (record { keeps = λ p q lp lq e. C.together p q lp lq (B.related p q lp lq e) })
      (record { keeps = λ p q lp lq e. B.together p q lp lq (C.related p q lp lq e) })
