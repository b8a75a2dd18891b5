-- The coarsest blocks by profiles are the coarsest blocks of the table.
use Rattle.std.specs.Prelude.{ℕ}
use Rattle.model.specs.Table.{Table, Proper}
use Rattle.theory.specs.Bisimulation as General
use Rattle.theory.specs.declared.Direction.{Direction}
use Rattle.theory.specs.Direction.{Agree, Coarsest}
use Rattle.theory.specs.Uses.{AgreeByProfile}
use Rattle.theory.proofs.Uses.{agree_profile, profile_agree}

-- the coarsest blocks by profiles are the coarsest blocks of the table
pub coarsest_by_profile : (d : Direction) (X : Table) → Proper X → (b : ℕ → ℕ) → General.Coarsest X.states (AgreeByProfile X.arithmetic X d) b → Coarsest d X b
coarsest_by_profile d X proper b = General.coarsest_same X.states (AgreeByProfile X.arithmetic X d) (Agree X.arithmetic X d)
    (λ b p q. profile_agree X.arithmetic X proper.transitions_proper b p q d)
    (λ b p q. agree_profile X.arithmetic X proper.transitions_proper b p q d) b
