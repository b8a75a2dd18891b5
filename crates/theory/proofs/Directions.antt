-- A table has only one list of coarsest blocks.
use Rattle.std.specs.Prelude.{◌≡◌, List, ℕ, ◌<◌}
use Rattle.std.proofs.Common.{sym, ◌∙◌, subst, ext_get_or}
use Rattle.model.specs.Table.{Table}
use Rattle.theory.specs.Blocks.{block_of}
use Rattle.theory.specs.declared.Direction.{Direction}
use Rattle.theory.specs.Direction.{Agree, CoarsestBlocks}
use Rattle.theory.proofs.Bisimulation.{coarsest_unique}

-- there is only one such list
pub coarsest_blocks_unique : (d : Direction) (X : Table) (bs cs : List ℕ) → CoarsestBlocks d X bs → CoarsestBlocks d X cs → bs ≡ cs
coarsest_blocks_unique d X bs cs one two = ext_get_or 0 bs cs (one.one_each ∙ sym two.one_each) (λ q l.
    coarsest_unique X.states (Agree X.arithmetic X d) (block_of bs) (block_of cs) one.first_use two.first_use one.coarsest two.coarsest q (subst (λ (n : ℕ). q < n) one.one_each l))
