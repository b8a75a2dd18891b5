-- Sequences of collapses: every tree keeps its value, and the last collapse, made again, gives the same table (demand 3).
use Rattle.std.specs.Prelude.{◌≡◌, refl}
use Rattle.std.proofs.Common.{◌∙◌}
use Rattle.model.specs.Table.{Table, Proper}
use Rattle.model.specs.Tree.{Tree}
use Rattle.theory.specs.Weight.{value}
use Rattle.theory.specs.declared.Direction.{Direction}
use Rattle.theory.specs.Collapse.{CollapsedByCoarsest}
use Rattle.theory.proofs.CollapseProper.{collapsed_by_coarsest_proper}
use Rattle.theory.proofs.KeptWeight.{collapsed_by_coarsest_value}
use Rattle.theory.proofs.CollapseAgain.{collapsed_by_coarsest_again}
use Rattle.theory.specs.Sequence.{Sequence, start, collapse}

pub sequence_proper : {X Y : Table} → Proper X → Sequence X Y → Proper Y
sequence_proper proper start = proper
sequence_proper proper (collapse {Y = Y} {Z = Z} s d C) = collapsed_by_coarsest_proper d Y Z C (sequence_proper proper s)

-- every tree keeps its value
pub sequence_value : {X Y : Table} → Proper X → Sequence X Y → (t : Tree) → value Y t ≡ value X t
sequence_value proper start t = refl
sequence_value proper (collapse {Y = Y} {Z = Z} s d C) t = collapsed_by_coarsest_value d Y Z C (sequence_proper proper s) t ∙ sequence_value proper s t

-- the last collapse, made again, gives the same table
pub sequence_again : {X Y : Table} → Proper X → Sequence X Y → (d : Direction) (Z W : Table) → CollapsedByCoarsest d Y Z → CollapsedByCoarsest d Z W → W ≡ Z
sequence_again {Y = Y} proper s d Z W C = collapsed_by_coarsest_again d Y Z C (sequence_proper proper s) W
