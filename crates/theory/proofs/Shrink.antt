-- A shrink has one result, which is a table, and every tree keeps its value.
use Rattle.std.specs.Prelude.{◌≡◌}
use Rattle.std.proofs.Common.{◌∙◌, subst}
use Rattle.model.specs.Table.{Table, Proper}
use Rattle.model.specs.Tree.{Tree}
use Rattle.theory.specs.Weight.{value}
use Rattle.theory.specs.Blocks.{block_of}
use Rattle.theory.specs.declared.Direction.{Direction}
use Rattle.theory.specs.Direction.{other}
use Rattle.theory.specs.Collapse.{CollapsedByCoarsest}
use Rattle.theory.proofs.Collapse.{collapsed_by_coarsest_unique}
use Rattle.theory.proofs.CollapseProper.{collapsed_by_coarsest_proper}
use Rattle.theory.proofs.OwnBlocks.{collapsed_same}
use Rattle.theory.proofs.KeptWeight.{collapsed_by_coarsest_value}
use Rattle.theory.specs.Shrink.{Ends, Shrinks, last, more}

-- the collapse that ends it gives the table itself
pub ends_same : (d : Direction) (X Y : Table) → Proper X → CollapsedByCoarsest d X Y → Ends X Y → Y ≡ X
ends_same d X Y proper C = collapsed_same d X proper (block_of C.blocks) C.coarsest_blocks.first_use Y C.collapsed

-- a shrink has one result
pub shrinks_unique : {d : Direction} {X Y Z : Table} → Proper X → Shrinks d X Y → Shrinks d X Z → Y ≡ Z
shrinks_unique {d} {X} proper (last {Y = Y} C e) (last {Y = Z} E f) = collapsed_by_coarsest_unique d X Y Z C E
shrinks_unique {d} {X} proper (last {Y = Y} C e) (more {Y = Z} E n s) = absurd (n (subst (Ends X) (collapsed_by_coarsest_unique d X Y Z C E) e))
shrinks_unique {d} {X} proper (more {Y = Y} C n r) (last {Y = Z} E f) = absurd (n (subst (Ends X) (collapsed_by_coarsest_unique d X Z Y E C) f))
shrinks_unique {d} {X} proper (more {Y = Y} C n r) (more {Y = W} {Z = Z} E m s) =
    shrinks_unique (collapsed_by_coarsest_proper d X Y C proper) r (subst (λ (T : Table). Shrinks (other d) T Z) (collapsed_by_coarsest_unique d X W Y E C) s)

pub shrinks_proper : {d : Direction} {X Y : Table} → Proper X → Shrinks d X Y → Proper Y
shrinks_proper {d} {X} proper (last {Y = Y} C e) = collapsed_by_coarsest_proper d X Y C proper
shrinks_proper {d} {X} proper (more {Y = Y} C n s) = shrinks_proper (collapsed_by_coarsest_proper d X Y C proper) s

-- every tree keeps its value
pub shrinks_value : {d : Direction} {X Y : Table} → Proper X → Shrinks d X Y → (t : Tree) → value Y t ≡ value X t
shrinks_value {d} {X} proper (last {Y = Y} C e) t = collapsed_by_coarsest_value d X Y C proper t
shrinks_value {d} {X} proper (more {Y = Y} C n s) t = shrinks_value (collapsed_by_coarsest_proper d X Y C proper) s t ∙ collapsed_by_coarsest_value d X Y C proper t
