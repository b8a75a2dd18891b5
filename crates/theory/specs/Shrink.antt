-- The shrink of a table from a named side (document 01, "Definitions").
use Rattle.std.specs.Prelude.{◌≡◌}
use Rattle.model.specs.Table.{Table}
use Rattle.theory.specs.declared.Direction.{Direction}
use Rattle.theory.specs.Direction.{other}
use Rattle.theory.specs.Collapse.{CollapsedByCoarsest}

-- a collapse from X to Y that ends the shrink: it merges no states
abbrev pub Ends : Table → Table → Type 0
Ends X Y = Y.states ≡ X.states

-- backward and forward collapses take turns, from the side d; the first that ends the shrink gives Y
pub data Shrinks : Direction → Table → Table → Type 0 where
  last : {d : Direction} {X Y : Table} → CollapsedByCoarsest d X Y → Ends X Y → Shrinks d X Y
  more : {d : Direction} {X Y Z : Table} → CollapsedByCoarsest d X Y → ¬ Ends X Y → Shrinks (other d) Y Z → Shrinks d X Z
