-- Sequences of collapses (demand 3).
use Rattle.model.specs.Table.{Table}
use Rattle.theory.specs.declared.Direction.{Direction}
use Rattle.theory.specs.Collapse.{CollapsedByCoarsest}

-- collapses by coarsest blocks, each in its direction, one after another from X
pub data Sequence (X : Table) : Table → Type 0 where
  start : Sequence X X
  collapse : {Y Z : Table} → Sequence X Y → (d : Direction) → CollapsedByCoarsest d Y Z → Sequence X Z
