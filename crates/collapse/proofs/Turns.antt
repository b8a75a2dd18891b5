-- The turns of a shrink: whatever the shrink from here on gives, the shrink from the start gives.
use Rattle.model.specs.Table.{Table}
use Rattle.theory.specs.declared.Direction.{Direction}
use Rattle.theory.specs.Direction.{other}
use Rattle.theory.specs.Collapse.{CollapsedByCoarsest}
use Rattle.theory.specs.Shrink.{Shrinks, last, more, Ends}

-- what is shrunk from the table X in direction d is what is shrunk from the first table in the first direction
abbrev pub Turn : Direction → Table → Direction → Table → Type 0
Turn d₀ X₀ d X = (Z : Table) → Shrinks d X Z → Shrinks d₀ X₀ Z

pub turn_goes_on : (d₀ : Direction) (X₀ : Table) (d : Direction) (X Y : Table) → Turn d₀ X₀ d X → CollapsedByCoarsest d X Y → ¬ Ends X Y → Turn d₀ X₀ (other d) Y
turn_goes_on d₀ X₀ d X Y t c n Z s = t Z (more c n s)

pub turn_ends : (d₀ : Direction) (X₀ : Table) (d : Direction) (X Y : Table) → Turn d₀ X₀ d X → CollapsedByCoarsest d X Y → Ends X Y → Shrinks d₀ X₀ Y
turn_ends d₀ X₀ d X Y t c e = t Y (last c e)
