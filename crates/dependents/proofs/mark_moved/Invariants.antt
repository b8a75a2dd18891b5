-- `dependents::mark_moved` meets its contract. The invariant: what depends on the members so far, where they are moved, is marked. Assumes nothing.
use Rattle.std.proofs.Common.{◌≢◌, get_or, length}
use Rattle.dependents.specs.Marks.{Marked, SomeIn}
use Rattle.dependents.specs.Tables.{DependsIn}
use Rattle.dependents.proofs.mark_moved.Given as goal

abbrev pub invariant-loop-member : goal.invariant-loop-member
invariant-loop-member g l =
    Marked (λ q. SomeIn 0 (length l.yielded) (λ i. (get_or l.part i 0 ≢ l.keeper) × DependsIn l.direction l.table l.uses (get_or l.members i 0) q)) l.initial.dirty l.dirty
