-- `dependents::mark` meets its contract. The invariant: what the uses so far lead to is marked. Assumes nothing.
use Rattle.std.proofs.Common.{get_or}
use Rattle.dependents.specs.Marks.{Marked, SomeIn}
use Rattle.dependents.specs.Tables.{LeadsToIn}
use Rattle.dependents.proofs.mark.Given as goal

abbrev pub invariant-loop-number : goal.invariant-loop-number
invariant-loop-number l = Marked (λ q. SomeIn 0 l.number-index (λ i. LeadsToIn l.direction l.table (get_or l.number-items i 0) q)) l.initial.dirty l.dirty
