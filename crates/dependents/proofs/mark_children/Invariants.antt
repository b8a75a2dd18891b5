-- `dependents::mark_children` meets its contract. The invariant: the children so far are marked. Assumes nothing.
use Rattle.std.proofs.Common.{◌≡◌, get_or}
use Rattle.dependents.specs.Marks.{Marked, SomeIn}
use Rattle.dependents.proofs.mark_children.Given as goal

abbrev pub invariant-loop-child : goal.invariant-loop-child
invariant-loop-child l = Marked (λ q. SomeIn 0 l.child-index (λ k. get_or l.child-items k 0 ≡ q)) l.initial.dirty l.dirty
