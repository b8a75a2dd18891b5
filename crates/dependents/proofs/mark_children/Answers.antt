-- `dependents::mark_children` meets its contract. The invariant: the children so far are marked. Assumes nothing.
use Rattle.std.proofs.Common.{◌≡◌, ◌+◌, ◌*◌, ◌≤◌, length, get_or, take, drop, arith}
use Rattle.dependents.proofs.Marking.{marking_none, marking_next, marking_one, marking_less, marking_part}
use Rattle.dependents.proofs.mark_children.Goals as goal

pub loop-child-init : goal.loop-child-init
loop-child-init c = marking_none 0 0 _ c.args.dirty.now (omega arith) (omega arith)

pub loop-child-preserved : goal.loop-child-preserved
loop-child-preserved c = marking_next 0 _ _ _ c.loop-child.dirty _ c.loop-child.invariant (marking_one _ _ c.loop-child.invariant.long (omega arith))

pub returns : goal.returns
returns c =
    let t = c.args.table.now in
    let first = c.args.j * 4 in
    let rank = get_or t.ranks (get_or t.symbol c.args.j 0) 0 in
    let own = c.children_of-child-items.ensures.own in
    let many : length (take rank (drop first t.children)) ≡ rank = rw (← own) c.children_of-child-items.ensures.as_many in
    let all : length (take rank (drop first t.children)) ≤ c.loop-child.child-index = rw (← own) (omega arith) in
    let part = marking_part first rank _ t.children (λ x q. x ≡ q) _ _ many all (rw own at c.loop-child.invariant) in
    marking_less _ _ _ _ part (λ q h. (first + h.0, omega (arith, h.1), omega (arith, h.1), h.2))
