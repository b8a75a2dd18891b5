-- `partition::numbering::by_first_use` meets its contract. The invariant is `FirstUsing`: the states below q have their new numbers, and
-- the blocks met have names. Assumes nothing.
use Rattle.std.proofs.Common.{arith, rules, ◌<◌, get_or, refl}
use Rattle.partition.proofs.FirstUsing.{first_using_starts, first_using_few, first_using_known, first_using_new}
use Rattle.partition.proofs.numbering.by_first_use.Goals.{in-Some, in_default}
use Rattle.partition.proofs.numbering.by_first_use.Goals as goal

pub loop-q-init : goal.loop-q-init
loop-q-init c = first_using_starts _ _ (search rules)

pub overflow_cast-list-in_default : goal.overflow_cast-list-in_default
overflow_cast-list-in_default c = omega (arith, first_using_few _ _ _ _ _ c.loop-q.invariant)

pub overflow_add-number : goal.overflow_add-number
overflow_add-number c = omega (arith, first_using_few _ _ _ _ _ c.loop-q.invariant)

pub loop-q-preserved : goal.loop-q-preserved
loop-q-preserved c =
    let so_far = c.loop-q.invariant in
    let inside : c.loop-q.q < 256 = omega arith in
    let small : get_or c.args.found.now.list c.loop-q.q 0 < 256 = search rules in
    elim c.match-names-block.branch [
      | in-Some w ↦ rw (w.list-is, w.names-is, w.number-is) (first_using_known _ _ _ _ _ so_far inside small w.in-Some.first w.in-Some.is)
      | in_default w ↦ rw (w.list-is, w.names-is, w.number-is) (first_using_new _ _ _ _ _ so_far inside small _ refl w.in_default.is)
    ]
