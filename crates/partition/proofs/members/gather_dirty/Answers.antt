-- `partition::members::gather_dirty` meets its contract. The invariant is `Gathering`: the dirty members below q are found, and the number
-- of dirty states from q on is left; where none is left, all dirty members are found. Assumes nothing.
use Rattle.std.proofs.Common.{arith, rules, ◌<◌}
use Rattle.partition.proofs.Gathering.{gathering_starts, gathering_few, gathering_clean, gathering_elsewhere, gathering_takes, gathering_to_end}
use Rattle.partition.proofs.members.gather_dirty.Goals.{then-dirty-q+then-blocks-q, then-dirty-q+else-blocks-q, else-dirty-q}
use Rattle.partition.proofs.members.gather_dirty.Goals as goal

pub loop-q-init : goal.loop-q-init
loop-q-init c = gathering_to_end _ _ _ _ _ _ _ _ (gathering_starts _ _ _ _ _ _ _ (search rules) c.count_dirty-left.ensures c.requires.clean_before) (omega arith)

pub bounds-found-count : goal.bounds-found-count
bounds-found-count c = omega (arith, gathering_few _ _ _ _ _ _ _ _ c.loop-q.invariant.0)

pub overflow_add-count : goal.overflow_add-count
overflow_add-count c = omega (arith, gathering_few _ _ _ _ _ _ _ _ c.loop-q.invariant.0)

pub loop-q-preserved : goal.loop-q-preserved
loop-q-preserved c =
    let so_far = c.loop-q.invariant.0 in
    let some : 0 < c.loop-q.left = omega arith in
    let inside : c.loop-q.q < 256 = omega arith in
    elim c.if-dirty-q.branch [
      | then-dirty-q+then-blocks-q w ↦ rw (w.found-is, w.left-is, w.count-is) (gathering_to_end _ _ _ _ _ _ _ _ (gathering_takes _ _ _ _ _ _ _ _ so_far some w.if-dirty-q.true inside w.if-blocks-q.true) (omega arith))
      | then-dirty-q+else-blocks-q w ↦ rw (w.found-is, w.left-is, w.count-is) (gathering_to_end _ _ _ _ _ _ _ _ (gathering_elsewhere _ _ _ _ _ _ _ _ so_far some w.if-dirty-q.true w.if-blocks-q.false) (omega arith))
      | else-dirty-q w ↦ rw (w.found-is, w.left-is, w.count-is) (gathering_to_end _ _ _ _ _ _ _ _ (gathering_clean _ _ _ _ _ _ _ _ so_far w.if-dirty-q.false) (omega arith))
    ]
