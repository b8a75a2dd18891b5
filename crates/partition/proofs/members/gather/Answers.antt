-- `partition::members::gather` meets its contract. Assumes nothing.
use Rattle.std.proofs.Common.{arith}
use Rattle.partition.proofs.Gathering.{gathered_dirty, gathered_room, gathered_both}
use Rattle.partition.proofs.members.gather.Goals as goal

-- a clean member is left to put in
pub bounds-gathered-gathered : goal.bounds-gathered-gathered
bounds-gathered-gathered c = omega (arith, gathered_room _ _ _ _ _ _ c.gather_dirty-gathered.ensures.dirty_ones c.in-Some.q c.in-Some.ensures)

pub overflow_add-gathered : goal.overflow_add-gathered
overflow_add-gathered c = omega (arith, gathered_room _ _ _ _ _ _ c.gather_dirty-gathered.ensures.dirty_ones c.in-Some.q c.in-Some.ensures)

pub returns-in-Some : goal.returns-in-Some
returns-in-Some c = rw (← c.of-block.ensures) (gathered_both _ _ _ _ _ _ c.gather_dirty-gathered.ensures.dirty_ones c.in-Some.q c.in-Some.ensures (omega arith))

pub returns-in_default : goal.returns-in_default
returns-in_default c = rw (← c.of-block.ensures, c.gather_dirty-gathered.ensures.no_clean_one) (gathered_dirty _ _ _ _ _ _ c.gather_dirty-gathered.ensures.dirty_ones c.in_default.ensures)
