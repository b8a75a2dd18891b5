-- `partition::numbering::start` meets its contract. The invariant is the promise itself, for the states below q. Assumes nothing.
use Rattle.std.proofs.Common.{arith, ◌<◌}
use Rattle.partition.proofs.Starting.{starting_shares, starting_new}
use Rattle.partition.proofs.numbering.start.Goals.{in-Some, in-None}
use Rattle.partition.proofs.numbering.start.Goals as goal

pub loop-q-preserved : goal.loop-q-preserved
loop-q-preserved g c =
    let so_far = c.loop-q.invariant in
    let inside : c.loop-q.q < 256 = omega arith in
    elim c.match-first_alike.branch [
      | in-Some w ↦ rw (w.list-is, w.number-is) (omega arith, starting_shares _ _ _ _ _ so_far.1 inside w.in-Some.p w.in-Some.ensures)
      | in-None w ↦ rw (w.list-is, w.number-is) (omega arith, starting_new _ _ _ _ _ so_far.1 inside w.in-None.ensures)
    ]
