-- `partition::members::count_dirty` meets its contract. The invariant: the dirty states below q are counted. Assumes nothing.
use Rattle.std.proofs.Common.{◌≡◌, sym, arith}
use Rattle.partition.proofs.Counting.{counting_dirty, counting_clean, count_few, count_none}
use Rattle.partition.proofs.members.count_dirty.Goals.{then-dirty-q, else-dirty-q}
use Rattle.partition.proofs.members.count_dirty.Goals as goal

pub loop-q-init : goal.loop-q-init
loop-q-init c = sym (count_none c.args.dirty.now c.args.first c.requires.clean_before)

pub overflow_add-count : goal.overflow_add-count
overflow_add-count c = omega (arith, count_few c.args.dirty.now c.loop-q.q)

pub loop-q-preserved : goal.loop-q-preserved
loop-q-preserved c =
    let dirty = c.args.dirty.now in
    let l = c.loop-q in
    elim c.if-dirty-q.branch [
      | then-dirty-q w ↦ omega (arith, w.count-is, counting_dirty dirty l.q w.if-dirty-q.true)
      | else-dirty-q w ↦ omega (arith, w.count-is, counting_clean dirty l.q w.if-dirty-q.false)
    ]

pub returns : goal.returns
returns c =
    let l = c.loop-q in
    let done : l.q ≡ c.args.states = omega arith in
    rw done at l.invariant
