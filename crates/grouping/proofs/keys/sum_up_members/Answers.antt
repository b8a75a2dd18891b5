-- `grouping::keys::sum_up_members` meets its contract. The invariant: the profiles of the members so far are there. Assumes nothing.
use mathlib.Core.Path.{◌≡◌}
use native.Mathlib.Omega.{arith}
use lib.ListN.{length, get_or}
use Rattle.theory.specs.Blocks.{block_of}
use Rattle.grouping.specs.Keys.{entry_in}
use Rattle.grouping.proofs.Profiling.{starts_inside, profiling_goes_on}
use Rattle.grouping.proofs.keys.sum_up_members.Goals as goal

pub overflow_cast-ends : goal.overflow_cast-ends
overflow_cast-ends c =
    let i = starts_inside c.args.direction c.args.table.now c.args.uses.now c.requires (get_or c.args.members.now c.loop-p.p-index 0) (omega arith) in
    omega (arith, i.1, i.2, c.sum_up_one-end.ensures.profiled.within)

pub loop-p-preserved : goal.loop-p-preserved
loop-p-preserved c =
    let a = c.args in
    let l = c.loop-p in
    let s = c.sum_up_one-end in
    let long : length l.ends ≡ 256 = omega arith in
    profiling_goes_on a.direction a.table.now a.uses.now c.requires (entry_in a.direction a.table.now (block_of a.blocks.now.list)) _ a.members.now (λ n. omega (arith, c.type_inv.members n))
    l.ends l.entries s.new.entries l.p-index s.result long l.invariant s.ensures.profiled s.ensures.keys_kept s.ensures.codes_kept
