-- `adding::add_finals` meets its contract: what is added so far, and the final weights that are left, make up the sum.
-- Assumes nothing.
use Rattle.std.proofs.Common.{rules}
use Rattle.adding.proofs.Totals.{totalling_starts, totalling_goes_on, totalling_ends}
use Rattle.adding.proofs.add_finals.Goals as goal

pub loop-q-init : goal.loop-q-init
loop-q-init c = totalling_starts _ _ _ _

pub loop-q-preserved : goal.loop-q-preserved
loop-q-preserved c =
    let l = c.loop-q in
    totalling_goes_on _ _ _ _ l.sums l.q l.invariant c.loop-q-test.true _ _ c.of-at.ensures (search rules) c.sum_of_codes.ensures

pub returns : goal.returns
returns c = totalling_ends _ _ _ _ c.loop-q.sums c.loop-q.q c.loop-q.invariant c.loop-q-test.false
