-- `adding::unpack_all` meets its contract: the entries before entry i are transitions.
-- Assumes nothing.
use Rattle.adding.proofs.Unpacking.{unpacking_in_goes_on, unpacking_in_ends}
use Rattle.adding.proofs.unpack_all.Goals as goal

pub loop-i-preserved : goal.loop-i-preserved
loop-i-preserved c =
    let l = c.loop-i in
    unpacking_in_goes_on _ _ l.next l.i l.invariant _ (c.requires.known l.i c.loop-i-test.true) c.unpack.ensures.put c.unpack.ensures.head

pub returns-clause-unpacked : goal.returns-clause-unpacked
returns-clause-unpacked c = unpacking_in_ends _ _ c.loop-i.next c.loop-i.i c.loop-i.invariant c.loop-i-test.false
