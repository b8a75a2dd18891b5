-- `partition::NameList::named` meets its contract: of the states below q it is told whether they are named. Assumes nothing.
use Rattle.std.proofs.Common.{arith, refl}
use Rattle.partition.specs.Filling.{filling_starts, filling_goes_on}
use Rattle.partition.proofs.NameList.named.Goals as goal

pub loop-q-init : goal.loop-q-init
loop-q-init c = filling_starts _ _ _

pub loop-q-preserved : goal.loop-q-preserved
loop-q-preserved c = filling_goes_on _ _ _ c.loop-q.named c.loop-q.q c.loop-q.invariant c.loop-q-test.true (omega arith) _ refl
