-- `Weigher::fill_row` meets its contract. The invariant is `Adding`.
-- Assumes nothing.
use Rattle.std.proofs.Common.{arith}
use Rattle.weigh.proofs.Adding.{adding_starts, next_ready, next_good, adding_goes_on, cleared_ready, adding_ends}
use Rattle.weigh.proofs.Weigher.fill_row.Goals as goal

pub loop-j-init : goal.loop-j-init
loop-j-init c = adding_starts c.clear_row.ensures

pub add_transition-requires-clause-ready : goal.add_transition-requires-clause-ready
add_transition-requires-clause-ready c = next_ready (cleared_ready c.requires.ready c.clear_row.ensures) c.loop-j.invariant c.loop-j-test.true

pub add_transition-requires-clause-good : goal.add_transition-requires-clause-good
add_transition-requires-clause-good c = next_good (cleared_ready c.requires.ready c.clear_row.ensures) c.loop-j.invariant c.loop-j-test.true

pub loop-j-preserved : goal.loop-j-preserved
loop-j-preserved c = adding_goes_on (cleared_ready c.requires.ready c.clear_row.ensures) c.loop-j.invariant c.loop-j-test.true c.add_transition.ensures

pub returns : goal.returns
returns c = adding_ends c.requires.ready c.clear_row.ensures c.loop-j.invariant (omega arith)
