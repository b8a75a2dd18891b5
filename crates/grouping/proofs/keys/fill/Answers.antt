-- `grouping::keys::fill` meets its contract. The invariant is `Filling`: the entries from lo to i stand in their places. Assumes nothing.
use mathlib.Core.Path.{◌≡◌}
use native.Mathlib.Omega.{arith}
use lib.ListN.{length}
use Rattle.grouping.proofs.Filling.{filling_ends}
use Rattle.grouping.proofs.keys.fill.Goals as goal

pub returns : goal.returns
returns c =
    let long : length c.args.uses.now.list ≡ 16000 = omega arith in
    filling_ends _ _ _ c.args.uses.now.list _ _ c.args.region.ordered c.args.region.inside long _ _ c.loop-i.i c.loop-i.invariant c.loop-i-test.false
