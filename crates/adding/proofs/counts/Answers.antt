-- `adding::counts` meets its contract: forward, the flags of the children say whether they are named.
-- Assumes nothing.
use Rattle.std.proofs.Common.{◌∙◌, ap}
use Rattle.adding.specs.Named.{all_named}
use Rattle.adding.proofs.Children.{all_flagged}
use Rattle.adding.proofs.counts.Goals as goal

pub returns-in-Forward : goal.returns-in-Forward
returns-in-Forward c b n by =
    rw c.in-Forward.is (
    c.are_named.ensures.flags
    ∙ all_flagged b n c.args.named.now by c.children_of.result.now c.are_named.ensures.bytes
    ∙ ap (all_named b n) c.children_of.ensures.own
    )
