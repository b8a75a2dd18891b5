-- `refine::split_until_clean` meets its contract. The invariant is `Splits`: splits have come to the present blocks. The measure falls since
-- each split makes more blocks or fewer dirty states. Assumes nothing.
use Rattle.refine.specs.Splits.{none, another}
use Rattle.refine.proofs.Repeating.{splits_numbered, split_less}
use Rattle.refine.proofs.split_until_clean.Goals as goal

pub loop-first-init : goal.loop-first-init
loop-first-init c = none

pub split-requires-clause-numbered : goal.split-requires-clause-numbered
split-requires-clause-numbered c = splits_numbered c.requires.numbered c.loop-first.invariant

pub loop-first-preserved : goal.loop-first-preserved
loop-first-preserved c = another c.loop-first.invariant c.split.ensures

pub loop-first-smaller : goal.loop-first-smaller
loop-first-smaller c = split_less c.split.ensures
