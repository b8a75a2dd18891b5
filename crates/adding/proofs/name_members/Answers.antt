-- `adding::name_members` meets its contract: of the states below q the greatest in each block is named.
-- Assumes nothing.
use Rattle.std.proofs.Common.{rules}
use Rattle.theory.specs.Blocks.{block_of}
use Rattle.adding.proofs.Naming.{naming_starts, naming_goes_on}
use Rattle.adding.proofs.name_members.Goals as goal

pub loop-q-init : goal.loop-q-init
loop-q-init c = rw c.new-names.ensures (naming_starts (block_of c.args.blocks.now.list))

pub loop-q-preserved : goal.loop-q-preserved
loop-q-preserved c =
    let l = c.loop-q in
    rw c.set.ensures (naming_goes_on _ l.names.list l.q l.invariant _ c.of.ensures (search rules))
