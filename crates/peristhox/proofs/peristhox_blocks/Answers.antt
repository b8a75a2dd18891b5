-- `peristhox::peristhox_blocks` meets its contract: the call's answer, packed. Assumes nothing.
use Rattle.peristhox.specs.Shrunken.{blocks_fit}
use Rattle.peristhox.proofs.peristhox_blocks.Goals as goal

pub pack-requires : goal.pack-requires
pack-requires c = blocks_fit c.args.table.now (λ i. (c.type_inv.table i).fits) _ _ c.args.direction _ c.blocks-2.ensures
