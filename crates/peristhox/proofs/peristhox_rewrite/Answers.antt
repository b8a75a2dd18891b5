-- `peristhox::peristhox_rewrite` meets its contract: the call's answer, packed. Assumes nothing.
use Rattle.peristhox.specs.Figures.{rewrite_fits}
use Rattle.peristhox.proofs.peristhox_rewrite.Goals as goal

pub pack-requires : goal.pack-requires
pack-requires c = rw c.rewrite.ensures.answer_is (rewrite_fits c.args.table.now (λ i. (c.type_inv.table i).fits) c.args.room.now)
