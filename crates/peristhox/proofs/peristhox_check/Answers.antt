-- `peristhox::peristhox_check` meets its contract: the call's answer, packed. Assumes nothing.
use Rattle.peristhox.specs.Figures.{check_fits}
use Rattle.peristhox.proofs.peristhox_check.Goals as goal

pub pack-requires : goal.pack-requires
pack-requires c = rw c.check.ensures.answer_is (check_fits c.args.table.now (λ i. (c.type_inv.table i).fits))
