-- `peristhox::peristhox_shrink` meets its contract: the call's answer, packed. Assumes nothing.
use Rattle.std.proofs.Common.{◌≡◌, rules}
use Rattle.collapse.specs.Promises.{answer_of}
use Rattle.peristhox.specs.Shrunken.{shrink_fits}
use Rattle.peristhox.proofs.peristhox_shrink.Goals as goal

pub pack-requires : goal.pack-requires
pack-requires c =
    let same : c.map.result ≡ answer_of c.shrink-counted.result = search rules in
    rw same (shrink_fits c.args.table.now (λ i. (c.type_inv.table i).fits) _ _ c.args.direction _ c.shrink-counted.ensures)
