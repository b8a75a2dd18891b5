-- `peristhox::peristhox_collapse` meets its contract: the call's answer, packed. Assumes nothing.
use Rattle.std.proofs.Common.{◌≡◌, rules}
use Rattle.collapse.specs.Promises.{answer_of}
use Rattle.peristhox.specs.Shrunken.{collapse_fits}
use Rattle.peristhox.proofs.peristhox_collapse.Goals as goal

pub pack-requires : goal.pack-requires
pack-requires c =
    let same : c.map.result ≡ answer_of c.collapse-counted.result = search rules in
    rw same (collapse_fits c.args.table.now (λ i. (c.type_inv.table i).fits) _ _ c.args.direction _ c.collapse-counted.ensures)
