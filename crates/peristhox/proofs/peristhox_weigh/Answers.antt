-- `peristhox::peristhox_weigh` meets its contract: the call's answer, packed, and its weight where one is given. Assumes nothing.
use Rattle.std.proofs.Common.{◌≡◌, ap, ◌∙◌, rules}
use Rattle.weigh.specs.Asked.{weighed_asked}
use Rattle.peristhox.specs.Faces.{nodes_of}
use Rattle.peristhox.specs.Figures.{weigh_fits}
use Rattle.peristhox.proofs.peristhox_weigh.Goals as goal

pub pack-requires : goal.pack-requires
pack-requires c =
    let w = c.weigh-weighing in
    let a = c.args in
    let same : c.map.result ≡ nodes_of w.result = search rules in
    rw (same ∙ ap nodes_of (weighed_asked a.tree.now _ w.result _ a.table.now w.ensures).0) (weigh_fits a.table.now a.tree.now _ (λ i. (c.type_inv.table i).fits))
