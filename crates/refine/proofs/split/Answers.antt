-- `refine::split` meets its contract. The laws are `parted` and `parts_split`: members and their parts make a split. Assumes nothing.
use Rattle.std.proofs.Common.{arith, refl, ◌≤◌, length}
use Rattle.refine.proofs.Splitting.{members_front, parted, parts_split}
use Rattle.refine.proofs.split.Goals as goal

pub number_parts-requires-clause-parted : goal.number_parts-requires-clause-parted
number_parts-requires-clause-parted c =
    let inside : c.gather-gathered.result.count ≤ length c.gather-gathered.result.found = omega (arith, c.gather-gathered.ensures.few) in
    parted c.requires.numbered (members_front c.gather-gathered.ensures inside) c.group-parts.ensures c.args.first.0 c.requires.known refl c.requires.first_is_dirty c.requires.few

pub returns : goal.returns
returns c =
    let inside : c.gather-gathered.result.count ≤ length c.gather-gathered.result.found = omega (arith, c.gather-gathered.ensures.few) in
    rw c.number_parts.ensures.total
    (parts_split c.requires.numbered (members_front c.gather-gathered.ensures inside) c.group-parts.ensures c.args.first.0 c.requires.known refl c.requires.first_is_dirty c.requires.settled c.number_parts.ensures.numbered)
