-- `adding::add_up` meets its contract: the entries of the named transitions, added up, are the transitions of the collapse.
-- Assumes nothing.
use Rattle.std.proofs.Common.{arith}
use Rattle.adding.proofs.Whole.{few_blocks, readable, keys_known, made_collapsed}
use Rattle.adding.proofs.add_up.Goals as goal

pub final_codes-finals-requires-clause-blocks : goal.final_codes-finals-requires-clause-blocks
final_codes-finals-requires-clause-blocks g c =
    let side = c.into_direction-direction in
    few_blocks side.result c.args.table.now c.args.blocks.now.list c.args.number (rw side.ensures c.requires)

pub gather-many-requires : goal.gather-many-requires
gather-many-requires g c =
    let side = c.into_direction-direction in
    readable side.result c.args.table.now c.args.blocks.now.list c.args.number (rw side.ensures c.requires)

pub invariant_of-region-clause-inside : goal.invariant_of-region-clause-inside
invariant_of-region-clause-inside g c =
    let side = c.into_direction-direction in
    let count = (readable side.result c.args.table.now c.args.blocks.now.list c.args.number (rw side.ensures c.requires)).0 in
    omega (arith, c.gather-many.ensures.few)

pub table_with-requires-clause-few : goal.table_with-requires-clause-few
table_with-requires-clause-few g c =
    let side = c.into_direction-direction in
    let count = (readable side.result c.args.table.now c.args.blocks.now.list c.args.number (rw side.ensures c.requires)).0 in
    omega (arith, c.gather-many.ensures.few, c.sum_up-end.ensures.within)

pub table_with-requires-clause-known : goal.table_with-requires-clause-known
table_with-requires-clause-known g c =
    let side = c.into_direction-direction in
    keys_known side.result c.args.table.now c.args.blocks.now.list c.args.number (rw side.ensures c.requires) c.name_members-names.result.list c.name_members-names.ensures
    _ _ c.gather-many.result c.gather-many.ensures _ _ c.sum_up-end.result c.sum_up-end.ensures

pub returns : goal.returns
returns g c =
    let side = c.into_direction-direction in
    rw (← side.ensures) (made_collapsed side.result c.args.table.now c.args.blocks.now.list c.args.number (rw side.ensures c.requires) c.name_members-names.result.list c.name_members-names.ensures
    _ _ c.gather-many.result c.gather-many.ensures _ _ c.sum_up-end.result c.sum_up-end.ensures
    c.final_codes-finals.result (omega arith) c.final_codes-finals.ensures _ c.table_with.ensures.table c.table_with.ensures.symbols)
