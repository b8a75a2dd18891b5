-- `grouping::group` meets its contract. Profiles in their regions stand for the states' own entries. Assumes nothing.
use native.Mathlib.Omega.{arith}
use Rattle.grouping.proofs.Regions.{ready, grouped_profiles}
use Rattle.grouping.proofs.group.Goals as goal
use Rattle.theory.specs.Arithmetic.{arithmetic_number}

pub group_by_profile-requires-clause-ready : goal.group_by_profile-requires-clause-ready
group_by_profile-requires-clause-ready g c =
    let side = c.into_direction-direction in
    let s = c.sum_up_members in
    ready side.result c.args.table.now c.args.uses.now (rw side.ensures c.requires.uses) _ _ _ c.args.members.now s.new.ends s.new.entries (λ n. omega (arith, c.type_inv.members n)) s.ensures

pub returns : goal.returns
returns g c =
    let side = c.into_direction-direction in
    let s = c.sum_up_members in
    rw (← side.ensures) (grouped_profiles side.result c.args.table.now c.args.uses.now (rw side.ensures c.requires.uses) _ _ _ c.args.members.now s.new.ends s.new.entries (λ n. omega (arith, c.type_inv.members n))
    s.ensures _ _ (c.group_by_profile.ensures (arithmetic_number c.args.table.now.arithmetic)))
