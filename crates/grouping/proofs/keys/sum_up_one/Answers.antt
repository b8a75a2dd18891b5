-- `grouping::keys::sum_up_one` meets its contract. What `fill` leaves in the region of p is added up there. Assumes nothing.
use native.Mathlib.Numerals.{add-one}
use native.Mathlib.Omega.{arith}
use Rattle.grouping.proofs.Profiling.{profiled, starts_inside, rows_of}
use Rattle.grouping.proofs.keys.sum_up_one.Goals as goal

pub invariant_of-region-clause-inside : goal.invariant_of-region-clause-inside
invariant_of-region-clause-inside c =
    let i = starts_inside c.args.direction c.args.table.now c.args.uses.now c.requires c.args.p.0 (omega arith) in
    rw add-one (omega (arith, i.1, i.2))

pub fill-requires : goal.fill-requires
fill-requires c = λ i l h.
    rows_of c.args.direction c.args.table.now c.args.uses.now c.requires c.args.p.0 (omega arith) i (rw add-one at h)

pub returns-clause-profiled : goal.returns-clause-profiled
returns-clause-profiled c = rw (← add-one) (profiled _ _ _ _ _ _ _ _ _ _ _ c.fill.ensures c.sum_up.ensures)
