-- `partition::parts::renumber` meets its contract. Assumes nothing.
use Rattle.std.proofs.Common.{◌≡◌, ◌<◌, length, get_or, length-append, arith, rules}
use Rattle.std.proofs.lemmas.Slice.Zip.{zip_turn}
use Rattle.partition.proofs.Renumbering.{renumbering_goes_on}
use Rattle.partition.proofs.parts.renumber.Goals as goal
use Rattle.partition.proofs.parts.renumber.Goals.{In-Some}

-- this member and its part
turn : (c : In-Some) → (length c.loop-p.yielded < length c.args.members.now) × (c.in-Some.p.now ≡ get_or c.args.members.now (length c.loop-p.yielded) 0)
    × (c.in-Some.m.now ≡ get_or c.args.part.now (length c.loop-p.yielded) 0)
turn c =
    let z = c.zip-p-items in
    let first = c.into_iter-p-iterator in
    let here = zip_turn c.args.members.now c.args.part.now c.loop-p.yielded first.result c.loop-p.p-iterator c.next.new.self c.next.result
    (rw (first.ensures.into_iter_gives, z.ensures.first) c.iter.ensures.rest) (rw first.ensures.into_iter_gives z.ensures.second.0) c.loop-p.yielded_by
    (c.in-Some.p, c.in-Some.m) c.in-Some.is c.next.ensures.steps in
    (here.0, here.2 0, here.3 0)

pub loop-p-preserved : goal.loop-p-preserved
loop-p-preserved c =
    let here = turn (goal.at.loop-p-preserved c).In-Some in
    let i = length c.loop-p.yielded in
    let byte : get_or c.args.members.now i 0 < 256 = search rules in
    rw length-append (renumbering_goes_on _ _ _ _ _ _ _ i _ _ c.loop-p.invariant _ _ here.1 (omega (arith, here.1, byte))
    (rw (← here.2) c.number_of.ensures) (λ k l e. c.requires.one_part k i (omega (arith, here.0)) here.0 e))
