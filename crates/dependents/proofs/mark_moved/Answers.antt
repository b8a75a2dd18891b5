-- `dependents::mark_moved` meets its contract. The invariant: what depends on the members so far, where they are moved, is marked. Assumes nothing.
use Rattle.std.proofs.Common.{◌≡◌, length, get_or, sym, ◌∙◌, length-append, arith}
use Rattle.std.proofs.lemmas.Slice.Zip.{zip_turn, zip_end}
use Rattle.dependents.proofs.Marking.{marking_none, marking_next, marking_skips, marking_less}
use Rattle.dependents.proofs.mark_moved.Goals as goal
use Rattle.dependents.proofs.mark_moved.Goals.{In-Some}

-- this member and its part
turn : (g : _) (c : In-Some g) → (c.in-Some.member.now ≡ get_or c.args.members.now (length c.loop-member.yielded) 0) × (c.in-Some.own.now ≡ get_or c.args.part.now (length c.loop-member.yielded) 0)
turn g c =
    let z = c.zip-member-items in
    let first = c.into_iter-member-iterator in
    let here = zip_turn c.args.members.now c.args.part.now c.loop-member.yielded first.result c.loop-member.member-iterator c.next.new.self c.next.result
    (rw (first.ensures.into_iter_gives, z.ensures.first) c.iter.ensures.rest) (rw first.ensures.into_iter_gives z.ensures.second.0) c.loop-member.yielded_by
    (c.in-Some.member, c.in-Some.own) c.in-Some.is c.next.ensures.steps in
    (here.2 0, here.3 0)

pub loop-member-init : goal.loop-member-init
loop-member-init g c = marking_none 0 0 _ _ (omega arith) (omega arith)

pub loop-member-preserved-then-own-keeper : goal.loop-member-preserved-then-own-keeper
loop-member-preserved-then-own-keeper g c =
    let here = turn g (goal.at.loop-member-preserved-then-own-keeper g c).In-Some in
    rw length-append (marking_next 0 (length c.loop-member.yielded) _ _ c.loop-member.dirty _ c.loop-member.invariant
    (marking_less _ _ _ _ c.mark.ensures (λ q h. rw here.0 h.1)))

pub loop-member-preserved : goal.loop-member-preserved
loop-member-preserved g c =
    let here = turn g (goal.at.loop-member-preserved g c).In-Some in
    rw length-append (marking_skips 0 (length c.loop-member.yielded) _ _ c.loop-member.dirty c.loop-member.invariant (λ q h. h.0 (sym here.1 ∙ c.if-own-keeper.false)))

pub returns : goal.returns
returns g c =
    let z = c.zip-member-items in
    let first = c.into_iter-member-iterator in
    let all = zip_end c.args.members.now c.args.part.now c.loop-member.yielded first.result c.loop-member.member-iterator c.next.new.self c.next.result
    (rw (first.ensures.into_iter_gives, z.ensures.first) c.iter.ensures.rest) (rw first.ensures.into_iter_gives z.ensures.second.0) c.loop-member.yielded_by
    c.in-None.is c.next.ensures.steps in
    let done : length c.loop-member.yielded ≡ length c.args.members.now = omega (arith, c.requires.few) in
    rw (← c.into_direction-direction.ensures) (rw done at c.loop-member.invariant)
