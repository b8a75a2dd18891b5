-- `grouping::comparing::group_by_profile` meets its contract. The invariant is `Grouping`: i of the members are in parts, each of which has a leader. Assumes nothing.
use Prim.Native.Nat.{ℕ, ◌≤◌, ◌<◌}
use mathlib.Core.Path.{◌≡◌, sym, ap, ◌∙◌, subst}
use native.Mathlib.Omega.{arith}
use lib.ListN.{length, get_or, take, length-set}
use Rattle.std.proofs.Common.{get_or-take, length-take-le}
use Rattle.grouping.specs.Groups.{profile_in, Ready, FirstSame}
use Rattle.grouping.proofs.Grouping.{found_among, grouping_joins, grouping_leads, grouping_ends}
use Rattle.grouping.proofs.comparing.group_by_profile.Goals as goal
use Rattle.grouping.proofs.comparing.group_by_profile.Goals.{in-Some, in-None}

pub find_part-requires-clause-leaders : goal.find_part-requires-clause-leaders
find_part-requires-clause-leaders c = λ m h.
    let a = c.args in
    let l = c.loop-i in
    let some : l.parts ≤ length l.leaders = omega arith in
    let used : m < l.parts = omega (arith, length-take-le l.parts l.leaders some) in
    let r = (l.invariant.grouping 0).leads m used in
    subst (Ready a.uses.now a.ends.now a.entries.now) (sym (get_or-take l.parts l.leaders m 0 used ∙ r.2)) (c.requires.ready r.0 (omega (arith, r.1)))

pub overflow_cast-part : goal.overflow_cast-part
overflow_cast-part c =
    let l = c.loop-i in
    let some : l.parts ≤ length l.leaders = omega arith in
    omega (arith, (c.in-Some.ensures 0).0, length-take-le l.parts l.leaders some)

pub loop-i-preserved : goal.loop-i-preserved
loop-i-preserved c =
    let a = c.args in
    let l = c.loop-i in
    let p = get_or a.members.now l.i 0 in
    let profile = profile_in a.uses.now a.ends.now a.entries.now in
    let inside : l.i < 256 = omega arith in
    let room : length l.leaders ≡ 256 = omega arith in
    let some : l.parts ≤ length l.leaders = omega arith in
    elim c.match-find_part.branch [
      | in-Some w ↦
          let long : length l.part ≡ 256 = omega (arith, ap length w.part-is, length-set {A = ℕ}) in
          let m = w.in-Some.m in
          let known : m < l.parts = omega (arith, (w.in-Some.ensures 0).0, length-take-le l.parts l.leaders some) in
          let first : (n : ℕ) → FirstSame n profile p l.parts l.leaders m = λ n. found_among n profile p l.parts m l.leaders some (w.in-Some.ensures n).1 in
          record {
            few = rw w.parts-is (omega arith);
            grouping = λ n. rw (w.part-is, w.leaders-is, w.parts-is) (grouping_joins n profile a.members.now l.i l.parts l.leaders l.part (l.invariant.grouping n) long inside m known ((first n).same known));
          }
      | in-None w ↦
          let long : length l.part ≡ 256 = omega (arith, ap length w.part-is, length-set {A = ℕ}) in
          let first : (n : ℕ) → FirstSame n profile p l.parts l.leaders (length (take l.parts l.leaders)) = λ n. found_among n profile p l.parts _ l.leaders some (w.in-None.ensures n) in
          record {
            few = rw w.parts-is (omega arith);
            grouping = λ n. rw (w.part-is, w.leaders-is, w.parts-is) (grouping_leads n profile a.members.now l.i l.parts l.leaders l.part (l.invariant.grouping n) long inside room l.invariant.few
                (λ m h. (first n).differ m (omega (arith, length-take-le l.parts l.leaders some))));
          }
    ]

pub returns : goal.returns
returns c =
    let a = c.args in
    let l = c.loop-i in
    let done : l.i ≡ length a.members.now = omega (arith, c.loop-i-test.false) in
    λ n. grouping_ends n _ a.members.now (length a.members.now) l.parts l.leaders l.part (rw done at (l.invariant.grouping n)) (omega arith)
