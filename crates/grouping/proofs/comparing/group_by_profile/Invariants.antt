-- `grouping::comparing::group_by_profile` meets its contract. The invariant is `Grouping`: i of the members are in parts, each of which has a leader. Assumes nothing.
use Prim.Native.Nat.{ℕ, ◌≤◌}
use Rattle.grouping.specs.Groups.{profile_in}
use Rattle.grouping.proofs.Grouping.{Grouping}
use Rattle.grouping.proofs.comparing.group_by_profile.Given as goal

abbrev pub invariant-loop-i : goal.invariant-loop-i
invariant-loop-i l =
    record {
      few : l.parts ≤ l.i;
      grouping : (a : ℕ) → Grouping a (profile_in l.uses l.ends l.entries) l.members l.i l.parts l.leaders l.part;
    }
