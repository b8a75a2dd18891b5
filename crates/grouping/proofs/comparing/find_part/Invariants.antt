-- `grouping::comparing::find_part` meets its contract. The invariant: no part below m has a leader with p's profile. Assumes nothing.
use Prim.Native.Nat.{ℕ, ◌<◌}
use lib.ListN.{get_or}
use Rattle.grouping.specs.Groups.{Same, profile_in}
use Rattle.grouping.proofs.comparing.find_part.Given as goal

abbrev pub invariant-loop-m : goal.invariant-loop-m
invariant-loop-m l =
    (a k : ℕ) → k < l.m → Same a (profile_in l.uses l.ends l.entries (get_or l.leaders k 0)) (profile_in l.uses l.ends l.entries l.p.0) → ⊥
