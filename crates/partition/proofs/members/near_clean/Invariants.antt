-- `partition::members::near_clean` meets its contract. The invariant: no clean member is nearer than `distance`. Assumes nothing.
use Rattle.std.proofs.Common.{ℕ, ◌+◌, ◌<◌, ◌≡◌, true, get_or}
use Rattle.partition.specs.Members.{flag}
use Rattle.partition.proofs.members.near_clean.Given as goal

abbrev pub invariant-loop-distance : goal.invariant-loop-distance
invariant-loop-distance l =
    (q : ℕ) → q < l.middle + l.distance → l.middle < q + l.distance → q < l.states → get_or l.blocks.list q 0 ≡ l.block.0 → flag l.dirty q ≡ true
