-- `partition::members::first_dirty` meets its contract. The invariant: no state below q is dirty. Assumes nothing.
use Rattle.std.proofs.Common.{ℕ, ◌<◌, ◌≡◌, false}
use Rattle.partition.specs.Members.{flag}
use Rattle.partition.proofs.members.first_dirty.Given as goal

abbrev pub invariant-loop-q : goal.invariant-loop-q
invariant-loop-q l = (k : ℕ) → k < l.q → flag l.dirty k ≡ false
