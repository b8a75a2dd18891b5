-- `partition::members::count_dirty` meets its contract. The invariant: the dirty states below q are counted. Assumes nothing.
use Rattle.std.proofs.Common.{◌≡◌}
use Rattle.partition.specs.Members.{dirty_count}
use Rattle.partition.proofs.members.count_dirty.Given as goal

abbrev pub invariant-loop-q : goal.invariant-loop-q
invariant-loop-q l = l.count ≡ dirty_count l.dirty l.q
