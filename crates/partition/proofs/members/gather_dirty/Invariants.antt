-- `partition::members::gather_dirty` meets its contract. The invariant is `Gathering`: the dirty members below q are found, and the number
-- of dirty states from q on is left; where none is left, all dirty members are found. Assumes nothing.
use Rattle.std.proofs.Common.{◌≡◌}
use Rattle.partition.specs.Members.{DirtyMembers}
use Rattle.partition.proofs.Gathering.{Gathering}
use Rattle.partition.proofs.members.gather_dirty.Given as goal

abbrev pub invariant-loop-q : goal.invariant-loop-q
invariant-loop-q l =
    Gathering l.block.0 l.blocks.list l.dirty l.states l.found l.left l.count l.q × (l.left ≡ 0 → DirtyMembers l.block.0 l.states l.blocks.list l.dirty l.found l.count)
