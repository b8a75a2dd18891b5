-- `adding::unpack_children` meets its contract: the children from place k on stand, and `rest` has those before.
-- Assumes nothing.
use Rattle.std.proofs.Common.{◌≡◌, ◌++◌, length, drop}
use Rattle.adding.specs.Keys.{digits}
use Rattle.adding.proofs.unpack_children.Given as goal

abbrev pub invariant-loop-k : goal.invariant-loop-k
invariant-loop-k l = digits l.k l.rest ++ drop l.k l.children ≡ digits (length l.children) l.packed
