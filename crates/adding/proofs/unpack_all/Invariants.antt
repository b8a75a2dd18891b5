-- `adding::unpack_all` meets its contract: the entries before entry i are transitions.
-- Assumes nothing.
use Rattle.adding.proofs.Unpacking.{UnpackingIn}
use Rattle.adding.proofs.unpack_all.Given as goal

abbrev pub invariant-loop-i : goal.invariant-loop-i
invariant-loop-i l = UnpackingIn l.entries l.initial.next l.next l.i
