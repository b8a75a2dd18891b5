-- `collapse::put_blocks` meets its contract: a list that does not fit is refused. Assumes nothing.
use Rattle.std.proofs.Common.{ℕ, length-take, arith}
use Rattle.collapse.proofs.Fitting.{room_kept, blocks_short}
use Rattle.collapse.proofs.put_blocks.Goals as goal

pub returns-then-room-states-clause-answer : goal.returns-then-room-states-clause-answer
returns-then-room-states-clause-answer c = blocks_short _ _ (omega (arith, length-take {A = ℕ})) _ _

pub returns-then-room-states-clause-room : goal.returns-then-room-states-clause-room
returns-then-room-states-clause-room c = room_kept _ _ (omega (arith, length-take {A = ℕ}))
