-- `weigh::root_weight` meets its contract. The invariant: x stands for the sum over the states so far.
-- Assumes nothing.
use Rattle.std.proofs.Common.{length}
use Rattle.weigh.specs.Numbers.{StandsFor}
use Rattle.weigh.specs.Rows.{final_sum}
use Rattle.weigh.proofs.root_weight.Given as goal
use Rattle.theory.specs.Arithmetic.{arithmetic_number}

abbrev pub invariant-loop-weight : goal.invariant-loop-weight
invariant-loop-weight l =
    StandsFor (arithmetic_number l.t.arithmetic) 4097 (final_sum (arithmetic_number l.t.arithmetic) (length l.yielded) l.t.finals l.sheet) l.x
