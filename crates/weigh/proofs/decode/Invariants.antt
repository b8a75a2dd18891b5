-- `weigh::decode` meets its contract. The invariant: j numbers are stored.
-- Assumes nothing.
use Rattle.std.proofs.Common.{pos, get_or}
use Rattle.theory.specs.Arithmetic.{arithmetic_number, meaning}
use Rattle.weigh.specs.Numbers.{StandsFor}
use Rattle.weigh.specs.Steps.{Replaced}
use Rattle.weigh.proofs.decode.Given as goal

abbrev pub invariant-loop-j : goal.invariant-loop-j
invariant-loop-j l =
    Replaced (pos 0) 0 l.j (λ i. StandsFor (arithmetic_number l.t.arithmetic) 1 (meaning (arithmetic_number l.t.arithmetic) (get_or l.t.code i 0))) l.initial.numbers l.numbers
