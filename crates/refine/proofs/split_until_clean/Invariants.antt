-- `refine::split_until_clean` meets its contract. The invariant is `Splits`: splits have come to the present blocks. The measure falls since
-- each split makes more blocks or fewer dirty states. Assumes nothing.
use Rattle.dependents.specs.Tables.{DependsIn}
use Rattle.refine.specs.Sides.{profiles_in}
use Rattle.refine.specs.Splits.{Splits}
use Rattle.refine.proofs.Repeating.{measure}
use Rattle.refine.proofs.split_until_clean.Given as goal
use Rattle.theory.specs.Arithmetic.{arithmetic_number}

abbrev pub invariant-loop-first : goal.invariant-loop-first
invariant-loop-first l =
    Splits (arithmetic_number l.table.arithmetic) (profiles_in l.direction l.table l.own) (DependsIn l.direction l.table l.others)
    l.table.states l.initial.present.blocks.list l.initial.present.number l.present.blocks.list l.dirty l.present.number

abbrev pub decreases-loop-first : goal.decreases-loop-first
decreases-loop-first l = measure l.table.states l.present.number l.dirty
