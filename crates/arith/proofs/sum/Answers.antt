-- `arith::sum` meets its contract.
-- Assumes nothing.
use Rattle.std.proofs.Common.{refl, ◌∙◌, arith}
use Rattle.std.proofs.lemmas.Int.{ints, clamps}
use Rattle.arith.proofs.Cases.{number_of_modular, number_of_max_plus}
use Rattle.arith.proofs.Sums.{sum_modular, sum_greater}
use Rattle.arith.proofs.sum.Goals as goal

pub returns-in-Modular : goal.returns-in-Modular
returns-in-Modular g c =
    let a_stands = rw (number_of_modular _ c.in-Modular.ensures) at c.requires.a_stands in
    let b_stands = rw (number_of_modular _ c.in-Modular.ensures) at c.requires.b_stands in
    rw (number_of_modular _ c.in-Modular.ensures) (sum_modular c.args.a c.args.b c.ranges.a c.ranges.b a_stands b_stands _ refl)

pub returns-in-MaxPlus : goal.returns-in-MaxPlus
returns-in-MaxPlus g c = rw (number_of_max_plus _ c.in-MaxPlus.ensures) (omega (arith, ints, clamps) ∙ sum_greater c.args.a c.args.b c.ranges.a c.ranges.b)
