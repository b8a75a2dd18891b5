-- `arith::number_of_code` meets its contract.
-- Assumes nothing.
use Rattle.std.proofs.Common.{arith, rules, ◌∙◌, w32, SFits}
use Rattle.std.proofs.lemmas.Int.{ints}
use Rattle.theory.specs.MaxPlus.{nothing, number}
use Rattle.arith.proofs.Cases.{number_of_modular, number_of_max_plus}
use Rattle.arith.proofs.Codes.{number_modular, number_meant}
use Rattle.arith.proofs.number_of_code.Goals as goal

pub returns-in-Modular : goal.returns-in-Modular
returns-in-Modular g c = rw (number_of_modular _ c.in-Modular.ensures) (number_modular c.args.code (omega arith))

pub returns-in-None : goal.returns-in-None
returns-in-None g c = rw (number_of_max_plus _ c.in-MaxPlus.ensures) (number_meant c.args.code nothing c.in-None.ensures)

pub returns-in-Some : goal.returns-in-Some
returns-in-Some g c =
    let fits : SFits w32 c.in-Some.z = search rules in
    rw (number_of_max_plus _ c.in-MaxPlus.ensures) (omega (arith, ints) ∙ number_meant c.args.code (number c.in-Some.z) c.in-Some.ensures)
