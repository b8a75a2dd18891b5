-- `arith::sum_of_codes` meets its contract.
-- Assumes nothing.
use Rattle.std.proofs.Common.{arith}
use Rattle.arith.proofs.Cases.{number_of_modular, number_some}
use Rattle.arith.proofs.Sums.{code_right, code_left}
use Rattle.arith.proofs.sum_of_codes.Goals as goal

pub returns-in-Modular : goal.returns-in-Modular
returns-in-Modular g c = rw (number_of_modular _ c.in-Modular.ensures) (omega arith)

pub returns-then-number_of_code : goal.returns-then-number_of_code
returns-then-number_of_code g c =
    let x = c.number_of_code in
    let y = c.number_of_code-in-MaxPlus in
    code_right c.args.a c.args.b (omega arith) (omega arith) x.result y.result (record { sfits = x.type_inv }) (record { sfits = y.type_inv }) x.ensures y.ensures _ (number_some _ c.in-MaxPlus.ensures) c.if-number_of_code.true

pub returns-else-number_of_code : goal.returns-else-number_of_code
returns-else-number_of_code g c =
    let x = c.number_of_code in
    let y = c.number_of_code-in-MaxPlus in
    code_left c.args.a c.args.b (omega arith) (omega arith) x.result y.result (record { sfits = x.type_inv }) (record { sfits = y.type_inv }) x.ensures y.ensures _ (number_some _ c.in-MaxPlus.ensures) c.if-number_of_code.false
