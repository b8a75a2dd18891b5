-- `weigh::clear_row` meets its contract.
-- Assumes nothing.
use Rattle.std.proofs.Common.{◌*◌, pos}
use Rattle.weigh.proofs.Bounds.{carried, stands_zero}
use Rattle.weigh.proofs.Replacing.{replaced_fill}
use Rattle.weigh.proofs.clear_row.Goals as goal
use Rattle.theory.specs.Arithmetic.{arithmetic_number}

pub returns : goal.returns
returns c =
    let t = c.args.t.now in
    let z = c.number_of_code-zero in
    replaced_fill (pos 0) (c.args.at * t.states) t.states _ c.args.sheet.now c.fill.new.self z.result c.requires
    (rw (carried z.result z.type_inv) at (c.fill.ensures.after (λ y h. h)))
    (λ q l. stands_zero (arithmetic_number t.arithmetic) 16385 z.result z.ensures)
