-- `Weigher::add_transition` meets its contract.
-- Assumes nothing.
use Rattle.std.proofs.Common.{◌+◌, ◌*◌, ap, pos, get_or, set, arith}
use Rattle.weigh.proofs.Bounds.{carried, stands_number, stands_sum}
use Rattle.weigh.proofs.Weigher.add_transition.Goals as goal
use Rattle.theory.specs.Arithmetic.{arithmetic_number}

pub sum-requires : goal.sum-requires
sum-requires c =
    let t = c.args.self.table.now in
    let here = get_or c.args.sheet.now (c.args.row.at * t.states + get_or t.target c.args.j 0) (pos 0) in
    let x = c.product_of-x in
    rw (carried here (omega arith), carried x.result x.type_inv)
    (record {
      a_stands = stands_number (arithmetic_number t.arithmetic) 16385 (omega arith) _ _ c.requires.good;
      b_stands = stands_number (arithmetic_number t.arithmetic) 16385 (omega arith) _ x.result x.ensures;
    })

pub returns : goal.returns
returns c =
    let t = c.args.self.table.now in
    let before = c.args.sheet.now in
    let place = c.args.row.at * t.states + get_or t.target c.args.j 0 in
    let x = c.product_of-x in
    let sum = c.sum in
    let stands = stands_sum (arithmetic_number t.arithmetic) 16385 (omega arith) _ _ _ x.result c.requires.good x.ensures sum.result (rw (carried (get_or before place (pos 0)) (omega arith), carried x.result x.type_inv) at sum.ensures) in
    rw (carried sum.result sum.type_inv) record { stored = ap (set before place) stands.number; bounded = stands.bounded }
