-- `weigh::root_weight` meets its contract. The invariant: x stands for the sum over the states so far.
-- Assumes nothing.
use Rattle.std.proofs.Common.{◌≡◌, ◌<◌, ◌∙◌, length, length-append, take, get_or, pos, arith}
use Rattle.std.proofs.lemmas.Slice.Zip.{zip_turn, zip_end}
use lib.Seq.{length-take-le, get_or-take}
use Rattle.theory.specs.Arithmetic.{arithmetic_number, arithmetic as semiring, meaning}
use Rattle.arith.specs.Numbers.{weight_of}
use Rattle.weigh.specs.Numbers.{StandsFor, Good}
use Rattle.weigh.proofs.Bounds.{carried, stands_code, stands_zero, stands_number, factors_stand, stands_product, stands_sum}
use Rattle.weigh.proofs.Totalling.{final_sum_more}
use Rattle.weigh.proofs.root_weight.Goals as goal
use Rattle.weigh.proofs.root_weight.Goals.{In-Some, After-number_of_code-code, After-product}

-- this state's weight and final weight
turn : (c : In-Some) → let q = length c.loop-weight.yielded in
    (q < c.args.t.now.states) × ((c.in-Some.weight.now ≡ get_or c.args.sheet.now q (pos 0)) × (c.in-Some.ending.now ≡ get_or c.args.t.now.finals q 0))
turn c =
    let n = c.args.t.now.states in
    let sheet = c.args.sheet.now in
    let z = c.zip-weight-items in
    let first = c.into_iter-weight-iterator in
    let here = zip_turn (take n sheet) c.args.t.now.finals c.loop-weight.yielded first.result c.loop-weight.weight-iterator c.next.new.self c.next.result
    (rw (first.ensures.into_iter_gives, z.ensures.first) c.iter.ensures.rest) (rw first.ensures.into_iter_gives z.ensures.second.0) c.loop-weight.yielded_by
    (c.in-Some.weight, c.in-Some.ending) c.in-Some.is c.next.ensures.steps in
    let inside : length c.loop-weight.yielded < n = omega (arith, here.0, length-take-le n sheet c.requires.room) in
    (inside, (here.2 (pos 0) ∙ get_or-take n sheet (length c.loop-weight.yielded) (pos 0) inside, here.3 0))

weight_good : (c : In-Some) → Good (arithmetic_number c.args.t.now.arithmetic) 4096 c.in-Some.weight.now
weight_good c = let here = turn c in rw here.1.0 (c.requires.good (length c.loop-weight.yielded) here.0)

-- the final weight of the state
final_stands : (c : After-number_of_code-code) → let a = arithmetic_number c.args.t.now.arithmetic in StandsFor a 1 (meaning a c.in-Some.ending.now) c.number_of_code-code.result
final_stands c = let z = c.number_of_code-code in stands_code (arithmetic_number c.args.t.now.arithmetic) c.in-Some.ending.now (omega arith) z.result z.ensures

pub loop-weight-init : goal.loop-weight-init
loop-weight-init c = let z = c.number_of_code-x in rw (carried z.result z.type_inv) (stands_zero (arithmetic_number c.args.t.now.arithmetic) 4097 z.result z.ensures)

pub product-requires : goal.product-requires
product-requires c =
    let z = c.number_of_code-code in
    let at = goal.at.product-requires c in
    let both = factors_stand (arithmetic_number c.args.t.now.arithmetic) 1 4096 (omega arith) _ _ z.result _ (final_stands at.After-number_of_code-code) (weight_good at.In-Some) in
    rw (carried z.result z.type_inv, carried c.in-Some.weight.now (omega arith))
    (record { a_stands = both.0; b_stands = both.1; in_sheet = both.2 })

-- its product with the weight there
part_stands : (c : After-product) → let a = arithmetic_number c.args.t.now.arithmetic in
    StandsFor a 1 (meaning a c.in-Some.ending.now) c.number_of_code-code.result → Good a 4096 c.in-Some.weight.now
    → StandsFor a 4097 ((semiring a).times (meaning a c.in-Some.ending.now) (weight_of a c.in-Some.weight.now)) c.product.result
part_stands c own good =
    let z = c.number_of_code-code in
    stands_product (arithmetic_number c.args.t.now.arithmetic) 1 4096 (omega arith) _ _ z.result _ own good c.product.result
    (rw (carried z.result z.type_inv, carried c.in-Some.weight.now (omega arith)) at c.product.ensures)

pub sum-x-requires : goal.sum-x-requires
sum-x-requires c =
    let a = arithmetic_number c.args.t.now.arithmetic in
    let at = goal.at.sum-x-requires c in
    rw (carried c.product.result c.product.type_inv)
    (record {
      a_stands = stands_number a 4097 (omega arith) _ _ c.loop-weight.invariant;
      b_stands = stands_number a 4097 (omega arith) _ _ (part_stands c (final_stands at.After-number_of_code-code) (weight_good at.In-Some));
    })

pub loop-weight-preserved : goal.loop-weight-preserved
loop-weight-preserved c =
    let t = c.args.t.now in
    let a = arithmetic_number t.arithmetic in
    let at = goal.at.loop-weight-preserved c in
    let here = turn at.In-Some in
    let part = part_stands at.After-product (final_stands at.After-number_of_code-code) (weight_good at.In-Some) in
    rw (carried c.sum-x.result c.sum-x.type_inv, length-append, final_sum_more a (length c.loop-weight.yielded) t.finals c.args.sheet.now, ← here.1.0, ← here.1.1)
    (stands_sum a 4097 (omega arith) _ _ _ c.product.result c.loop-weight.invariant part c.sum-x.result
    (rw (carried c.product.result c.product.type_inv) at c.sum-x.ensures))

pub returns : goal.returns
returns c =
    let n = c.args.t.now.states in
    let sheet = c.args.sheet.now in
    let z = c.zip-weight-items in
    let first = c.into_iter-weight-iterator in
    let all = zip_end (take n sheet) c.args.t.now.finals c.loop-weight.yielded first.result c.loop-weight.weight-iterator c.next.new.self c.next.result
    (rw (first.ensures.into_iter_gives, z.ensures.first) c.iter.ensures.rest) (rw first.ensures.into_iter_gives z.ensures.second.0) c.loop-weight.yielded_by
    c.in-None.is c.next.ensures.steps in
    let done : length c.loop-weight.yielded ≡ n = omega (arith, c.requires.states_few, length-take-le n sheet c.requires.room) in
    rw done at c.loop-weight.invariant.number
