-- `Weigher::product_of` meets its contract. The invariant is `Multiplying`.
-- Assumes nothing.
use Rattle.std.proofs.Common.{arith}
use Rattle.weigh.specs.Rows.{sources_of, child_number}
use Rattle.weigh.proofs.Bounds.{carried}
use Rattle.weigh.proofs.Multiplying.{factors, multiplying_goes_on, multiplying_ends}
use Rattle.weigh.proofs.Weigher.product_of.Goals as goal
use Rattle.theory.specs.Arithmetic.{arithmetic_number}

pub product-x-requires : goal.product-x-requires
product-x-requires c =
    let a = arithmetic_number c.args.self.table.now.arithmetic in
    let row = c.args.row in
    let s = sources_of c.args.self row c.args.sheet.now in
    let k = c.loop-k.k in
    let more = c.loop-k-test.true in
    let both = factors a s row.rank c.args.j row.few k _ c.loop-k.invariant more (c.requires.ready.child k more) in
    rw (carried (child_number s c.args.j k) (omega arith)) (record { a_stands = both.0; b_stands = both.1; in_sheet = both.2 })

pub loop-k-preserved : goal.loop-k-preserved
loop-k-preserved c =
    let a = arithmetic_number c.args.self.table.now.arithmetic in
    let row = c.args.row in
    let s = sources_of c.args.self row c.args.sheet.now in
    let k = c.loop-k.k in
    let more = c.loop-k-test.true in
    let x = c.product-x in
    rw (carried x.result x.type_inv)
    (multiplying_goes_on a s row.rank c.args.j row.few k _ c.loop-k.invariant more (c.requires.ready.child k more) x.result
    (rw (carried (child_number s c.args.j k) (omega arith)) at x.ensures))

pub returns : goal.returns
returns c =
    multiplying_ends (arithmetic_number c.args.self.table.now.arithmetic) (sources_of c.args.self c.args.row c.args.sheet.now) c.args.row.rank c.args.j c.args.row.few c.loop-k.k _ c.loop-k.invariant (omega arith)
