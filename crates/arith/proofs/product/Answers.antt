-- `arith::product` meets its contract.
-- Assumes nothing.
use Rattle.std.proofs.Common.{rules, inl, inr}
use Rattle.arith.proofs.Cases.{number_of_modular, number_of_max_plus}
use Rattle.arith.proofs.Products.{product_modular, product_nothing_left, product_nothing_right, product_fits, product_sum}
use Rattle.arith.proofs.product.Goals as goal

pub returns-in-Modular : goal.returns-in-Modular
returns-in-Modular g c =
    let a_stands = rw (number_of_modular _ c.in-Modular.ensures) at c.requires.a_stands in
    let b_stands = rw (number_of_modular _ c.in-Modular.ensures) at c.requires.b_stands in
    rw (number_of_modular _ c.in-Modular.ensures) (product_modular c.args.a c.args.b c.ranges.a c.ranges.b a_stands b_stands c.wrapping_product.result c.wrapping_product.ensures)

pub returns-then-b-eq-NOTHING : goal.returns-then-b-eq-NOTHING
returns-then-b-eq-NOTHING g c =
    rw (number_of_max_plus _ c.in-MaxPlus.ensures)
    (elim c.if-b-eq-NOTHING.either [
      | inl e ↦ product_nothing_left c.args.a c.args.b c.ranges.a c.ranges.b e
      | inr e ↦ product_nothing_right c.args.a c.args.b c.ranges.a c.ranges.b e.1
    ])

pub overflow_add-result : goal.overflow_add-result
overflow_add-result g c =
    product_fits c.args.a c.args.b c.ranges.a c.ranges.b (search rules) (search rules) (rw (number_of_max_plus _ c.in-MaxPlus.ensures) at c.requires.in_sheet)

pub returns-else-b-eq-NOTHING : goal.returns-else-b-eq-NOTHING
returns-else-b-eq-NOTHING g c =
    let in_sheet = rw (number_of_max_plus _ c.in-MaxPlus.ensures) at c.requires.in_sheet in
    rw (number_of_max_plus _ c.in-MaxPlus.ensures) (product_sum c.args.a c.args.b c.ranges.a c.ranges.b (search rules) (search rules) in_sheet)
