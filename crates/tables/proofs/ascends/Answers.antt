-- `tables::ascends` meets its contract. The invariant: the children passed are the same, so what is left of the two keys decides.
-- Assumes nothing.
use Rattle.std.proofs.Common.{◌-◌, ◌∙◌, ⊎_elim, arith, rules}
use Rattle.tables.proofs.Order.{left_starts, left_differs, left_agrees, left_ends}
use Rattle.tables.proofs.ascends.Goals as goal

pub loop-above-init : goal.loop-above-init
loop-above-init c =
    let t = c.args.table.now in
    rw c.into_iter-above-iterator.ensures.into_iter_gives
    (left_starts t.ranks t.symbol t.children t.target (c.args.j - 1) c.args.j (omega arith) c.if-before-here.false (search rules) (search rules) (search rules))

pub returns-then-above-child : goal.returns-then-above-child
returns-then-above-child c =
    let (a, b) = c.in-Some.ensures.steps in
    left_differs c.loop-above.invariant a b c.if-above-child.true

pub loop-above-preserved : goal.loop-above-preserved
loop-above-preserved c =
    let (a, b) = c.in-Some.ensures.steps in
    left_agrees c.loop-above.invariant a b c.if-above-child.false

pub returns : goal.returns
returns c =
    left_ends c.loop-above.invariant
    (⊎_elim (λ (x, none). none.0) (λ (x, none). c.loop-above.invariant.as_many ∙ none.0) c.in-None.ensures.steps)
