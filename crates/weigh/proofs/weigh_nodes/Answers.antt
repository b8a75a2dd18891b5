-- `weigh::weigh_nodes` meets its contract. The invariant is `Filling`.
-- Assumes nothing.
use Rattle.std.proofs.Common.{◌≡◌, ◌+◌, ◌-◌, [], ap, ◌∙◌, pos, arith}
use Rattle.arith.specs.Numbers.{number_of}
use Rattle.tables.specs.Record.{table_of}
use Rattle.tables.specs.Rows.{columns_of}
use Rattle.weigh.specs.Rows.{sources}
use Rattle.weigh.proofs.Bounds.{carried}
use Rattle.weigh.proofs.Replacing.{replaced_first}
use Rattle.weigh.proofs.Transitions.{rising}
use Rattle.weigh.proofs.Filling.{Filling, filling_starts, filling_at, filling_goes_on}
use Rattle.weigh.proofs.Node.{NodeReady, symbols_few, symbol_known, rank_small, on_stack, at_node}
use Rattle.weigh.proofs.Root.{root_room, root_good, root_summed}
use Rattle.weigh.proofs.weigh_nodes.Goals as goal
use Rattle.weigh.proofs.weigh_nodes.Goals.{After-of-row, After-loop-at}
use Rattle.theory.specs.Arithmetic.{arithmetic_number}

-- the node's row can be filled
node : (c : After-of-row) → let t = c.args.t.now in let l = c.loop-at in let row = c.of-row.result in
    NodeReady (table_of t) c.args.tree.now (sources t.states t.children l.stack row.top c.decode.new.numbers l.sheet) t.target (l.at - 1) l.top row
node c =
    let t = c.args.t.now in
    at_node c.requires (c.loop-at.at - 1) (filling_at c.loop-at-test.true c.loop-at.invariant) c.decode.new.numbers c.index_symbols.new.begins
    (replaced_first 0 (t.symbols + 1) _ _ _ c.index_symbols.ensures) (replaced_first (pos 0) t.count _ _ _ c.decode.ensures) c.of-row.ensures

-- the invariant behind the loop
done : (c : After-loop-at) → let l = c.loop-at in Filling (table_of c.args.t.now) c.args.tree.now c.args.sheet.now l.sheet l.stack l.top 0
done c = let none : c.loop-at.at ≡ 0 = omega arith in rw none at c.loop-at.invariant

pub index_symbols-requires-clause-rising : goal.index_symbols-requires-clause-rising
index_symbols-requires-clause-rising c = rising (columns_of c.args.t.now) [] c.args.t.now.count c.requires.proper.ascending

pub loop-at-init : goal.loop-at-init
loop-at-init c = filling_starts (table_of c.args.t.now) c.args.tree.now c.args.sheet.now c.requires.room

pub of-row-requires-clause-symbol : goal.of-row-requires-clause-symbol
of-row-requires-clause-symbol c =
    let known = symbol_known c.requires (c.loop-at.at - 1) (filling_at c.loop-at-test.true c.loop-at.invariant) in
    let few = symbols_few c.requires in
    omega arith

pub of-row-requires-clause-few : goal.of-row-requires-clause-few
of-row-requires-clause-few c = rank_small c.requires (c.loop-at.at - 1) (filling_at c.loop-at-test.true c.loop-at.invariant)

pub of-row-requires-clause-on_stack : goal.of-row-requires-clause-on_stack
of-row-requires-clause-on_stack c = on_stack c.requires (c.loop-at.at - 1) (filling_at c.loop-at-test.true c.loop-at.invariant)

pub fill_row-requires : goal.fill_row-requires
fill_row-requires c = record { ready = (node (goal.at.fill_row-requires c).After-of-row).ready }

pub overflow_add-top : goal.overflow_add-top
overflow_add-top c = let here = node (goal.at.overflow_add-top c).After-of-row in omega arith

pub overflow_sub-top : goal.overflow_sub-top
overflow_sub-top c = let here = node (goal.at.overflow_sub-top c).After-of-row in omega arith

pub offset_bounds-stack-top : goal.offset_bounds-stack-top
offset_bounds-stack-top c = let here = node (goal.at.offset_bounds-stack-top c).After-of-row in omega arith

pub bounds-stack-top : goal.bounds-stack-top
bounds-stack-top c = let here = node (goal.at.bounds-stack-top c).After-of-row in omega arith

pub loop-at-preserved : goal.loop-at-preserved
loop-at-preserved c =
    let here = node (goal.at.loop-at-preserved c).After-of-row in
    filling_goes_on (c.loop-at.at - 1) c.requires.room (filling_at c.loop-at-test.true c.loop-at.invariant) here.rank_is here.some_top (omega arith) (rw here.at_is at c.fill_row.ensures)
    (λ q x l h. h.number ∙ ap (number_of (arithmetic_number c.args.t.now.arithmetic)) (here.weights q))

pub root_weight-requires-clause-room : goal.root_weight-requires-clause-room
root_weight-requires-clause-room c = root_room c.requires (done c)

pub root_weight-requires-clause-good : goal.root_weight-requires-clause-good
root_weight-requires-clause-good c = root_good c.requires (done c)

pub returns : goal.returns
returns c = rw (carried c.root_weight.result c.root_weight.type_inv) (root_summed c.requires (done (goal.at.returns c).After-loop-at) c.root_weight.result c.root_weight.ensures)
