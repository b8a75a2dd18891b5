-- `weigh::weigh_tree` meets its contract: what is left is the last return, where the tree is weighed.
-- Assumes nothing.
use Rattle.std.proofs.Common.{Ok, sym, ap, ◌∙◌, arith}
use Rattle.trees.specs.Written.{nodes_are_bytes}
use Rattle.tables.specs.Record.{table_of}
use Rattle.weigh.proofs.Bounds.{carried}
use Rattle.weigh.proofs.Cases.{needed_small, tree_weighed}
use Rattle.weigh.proofs.weigh_tree.Goals as goal

pub overflow_mul-needed : goal.overflow_mul-needed
overflow_mul-needed c =
    let small = needed_small (table_of c.args.t.now) c.args.tree.now c.args.sheet.now c.in_ok-nodes.nodes (sym c.in_ok-nodes.ensures) c.requires.proper in
    omega arith

pub weigh_nodes-weight-requires : goal.weigh_nodes-weight-requires
weigh_nodes-weight-requires c =
    let same = nodes_are_bytes (table_of c.args.t.now).ranks c.args.tree.now c.in_ok-nodes.nodes (sym c.in_ok-nodes.ensures) in
    record { proper = c.requires.proper; symbols_are = c.requires.symbols; accepted = sym c.in_ok-nodes.ensures ∙ ap Ok same; room = rw (← same) c.if-sheet-needed.false }

pub returns : goal.returns
returns c =
    let x = c.weigh_nodes-weight in
    let kept = tree_weighed (table_of c.args.t.now) c.args.tree.now c.args.sheet.now c.in_ok-nodes.nodes (sym c.in_ok-nodes.ensures) c.if-sheet-needed.false x.result x.new.sheet x.ensures in
    record { answer = rw (carried x.result x.type_inv) kept.answer; sheet = kept.sheet }
