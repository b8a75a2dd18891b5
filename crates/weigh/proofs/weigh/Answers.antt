-- `weigh::weigh` meets its contract: what weighing the tree by the table that was read answers.
-- Assumes nothing.
use Rattle.std.proofs.Common.{arith}
use Rattle.weigh.specs.Asked.{asked_weighed}
use Rattle.weigh.proofs.Cases.{table-read}
use Rattle.weigh.proofs.weigh.Goals as goal

pub weigh_tree-requires : goal.weigh_tree-requires
weigh_tree-requires c = (table-read c.args.table.now (λ i. let small = c.type_inv.table i in omega arith) c.in_ok-t.t c.in_ok-t.ensures).held

pub returns : goal.returns
returns c =
    let found = (table-read c.args.table.now (λ i. let small = c.type_inv.table i in omega arith) c.in_ok-t.t c.in_ok-t.ensures).is_found in
    asked_weighed _ _ _ _ c.args.table.now (rw found c.weigh_tree.ensures.answer, rw found c.weigh_tree.ensures.sheet)
