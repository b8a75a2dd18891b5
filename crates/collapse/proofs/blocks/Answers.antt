-- `collapse::blocks` meets its contract. Assumes nothing.
use Rattle.collapse.proofs.Cases.{taken_readable}
use Rattle.collapse.specs.Readable.{Readable}
use Rattle.collapse.proofs.blocks.Goals as goal
use Rattle.collapse.proofs.blocks.Goals.{In_ok-record}

-- the table that was taken
taken : (c : In_ok-record) → Readable c.in_ok-record.record
taken c = taken_readable c.args.table.now (λ i. (c.type_inv.table i).fits) c.in_ok-record.record c.in_ok-record.ensures

pub coarsest-found-requires-clause-proper : goal.coarsest-found-requires-clause-proper
coarsest-found-requires-clause-proper c = (taken (goal.at.coarsest-found-requires-clause-proper c).In_ok-record).proper

pub put_blocks-requires : goal.put_blocks-requires
put_blocks-requires c = (taken (goal.at.put_blocks-requires c).In_ok-record).proper.states_few
