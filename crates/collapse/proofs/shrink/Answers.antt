-- `collapse::shrink` meets its contract. Assumes nothing.
use Rattle.collapse.proofs.Cases.{taken_readable}
use Rattle.collapse.specs.Readable.{Readable}
use Rattle.collapse.proofs.shrink.Goals as goal
use Rattle.collapse.proofs.shrink.Goals.{In_ok-record}

-- the table that was taken
taken : (c : In_ok-record) → Readable c.in_ok-record.record
taken c = taken_readable c.args.table.now (λ i. (c.type_inv.table i).fits) c.in_ok-record.record c.in_ok-record.ensures

pub shrunk-requires : goal.shrunk-requires
shrunk-requires c = taken (goal.at.shrunk-requires c).In_ok-record
