-- `tables::read` meets its contract: each return is one case of the definition of a table.
-- Assumes nothing.
use Rattle.std.proofs.Common.{refl, rules}
use Rattle.tables.proofs.Bounds.{zeros_small}
use Rattle.tables.proofs.Whole.{no_transitions, table_goes_on, table_found}
use Rattle.tables.proofs.read.Goals as goal

pub read_head-requires : goal.read_head-requires
read_head-requires c = zeros_small 128

pub returns-in_err-end : goal.returns-in_err-end
returns-in_err-end c =
    search (rules, no_transitions _ _ _ c.in_ok-next.ensures.head c.in_err-end.field-0.0 c.in_err-end.ensures.finds)

pub returns-then-end-bytes : goal.returns-then-end-bytes
returns-then-end-bytes c =
    rw (table_goes_on _ _ _ c.in_ok-next.ensures.head _ _ c.in_ok-end.ensures.finds c.if-end-bytes.true) refl

pub returns : goal.returns
returns c = table_found _ _ _ c.in_ok-next.ensures.head _ _ c.in_ok-end.ensures.head c.in_ok-end.ensures.finds c.if-end-bytes.false
