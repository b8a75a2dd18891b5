-- `tables::read_all` meets its contract. The invariant is `SoFar`.
-- Assumes nothing.
use Rattle.std.proofs.Common.{rules, arith}
use Rattle.tables.proofs.Filling.{so_far_starts, so_far_goes_on, so_far_refused, so_far_ends}
use Rattle.tables.proofs.read_all.Goals as goal

pub loop-slot-init : goal.loop-slot-init
loop-slot-init g c = so_far_starts _ _ _

pub returns-in_err-value : goal.returns-in_err-value
returns-in_err-value g c = record { each = so_far_refused _ _ _ _ _ c.loop-slot.invariant _ c.in_err-value.field-0.0 _ (omega arith) c.in_err-value.ensures (search rules) }

pub loop-slot-preserved : goal.loop-slot-preserved
loop-slot-preserved g c = so_far_goes_on _ _ _ _ _ c.loop-slot.invariant _ _ (omega arith) c.in_ok-value.ensures

pub returns : goal.returns
returns g c = record { each = so_far_ends _ _ _ _ _ c.loop-slot.invariant (omega arith) }
