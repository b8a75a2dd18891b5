-- `collapse::shrunk` meets its contract. The loop's invariant: if the last collapse merged states, what the shrink from here gives, the shrink from the start gives; if not, it has
-- given the present table. The measure is how many states there were before the last collapse. Assumes nothing.
use Rattle.std.proofs.Common.{arith}
use Rattle.tables.specs.Record.{table_of}
use Rattle.theory.specs.Blocks.{block_of}
use Rattle.theory.proofs.CollapseProper.{collapsed_few}
use Rattle.collapse.proofs.Turns.{turn_goes_on, turn_ends}
use Rattle.collapse.proofs.shrunk.Goals as goal

pub loop-table-preserved : goal.loop-table-preserved
loop-table-preserved c =
    let l = c.loop-table in
    let X₀ = table_of c.args.table.now in
    let X = table_of l.table in
    let Y = table_of c.collapsed.result in
    let turn = l.invariant.goes_on c.loop-table-test.true in
    let e = c.collapsed.ensures in
    let few = collapsed_few l.side X (block_of e.collapsed.blocks) e.collapsed.coarsest_blocks.first_use Y e.collapsed.collapsed in
    record {
      readable = e.readable;
      goes_on = λ less. rw c.other-side.ensures (turn_goes_on c.args.direction X₀ l.side X Y turn e.collapsed (λ same. omega arith));
      ends = λ more. turn_ends c.args.direction X₀ l.side X Y turn e.collapsed (omega arith);
    }
