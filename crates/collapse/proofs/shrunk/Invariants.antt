-- `collapse::shrunk` meets its contract. The loop's invariant: if the last collapse merged states, what the shrink from here gives, the shrink from the start gives; if not, it has
-- given the present table. The measure is how many states there were before the last collapse. Assumes nothing.
use Rattle.std.proofs.Common.{◌≤◌, ◌<◌}
use Rattle.tables.specs.Record.{table_of}
use Rattle.theory.specs.Shrink.{Shrinks}
use Rattle.collapse.specs.Readable.{Readable}
use Rattle.collapse.proofs.Turns.{Turn}
use Rattle.collapse.proofs.shrunk.Given as goal

abbrev pub invariant-loop-table : goal.invariant-loop-table
invariant-loop-table l = record {
  readable : Readable l.table;
  goes_on : l.table.states < l.states_before → Turn l.initial.side (table_of l.initial.table) l.side (table_of l.table);
  ends : l.states_before ≤ l.table.states → Shrinks l.initial.side (table_of l.initial.table) (table_of l.table);
}

abbrev pub decreases-loop-table : goal.decreases-loop-table
decreases-loop-table l = l.states_before
