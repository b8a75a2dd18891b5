-- `collapse::length_lacking` meets its contract: no form is longer than 65,415 bytes. Assumes nothing.
use Rattle.std.proofs.Common.{arith}
use Rattle.roundtrip.specs.Length.{table_length}
use Rattle.tables.specs.Record.{table_of}
use Rattle.collapse.proofs.length_lacking.Goals as goal

pub returns-then-room-ge-LONGEST : goal.returns-then-room-ge-LONGEST
returns-then-room-ge-LONGEST c = omega (arith, table_length (table_of c.args.table.now) c.requires.proper)
