use Rattle.std.proofs.Common.{arith}
use Rattle.writer.proofs.Fields.{form_short}
use Rattle.writer.proofs.length_of.Goals as goal

pub put_table-requires-clause-fits : goal.put_table-requires-clause-fits
put_table-requires-clause-fits c = omega (arith, form_short c.args.table.now c.requires)
