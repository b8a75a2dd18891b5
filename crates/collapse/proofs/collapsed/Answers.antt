-- `collapse::collapsed` meets its contract: the coarsest blocks are what the table is added up by. Assumes nothing.
use Rattle.collapse.proofs.Cases.{collapsible}
use Rattle.collapse.proofs.collapsed.Goals as goal

pub add_up-requires : goal.add_up-requires
add_up-requires c = collapsible c.args.direction c.args.table.now c.requires.readable c.args.found.now.blocks.list c.requires.coarsest c.args.found.now.number c.requires.number
