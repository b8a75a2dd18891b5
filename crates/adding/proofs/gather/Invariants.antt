-- `adding::gather` meets its contract: the entries so far, and those of the transitions that are left, make up the whole.
-- Assumes nothing.
use Rattle.theory.specs.Blocks.{block_of}
use Rattle.tables.specs.Rows.{columns_of}
use Rattle.adding.specs.Named.{name_of}
use Rattle.adding.proofs.Gathering.{Gathering}
use Rattle.adding.proofs.gather.Given as goal

abbrev pub invariant-loop-j : goal.invariant-loop-j
invariant-loop-j l =
    Gathering (block_of l.blocks.list) (name_of l.fn.names.list) l.fn.direction (columns_of l.table) l.table.count l.entries.keys l.entries.codes l.many l.j
