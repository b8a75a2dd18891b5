-- `grouping::keys::fill` meets its contract. The invariant is `Filling`: the entries from lo to i stand in their places. Assumes nothing.
use Rattle.theory.specs.Blocks.{block_of}
use Rattle.grouping.specs.Keys.{entry_in}
use Rattle.grouping.proofs.Filling.{Filling}
use Rattle.grouping.proofs.keys.fill.Given as goal

abbrev pub invariant-loop-i : goal.invariant-loop-i
invariant-loop-i l =
    Filling l.fn.region.lo l.fn.region.hi (entry_in l.direction l.table (block_of l.blocks.list)) l.uses.list l.fn.entries.keys l.fn.entries.codes l.entries.keys l.entries.codes l.i
