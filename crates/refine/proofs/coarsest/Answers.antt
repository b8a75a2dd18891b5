-- `refine::coarsest` meets its contract. The law is `present_after`: what the theory's refinement has at the start it has after any splits.
-- Assumes nothing.
use Rattle.std.proofs.Common.{rules}
use Rattle.theory.specs.Direction.{other}
use Rattle.refine.proofs.Coarsening.{coarsening_settled, coarsening_ends, coarsening_count}
use Rattle.refine.proofs.Known.{count_few, symbol_known, row}
use Rattle.refine.proofs.Listed.{uses_listed}
use Rattle.uses.specs.Tables.{ReadableTable}
use Rattle.refine.proofs.coarsest.Goals.{Start}
use Rattle.refine.proofs.coarsest.Goals as goal

-- the index of either direction can be made of the table
readable : (c : Start) → ReadableTable c.args.table.now
readable c = record {
  ranks_long = search rules;
  symbol_long = search rules;
  children_long = search rules;
  target_long = search rules;
  count_few = count_few c.requires.holds c.requires.proper;
  symbol_known = symbol_known c.requires.holds c.requires.proper;
}

pub fill-requires : goal.fill-requires
fill-requires c = readable (goal.at.fill-requires c).Start

pub fill-requires-2 : goal.fill-requires-2
fill-requires-2 c = readable (goal.at.fill-requires-2 c).Start

pub split_until_clean-refined-requires-clause-own_listed : goal.split_until_clean-refined-requires-clause-own_listed
split_until_clean-refined-requires-clause-own_listed c = uses_listed c.args.table.now c.args.direction c.fill.new.self c.fill.ensures (row c.requires.holds c.requires.proper)

pub split_until_clean-refined-requires-clause-others_listed : goal.split_until_clean-refined-requires-clause-others_listed
split_until_clean-refined-requires-clause-others_listed c =
    uses_listed c.args.table.now (other c.args.direction) c.fill-2.new.self (rw c.other.ensures at c.fill-2.ensures) (row c.requires.holds c.requires.proper)

pub split_until_clean-refined-requires-clause-stay_settled : goal.split_until_clean-refined-requires-clause-stay_settled
split_until_clean-refined-requires-clause-stay_settled c =
    coarsening_settled c.requires.holds c.requires.proper c.fill.new.self c.fill-2.new.self c.fill.ensures (rw c.other.ensures at c.fill-2.ensures) c.start-start.ensures

pub returns-clause-coarsest : goal.returns-clause-coarsest
returns-clause-coarsest c =
    coarsening_ends c.requires.holds c.requires.proper c.fill.new.self c.fill-2.new.self c.fill.ensures (rw c.other.ensures at c.fill-2.ensures) c.start-start.ensures c.split_until_clean-refined.ensures c.by_first_use.ensures

pub returns-clause-counted : goal.returns-clause-counted
returns-clause-counted c =
    coarsening_count c.requires.holds c.requires.proper c.fill.new.self c.fill-2.new.self c.fill.ensures (rw c.other.ensures at c.fill-2.ensures) c.start-start.ensures c.split_until_clean-refined.ensures c.by_first_use.ensures
