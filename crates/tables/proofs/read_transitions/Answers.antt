-- `tables::read_transitions` meets its contract. The invariant is `Rowing`.
-- Assumes nothing.
use Rattle.std.proofs.Common.{sym, ◌∙◌, refl, rules, arith}
use Rattle.tables.specs.Steps.{Small}
use Rattle.tables.proofs.Rows.{rowing_starts, rowing_refused, rowing_falls, rowing_goes_on, rowing_ends}
use Rattle.tables.proofs.read_transitions.Goals as goal

pub loop-j-init : goal.loop-j-init
loop-j-init c = record {
  head = record { arithmetic = refl; states = refl; symbols = refl; count = refl; ranks = refl; finals = refl };
  rows = rowing_starts _ _ _ _ _ _;
}

pub returns-in_err-next-clause-finds : goal.returns-in_err-next-clause-finds
returns-in_err-next-clause-finds c =
    let head = c.loop-j.invariant.head in
    search (rules, rowing_refused _ _ _ _ _ _ _ _ c.loop-j.invariant.rows (omega arith) c.in_err-next.field-0.0 (rw (head.symbols, head.ranks, head.states) at c.in_err-next.ensures.finds))

pub returns-then-not-ascends-clause-finds : goal.returns-then-not-ascends-clause-finds
returns-then-not-ascends-clause-finds c =
    let head = c.loop-j.invariant.head in
    let found = rw (head.symbols, head.ranks, head.states) at c.in_ok-next.ensures.finds in
    let small : Small c.loop-j.table.ranks = rw head.ranks c.requires.small in
    rowing_falls _ _ _ _ _ _ _ _ c.loop-j.invariant.rows (omega arith) _ _ found c.in_ok-next.ensures.kept small (sym c.ascends.ensures ∙ c.if-not-ascends.true)

pub loop-j-preserved : goal.loop-j-preserved
loop-j-preserved c =
    let head = c.loop-j.invariant.head in
    let found = rw (head.symbols, head.ranks, head.states) at c.in_ok-next.ensures.finds in
    let small : Small c.loop-j.table.ranks = rw head.ranks c.requires.small in
    record {
      head = search rules;
      rows = rowing_goes_on _ _ _ _ _ _ _ _ c.loop-j.invariant.rows (omega arith) _ _ found c.in_ok-next.ensures.kept small (sym c.ascends.ensures ∙ c.if-not-ascends.false);
    }

pub returns-clause-finds : goal.returns-clause-finds
returns-clause-finds c = rowing_ends _ _ _ _ _ _ _ _ c.loop-j.invariant.rows (omega arith)
