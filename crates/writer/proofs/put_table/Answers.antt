use Rattle.std.proofs.Common.{ℕ, ◌+◌, [], ◌∷◌, ◌++◌, sym, subst, arith}
use Rattle.format.specs.Written.{transition_numbers, table_numbers}
use Rattle.tables.specs.Record.{row_at, table_of}
use Rattle.tables.specs.Rows.{columns_of}
use Rattle.tables.specs.Steps.{Long}
use Rattle.writer.proofs.Fields.{count_is, few_transitions, row_inside}
use Rattle.writer.proofs.Rows.{rows_left, rows_all, rows_open, rows_close}
use Rattle.writer.proofs.Walks.{Walked, walk_starts, walk_fits, walk_goes_on, next_fits, next_taken, items_open, items_close, walk_ends}
use Rattle.writer.proofs.put_table.Invariants.{after_finals}
use Rattle.writer.proofs.put_table.Goals as goal

pub number-requires-2 : goal.number-requires-2
number-requires-2 g c =
    let laws = g.met.S.Sink.laws in
    subst (λ (n : ℕ). g.S.Sink.fits c.args.sink.now (n ∷ [])) (sym c.number.ensures)
    (next_fits laws (walk_starts laws (table_numbers (table_of c.args.table.now)) c.args.sink.now) c.requires.fits)

pub number-requires-3 : goal.number-requires-3
number-requires-3 g c =
    let laws = g.met.S.Sink.laws in
    let arithmetic = rw c.number.ensures at c.number-2.ensures in
    next_fits laws (next_taken laws (walk_starts laws (table_numbers (table_of c.args.table.now)) c.args.sink.now) arithmetic) c.requires.fits

pub number-requires-4 : goal.number-requires-4
number-requires-4 g c =
    let laws = g.met.S.Sink.laws in
    let arithmetic = rw c.number.ensures at c.number-2.ensures in
    let states = next_taken laws (next_taken laws (walk_starts laws (table_numbers (table_of c.args.table.now)) c.args.sink.now) arithmetic) c.number-3.ensures in
    subst (λ (n : ℕ). g.S.Sink.fits c.number-3.new.self (n ∷ [])) (sym c.requires.writable.symbols) (next_fits laws states c.requires.fits)

pub loop-rank-init : goal.loop-rank-init
loop-rank-init g c =
    let laws = g.met.S.Sink.laws in
    let arithmetic = rw c.number.ensures at c.number-2.ensures in
    let states = next_taken laws (next_taken laws (walk_starts laws (table_numbers (table_of c.args.table.now)) c.args.sink.now) arithmetic) c.number-3.ensures in
    next_taken laws states (subst (λ (n : ℕ). g.S.Sink.took c.number-3.new.self (n ∷ []) c.number-4.new.self) c.requires.writable.symbols c.number-4.ensures)

pub number-requires-in-loop-rank : goal.number-requires-in-loop-rank
number-requires-in-loop-rank g c =
    let laws = g.met.S.Sink.laws in
    let X = table_of c.args.table.now in
    next_fits laws (items_open laws X.ranks (X.finals ++ after_finals X) c.loop-rank.rank-index c.loop-rank-test.true c.loop-rank.invariant) c.requires.fits

pub loop-rank-preserved : goal.loop-rank-preserved
loop-rank-preserved g c =
    let laws = g.met.S.Sink.laws in
    let X = table_of c.args.table.now in
    next_taken laws (items_open laws X.ranks (X.finals ++ after_finals X) c.loop-rank.rank-index c.loop-rank-test.true c.loop-rank.invariant) c.number-in-loop-rank.ensures

pub loop-code-init : goal.loop-code-init
loop-code-init g c =
    let X = table_of c.args.table.now in
    items_close g.met.S.Sink.laws X.ranks (X.finals ++ after_finals X) c.loop-rank.rank-index c.loop-rank-test.false c.loop-rank.invariant

pub number-requires-in-loop-code : goal.number-requires-in-loop-code
number-requires-in-loop-code g c =
    let laws = g.met.S.Sink.laws in
    let X = table_of c.args.table.now in
    next_fits laws (items_open laws X.finals (after_finals X) c.loop-code.code-index c.loop-code-test.true c.loop-code.invariant) c.requires.fits

pub loop-code-preserved : goal.loop-code-preserved
loop-code-preserved g c =
    let laws = g.met.S.Sink.laws in
    let X = table_of c.args.table.now in
    next_taken laws (items_open laws X.finals (after_finals X) c.loop-code.code-index c.loop-code-test.true c.loop-code.invariant) c.number-in-loop-code.ensures

pub overflow_cast-table-3 : goal.overflow_cast-table-3
overflow_cast-table-3 g c =
    let few = few_transitions c.args.table.now c.requires.writable in omega arith

pub number-requires-5 : goal.number-requires-5
number-requires-5 g c =
    let laws = g.met.S.Sink.laws in
    let t = c.args.table.now in
    let X = table_of t in
    subst (λ (n : ℕ). g.S.Sink.fits c.loop-code.sink (n ∷ [])) (count_is t c.requires.writable) (next_fits laws (items_close laws X.finals (after_finals X) c.loop-code.code-index c.loop-code-test.false c.loop-code.invariant) c.requires.fits)

pub loop-j-init : goal.loop-j-init
loop-j-init g c =
    let laws = g.met.S.Sink.laws in
    let t = c.args.table.now in
    let X = table_of t in
    let counted = subst (λ (n : ℕ). g.S.Sink.took c.loop-code.sink (n ∷ []) c.number-5.new.self) (sym (count_is t c.requires.writable)) c.number-5.ensures in
    let rows = next_taken laws (items_close laws X.finals (after_finals X) c.loop-code.code-index c.loop-code-test.false c.loop-code.invariant) counted in
    subst (Walked g.S.Sink.took (table_numbers X) c.args.sink.now c.number-5.new.self) (rows_all (columns_of t) t.count) rows

pub put_transition-requires-clause-inside : goal.put_transition-requires-clause-inside
put_transition-requires-clause-inside g c =
    let t = c.args.table.now in
    let long : Long (columns_of t) = record { ranks = omega arith; symbol = omega arith; children = omega arith; target = omega arith; code = omega arith } in
    row_inside t c.requires.writable long c.loop-j.j c.loop-j-test.true

pub put_transition-requires-clause-fits : goal.put_transition-requires-clause-fits
put_transition-requires-clause-fits g c =
    let t = c.args.table.now in
    let next = rw (rows_open (columns_of t) t.count c.loop-j.j c.loop-j-test.true) at c.loop-j.invariant in
    walk_fits g.met.S.Sink.laws (transition_numbers (row_at (columns_of t) c.loop-j.j)) (rows_left (columns_of t) t.count (c.loop-j.j + 1)) next c.requires.fits

pub loop-j-preserved : goal.loop-j-preserved
loop-j-preserved g c =
    let t = c.args.table.now in
    let next = rw (rows_open (columns_of t) t.count c.loop-j.j c.loop-j-test.true) at c.loop-j.invariant in
    walk_goes_on g.met.S.Sink.laws (transition_numbers (row_at (columns_of t) c.loop-j.j)) (rows_left (columns_of t) t.count (c.loop-j.j + 1)) next c.put_transition.ensures

pub returns : goal.returns
returns g c =
    let t = c.args.table.now in
    walk_ends g.met.S.Sink.laws {now = c.loop-j.sink} (rw (rows_close (columns_of t) t.count c.loop-j.j c.loop-j-test.false) at c.loop-j.invariant)
