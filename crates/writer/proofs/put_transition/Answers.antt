use Rattle.std.proofs.Common.{◌≡◌, ℕ, ◌-◌, ◌*◌, ◌≤◌, List, [], ◌∷◌, ◌++◌, get_or, take, drop, sym, subst, arith, take-take}
use Rattle.format.specs.Written.{transition_numbers}
use Rattle.tables.specs.Record.{row_at}
use Rattle.tables.specs.Rows.{columns_of}
use Rattle.tables.specs.declared.TableRecord.{TableRecord}
use Rattle.writer.proofs.Walks.{Walked, walk_starts, next_fits, next_taken, items_open, items_close, walk_ends}
use Rattle.writer.proofs.put_transition.Goals as goal

-- the children of transition j, as the loop has them: the first of those from its own place on
abbrev kids : TableRecord → ℕ → List ℕ
kids t j = take (get_or t.ranks (get_or t.symbol j 0) 0) (take (16000 - j * 4) (drop (j * 4) t.children))

kids_are : (t : TableRecord) (j : ℕ) → get_or t.ranks (get_or t.symbol j 0) 0 ≤ 16000 - j * 4 → kids t j ≡ (row_at (columns_of t) j).children
kids_are t j inside = take-take (get_or t.ranks (get_or t.symbol j 0) 0) (16000 - j * 4) (drop (j * 4) t.children) inside

-- the target and the code
abbrev ends : TableRecord → ℕ → List ℕ
ends t j = get_or t.target j 0 ∷ get_or t.code j 0 ∷ []

pub number-requires : goal.number-requires
number-requires g c = next_fits g.met.S.Sink.laws (walk_starts g.met.S.Sink.laws (transition_numbers (row_at (columns_of c.args.table.now) c.args.j)) c.args.sink.now) c.requires.fits

pub loop-child-init : goal.loop-child-init
loop-child-init g c =
    let t = c.args.table.now in
    let numbers = transition_numbers (row_at (columns_of t) c.args.j) in
    let laws = g.met.S.Sink.laws in
    subst (λ (l : List ℕ). Walked g.S.Sink.took numbers c.args.sink.now c.number.new.self (l ++ ends t c.args.j)) (sym (kids_are t c.args.j (omega arith)))
    (next_taken laws (walk_starts laws numbers c.args.sink.now) c.number.ensures)

pub number-requires-in-loop-child : goal.number-requires-in-loop-child
number-requires-in-loop-child g c =
    next_fits g.met.S.Sink.laws (items_open g.met.S.Sink.laws (kids c.args.table.now c.args.j) (ends c.args.table.now c.args.j) c.loop-child.child-index c.loop-child-test.true c.loop-child.invariant) c.requires.fits

pub loop-child-preserved : goal.loop-child-preserved
loop-child-preserved g c =
    next_taken g.met.S.Sink.laws (items_open g.met.S.Sink.laws (kids c.args.table.now c.args.j) (ends c.args.table.now c.args.j) c.loop-child.child-index c.loop-child-test.true c.loop-child.invariant) c.number-in-loop-child.ensures

pub number-requires-2 : goal.number-requires-2
number-requires-2 g c =
    next_fits g.met.S.Sink.laws (items_close g.met.S.Sink.laws (kids c.args.table.now c.args.j) (ends c.args.table.now c.args.j) c.loop-child.child-index c.loop-child-test.false c.loop-child.invariant) c.requires.fits

pub number-requires-3 : goal.number-requires-3
number-requires-3 g c =
    let children = items_close g.met.S.Sink.laws (kids c.args.table.now c.args.j) (ends c.args.table.now c.args.j) c.loop-child.child-index c.loop-child-test.false c.loop-child.invariant in
    next_fits g.met.S.Sink.laws (next_taken g.met.S.Sink.laws children c.number-2.ensures) c.requires.fits

pub returns : goal.returns
returns g c =
    let children = items_close g.met.S.Sink.laws (kids c.args.table.now c.args.j) (ends c.args.table.now c.args.j) c.loop-child.child-index c.loop-child-test.false c.loop-child.invariant in
    walk_ends g.met.S.Sink.laws (next_taken g.met.S.Sink.laws (next_taken g.met.S.Sink.laws children c.number-2.ensures) c.number-3.ensures)
