-- `tables::read_transition` meets its contract: each return is one case of the definition of a transition.
-- Assumes nothing.
use Rattle.std.proofs.Common.{sym, ap, ◌∙◌, rules, ℕ, get_or, arith, length-take, length-drop}
use Rattle.model.specs.Table.{Transition}
use Rattle.format.specs.Read.{found, one_of}
use Rattle.tables.proofs.Filling.{all_found}
use Rattle.tables.proofs.Row.{no_symbol, no_children, no_target, no_code, transition_found, row_is}
use Rattle.tables.proofs.read_transition.Goals as goal

pub returns-in_err-symbol-clause-finds : goal.returns-in_err-symbol-clause-finds
returns-in_err-symbol-clause-finds c =
    let t = c.args.table.now in
    search (rules, no_symbol _ t.ranks t.symbols t.states _ (omega arith) c.in_err-symbol.field-0.0 (sym c.in_err-symbol.ensures))

pub returns-in_err-next-clause-finds : goal.returns-in_err-next-clause-finds
returns-in_err-next-clause-finds c =
    let t = c.args.table.now in
    let small = c.requires.small c.in_ok-symbol.symbol in
    let children =
    all_found (one_of c.args.bytes.now t.states) (get_or t.ranks c.in_ok-symbol.symbol 0) c.in_err-next.ensures
    (omega (arith, length-take {A = ℕ}, length-drop {A = ℕ})) (λ at result read. search rules) in
    search (rules, no_children _ t.ranks t.symbols _ _ (omega arith) _ _ (sym c.in_ok-symbol.ensures) c.in_err-next.field-0.0 children)

pub returns-in_err-target-clause-finds : goal.returns-in_err-target-clause-finds
returns-in_err-target-clause-finds c =
    let t = c.args.table.now in
    let small = c.requires.small c.in_ok-symbol.symbol in
    let children =
    all_found (one_of c.args.bytes.now t.states) (get_or t.ranks c.in_ok-symbol.symbol 0) c.in_ok-next.ensures
    (omega (arith, length-take {A = ℕ}, length-drop {A = ℕ})) (λ at result read. search rules) in
    search (rules, no_target _ t.ranks t.symbols _ _ (omega arith) _ _ (sym c.in_ok-symbol.ensures) _ _ children c.in_err-target.field-0.0 (sym c.in_err-target.ensures))

pub returns-in_err-code-clause-finds : goal.returns-in_err-code-clause-finds
returns-in_err-code-clause-finds c =
    let t = c.args.table.now in
    let small = c.requires.small c.in_ok-symbol.symbol in
    let children =
    all_found (one_of c.args.bytes.now t.states) (get_or t.ranks c.in_ok-symbol.symbol 0) c.in_ok-next.ensures
    (omega (arith, length-take {A = ℕ}, length-drop {A = ℕ})) (λ at result read. search rules) in
    search (
      rules,
      no_code _ t.ranks t.symbols _ _ (omega arith) _ _ (sym c.in_ok-symbol.ensures) _ _ children _ _ (sym c.in_ok-target.ensures)
          c.in_err-code.field-0.0 (sym c.in_err-code.ensures),
    )

pub returns-clause-finds : goal.returns-clause-finds
returns-clause-finds c =
    let t = c.args.table.now in
    let small = c.requires.small c.in_ok-symbol.symbol in
    let children =
    all_found (one_of c.args.bytes.now t.states) (get_or t.ranks c.in_ok-symbol.symbol 0) c.in_ok-next.ensures
    (omega (arith, length-take {A = ℕ}, length-drop {A = ℕ})) (λ at result read. search rules) in
    transition_found _ t.ranks t.symbols _ _ (omega arith) _ _ (sym c.in_ok-symbol.ensures) _ _ children _ _ (sym c.in_ok-target.ensures) _ _ (sym c.in_ok-code.ensures)
    ∙ ap (λ (row : Transition). found row c.in_ok-code.next.at)
    (sym (row_is t.ranks t.symbol t.children t.target t.code c.read_all.new.slice c.args.j _ _ _ _
    (omega arith) (omega arith) (omega arith) (omega arith) (omega (arith, length-take {A = ℕ}, length-drop {A = ℕ}))))
