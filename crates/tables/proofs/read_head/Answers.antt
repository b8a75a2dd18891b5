-- `tables::read_head` meets its contract: each return is one case of the definition of a table.
-- Assumes nothing.
use Rattle.std.proofs.Common.{sym, rules, arith, ℕ, length-take, length-append}
use Rattle.std.proofs.lemmas.List.{take_at}
use Rattle.format.specs.Read.{any, within}
use Rattle.tables.proofs.Bounds.{within_bounds, front_small}
use Rattle.tables.proofs.Filling.{all_found, all_small}
use Rattle.tables.proofs.Whole.{no_arithmetic, no_states, no_symbols, no_ranks, no_finals, no_count}
use Rattle.tables.proofs.read_head.Goals as goal

pub returns-in_err-arithmetic-clause-head : goal.returns-in_err-arithmetic-clause-head
returns-in_err-arithmetic-clause-head c = search (rules, no_arithmetic c.args.bytes.now c.in_err-arithmetic.field-0.0 (sym c.in_err-arithmetic.ensures))

pub returns-in_err-states-clause-head : goal.returns-in_err-states-clause-head
returns-in_err-states-clause-head c =
    search (rules, no_states _ _ _ (sym c.in_ok-arithmetic.ensures) c.in_err-states.field-0.0 (sym c.in_err-states.ensures))

pub returns-in_err-symbols-clause-head : goal.returns-in_err-symbols-clause-head
returns-in_err-symbols-clause-head c =
    search (rules, no_symbols _ _ _ (sym c.in_ok-arithmetic.ensures) _ _ (sym c.in_ok-states.ensures) c.in_err-symbols.field-0.0 (sym c.in_err-symbols.ensures))

pub returns-in_err-next-clause-head : goal.returns-in_err-next-clause-head
returns-in_err-next-clause-head c =
    let few = within_bounds _ _ 1 128 (sym c.in_ok-symbols.ensures) in
    let ranks =
    all_found (within c.args.bytes.now 0 4) c.in_ok-symbols.symbols c.in_err-next.ensures (omega (arith, length-take {A = ℕ})) (λ at result read. search rules) in
    search (rules, no_ranks _ _ _ (sym c.in_ok-arithmetic.ensures) _ _ (sym c.in_ok-states.ensures) _ _ (sym c.in_ok-symbols.ensures) c.in_err-next.field-0.0 ranks)

pub returns-in_err-next-2-clause-head : goal.returns-in_err-next-2-clause-head
returns-in_err-next-2-clause-head c =
    let few = within_bounds _ _ 1 128 (sym c.in_ok-symbols.ensures) in
    let many = within_bounds _ _ 1 256 (sym c.in_ok-states.ensures) in
    let ranks =
    all_found (within c.args.bytes.now 0 4) c.in_ok-symbols.symbols c.in_ok-next.ensures (omega (arith, length-take {A = ℕ})) (λ at result read. search rules) in
    let finals =
    all_found (any c.args.bytes.now) c.in_ok-states.states c.in_err-next-2.ensures (omega (arith, length-take {A = ℕ})) (λ at result read. search rules) in
    search (rules, no_finals _ _ _ (sym c.in_ok-arithmetic.ensures) _ _ (sym c.in_ok-states.ensures) _ _ (sym c.in_ok-symbols.ensures) _ _ ranks c.in_err-next-2.field-0.0 finals)

pub returns-in_err-count-clause-head : goal.returns-in_err-count-clause-head
returns-in_err-count-clause-head c =
    let few = within_bounds _ _ 1 128 (sym c.in_ok-symbols.ensures) in
    let many = within_bounds _ _ 1 256 (sym c.in_ok-states.ensures) in
    let ranks =
    all_found (within c.args.bytes.now 0 4) c.in_ok-symbols.symbols c.in_ok-next.ensures (omega (arith, length-take {A = ℕ})) (λ at result read. search rules) in
    let finals =
    all_found (any c.args.bytes.now) c.in_ok-states.states c.in_ok-next-2.ensures (omega (arith, length-take {A = ℕ})) (λ at result read. search rules) in
    search (
      rules,
      no_count _ _ _ (sym c.in_ok-arithmetic.ensures) _ _ (sym c.in_ok-states.ensures) _ _ (sym c.in_ok-symbols.ensures) _ _ ranks _ _ finals
          c.in_err-count.field-0.0 (sym c.in_err-count.ensures),
    )

pub returns-clause-small : goal.returns-clause-small
returns-clause-small c =
    front_small c.read_all.new.slice c.args.table.now.ranks c.in_ok-symbols.symbols
    (all_small (within c.args.bytes.now 0 4) 4 c.in_ok-next.ensures (λ at n next e. (within_bounds _ at 0 4 e).1) (λ at result read. search rules)) c.requires

pub returns-clause-head : goal.returns-clause-head
returns-clause-head c =
    let few = within_bounds _ _ 1 128 (sym c.in_ok-symbols.ensures) in
    let many = within_bounds _ _ 1 256 (sym c.in_ok-states.ensures) in
    let ranks =
    all_found (within c.args.bytes.now 0 4) c.in_ok-symbols.symbols c.in_ok-next.ensures (omega (arith, length-take {A = ℕ})) (λ at result read. search rules) in
    let finals =
    all_found (any c.args.bytes.now) c.in_ok-states.states c.in_ok-next-2.ensures (omega (arith, length-take {A = ℕ})) (λ at result read. search rules) in
    record {
      second = c.in_ok-arithmetic.next.at;
      third = c.in_ok-states.next.at;
      fourth = c.in_ok-symbols.next.at;
      fifth = c.in_ok-next.next.at;
      sixth = c.in_ok-next-2.next.at;
      arithmetic = sym c.in_ok-arithmetic.ensures;
      states = sym c.in_ok-states.ensures;
      symbols = sym c.in_ok-symbols.ensures;
      ranks = rw (take_at c.read_all.new.slice _ c.in_ok-symbols.symbols (omega (arith, length-take {A = ℕ}))) ranks;
      finals = rw (take_at c.read_all-2.new.slice _ c.in_ok-states.states (omega (arith, length-take {A = ℕ}))) finals;
      count = sym c.in_ok-count.ensures;
      symbols_fit = rw (length-append c.read_all.new.slice _) (omega (arith, length-take {A = ℕ}));
    }
