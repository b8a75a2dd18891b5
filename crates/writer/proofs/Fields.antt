-- What a writable record says of its numbers and of its written form's length.
use Prim.Native.Nat.{ℕ, ◌≤◌, ◌<◌}
use mathlib.Core.Path.{◌≡◌}
use native.Mathlib.Omega.{arith}
use lib.ListN.{length, get_or, take}
use lib.Seq.{get_or-take}
use Rattle.model.proofs.Each.{each-get_or}
use Rattle.model.specs.Table.{ProperTransition}
use Rattle.format.specs.Written.{bytes_of}
use Rattle.tables.specs.Record.{row_at, rows_from, table_of}
use Rattle.tables.specs.Steps.{Long}
use Rattle.tables.specs.declared.TableRecord.{TableRecord}
use Rattle.roundtrip.specs.Length.{table_length}
use Rattle.tables.specs.Rows.{columns_of, rows_length, each_row}
use Rattle.writer.specs.Writable.{RowInside, Writable}

module _ (r : TableRecord) (w : Writable r) where
  pub few_states : r.states ≤ 256
  few_states = w.proper.states_few

  pub few_symbols : r.symbols ≤ 128
  few_symbols = let e = w.symbols in let h = w.proper.symbols_few in omega arith

  pub count_is : length (rows_from (columns_of r) 0 r.count) ≡ r.count
  count_is = rows_length (columns_of r) 0 r.count

  pub few_transitions : r.count ≤ 4000
  few_transitions = let e = count_is in let h = w.proper.transitions_few in omega arith

  pub row_inside : Long (columns_of r) → (j : ℕ) → j < r.count → RowInside (columns_of r) j
  row_inside long j h =
      let here : ProperTransition (take r.symbols r.ranks) r.states (row_at (columns_of r) j) =
      each_row (ProperTransition (take r.symbols r.ranks) r.states) (columns_of r) 0 r.count w.proper.transitions_proper j (omega arith) (omega arith) in
      let known = here.symbol_known in
      let symbols = w.symbols in
      let few = few_symbols in
      let few-t = few_transitions in
      let σ : ℕ = get_or r.symbol j 0 in
      let small : get_or (take r.symbols r.ranks) σ 0 ≤ 4 = each-get_or (λ k. k ≤ 4) (take r.symbols r.ranks) σ 0 w.proper.ranks_small (omega arith) in
      let same : get_or (take r.symbols r.ranks) σ 0 ≡ get_or r.ranks σ 0 = get_or-take r.symbols r.ranks σ 0 (omega arith) in
      record {
        symbol = omega (arith, long.symbol);
        known = omega (arith, long.ranks);
        children = omega (arith, long.children);
        target = omega (arith, long.target);
        code = omega (arith, long.code);
      }

  -- the written form is short
  pub form_short : length (bytes_of (table_of r)) ≤ 65415
  form_short = table_length (table_of r) w.proper
