-- What is known of the columns of a record that is a proper table.
use Prim.Native.Nat.{ℕ, ◌+◌, ◌*◌, ◌≤◌, ◌<◌, ◌^◌}
use mathlib.Core.List.{List}
use mathlib.Core.Path.{◌≡◌, ◌∙◌, subst}
use native.Mathlib.Omega.{arith}
use lib.ListN.{get_or, take, drop}
use lib.Seq.{get_or-take, get_or-drop}
use Rattle.model.specs.Table.{ProperTransition, Proper}
use Rattle.tables.specs.Rows.{columns_of, rows_length, each_row}
use Rattle.tables.specs.Record.{row_at, rows_from, table_of, Holds}
use Rattle.tables.specs.declared.TableRecord.{TableRecord}
use Rattle.theory.specs.Arithmetic.{arithmetic_number, Weight}
use Rattle.theory.specs.declared.Direction.{Direction}
use Rattle.model.proofs.Each.{each_at}
use Rattle.theory.specs.Profile.{Use}
use Rattle.theory.specs.Uses.{uses}
use Rattle.tables.specs.Rows.{Row}
use Rattle.uses.specs.Theory.{rank_at, Ranked}

-- the theory's uses of a record's table
abbrev pub uses_in : (t : TableRecord) → Direction → List (Use (Weight (arithmetic_number t.arithmetic)))
uses_in t d = uses (arithmetic_number t.arithmetic) d (rows_from (columns_of t) 0 t.count)

module _ {t : TableRecord} (holds : Holds t (table_of t)) (proper : Proper (table_of t)) where
  pub count_few : t.count ≤ 4000
  count_few = omega (arith, rows_length (columns_of t) 0 t.count, proper.transitions_few)

  pub transition : (j : ℕ) → j < t.count → ProperTransition (take t.symbols t.ranks) t.states (row_at (columns_of t) j)
  transition j l = each_row _ (columns_of t) 0 t.count proper.transitions_proper j (omega arith) (omega arith)

  pub symbol_known : (j : ℕ) → j < t.count → get_or t.symbol j 0 < 128
  symbol_known j l = omega (arith, (transition j l).symbol_known, proper.symbols_few)

  rank_same : (j : ℕ) → j < t.count → get_or (take t.symbols t.ranks) (get_or t.symbol j 0) 0 ≡ rank_at (columns_of t) j
  rank_same j l = get_or-take t.symbols t.ranks (get_or t.symbol j 0) 0 (omega (arith, (transition j l).symbol_known, holds.symbols))

  pub ranked : Ranked (columns_of t) t.count
  ranked j l = (
    (transition j l).children_many ∙ rank_same j l,
    subst (λ (x : ℕ). x ≤ 4) (rank_same j l) (each_at (λ k. k ≤ 4) (take t.symbols t.ranks) (get_or t.symbol j 0) 0 proper.ranks_small (transition j l).symbol_known),
  )

  pub row : (j : ℕ) → j < t.count → Row t.ranks t.symbol j
  row j l = record { inside = omega (arith, count_few); known = symbol_known j l; rank_small = (ranked j l).1 }

  pub child_known : (j k : ℕ) → j < t.count → k < rank_at (columns_of t) j → get_or t.children (j * 4 + k) 0 < t.states
  child_known j k l h =
      let r = ranked j l in
      subst (λ (x : ℕ). x < t.states) (get_or-take (rank_at (columns_of t) j) (drop (j * 4) t.children) k 0 h ∙ get_or-drop (j * 4) t.children k 0)
      (each_at (λ q. q < t.states) (row_at (columns_of t) j).children k 0 (transition j l).children_known (omega (arith, r.0)))

  pub final_fits : (q : ℕ) → q < t.states → get_or t.finals q 0 < 2 ^ 32
  final_fits q l = subst (λ (x : ℕ). x < 2 ^ 32) (get_or-take t.states t.finals q 0 l) (each_at (λ x. x < 2 ^ 32) (take t.states t.finals) q 0 proper.finals_fit (omega (arith, proper.finals_many)))
