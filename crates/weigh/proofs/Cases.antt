-- The cases of the promise, as the tests at run time tell them apart.
use Prim.Native.Nat.{ℕ, ◌*◌, ◌≤◌, ◌<◌}
use mathlib.Core.Path.{◌≡◌, sym, ap, ◌∙◌, subst}
use mathlib.Core.List.{List, ◌++◌}
use native.Mathlib.Omega.{arith}
use native.Mathlib.Nat.{mul-le-mul}
use borrow.Author.Tests.{le-leb}
use lib.IntN.{ℤ}
use lib.ListN.{length, get_or, drop}
use Rattle.std.specs.Prelude.{Result, Ok}
use Rattle.model.specs.Table.{Table, Proper}
use Rattle.answers.specs.declared.Refusal.{Refusal}
use Rattle.theory.specs.Weight.{value}
use Rattle.theory.specs.Sheet.{sheet}
use Rattle.format.specs.Read as format
use Rattle.roundtrip.specs.Tables.{table_sound}
use Rattle.tables.specs.Record.{table_of}
use Rattle.tables.specs.Steps.{ReadingIs, reading_found}
use Rattle.tables.specs.declared.TableRecord.{TableRecord}
use Rattle.trees.specs.Read.{tree_read}
use Rattle.trees.specs.Finished.{tree_of}
use Rattle.trees.specs.Written.{accepted, nodes_are_bytes}
use Rattle.weigh.specs.declared.Weighing.{Weighing}
use Rattle.weigh.specs.Asked.{asked_by, answered, filled}
use Rattle.weigh.specs.Steps.{Held, Summed}

-- the answer and the sheet are those that are asked for
pub record Kept (X : Table) (tree : List ℕ) (before : List ℤ) (w : Result Weighing Refusal) (after : List ℤ) : Type 0 where
  pub answer : w ≡ answered (asked_by X tree (length before))
  pub sheet : after ≡ filled (asked_by X tree (length before)) before

module _ (X : Table) (tree : List ℕ) (before : List ℤ) where
  module _ (nodes : ℕ) (found : tree_read X.ranks tree ≡ Ok nodes) where
    -- the room that is needed is at most 4,096 times 256
    pub needed_small : Proper X → nodes * X.states ≤ 1048576
    needed_small proper =
        let tree-small = accepted X.ranks tree nodes found in
        let nodes_few : nodes ≤ 4096 = omega arith in
        mul-le-mul nodes_few proper.states_few

    pub tree_weighed : nodes * X.states ≤ length before → (x : ℤ) (after : List ℤ) → Summed X tree before after x → Kept X tree before (Ok (record { nodes = nodes; weight = x })) after
    unfolding value
    tree_weighed enough x after summed =
        let b = le-leb (nodes * X.states) (length before) enough in
        let same = nodes_are_bytes X.ranks tree nodes found in
        record {
          answer = rw (found, b) (ap (λ (y : ℤ). Ok (record { nodes = nodes; weight = y })) summed.total);
          sheet = rw (found, b) (summed.rows ∙ ap (λ (k : ℕ). Rattle.theory.specs.Sheet.sheet X.arithmetic X (tree_of X.ranks tree) ++ drop (k * X.states) before) (sym same));
        }

-- the record that was read is the table that the bytes are, and within 01's bounds
pub record ReadTable (bytes : List ℕ) (t : TableRecord) : Type 0 where
  pub end : ℕ
  pub is_found : format.table_read bytes ≡ format.found (table_of t) end
  pub held : Held t

pub table-read : (bytes : List ℕ) → ((i : ℕ) → get_or bytes i 0 < 256) → (t : TableRecord) → ReadingIs (format.table_read bytes) (Ok t) → ReadTable bytes t
table-read bytes small t h =
    let (X, end, found, holds) = reading_found (format.table_read bytes) t h in
    record {
      end = end;
      is_found = found ∙ ap (λ (Y : Table). format.found Y end) (sym holds.table);
      held = record { proper = subst Proper (sym holds.table) (table_sound bytes small X end found).0; symbols = holds.symbols ∙ ap (λ (Y : Table). length Y.ranks) (sym holds.table) };
    }
