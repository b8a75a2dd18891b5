-- What the steps of weighing need and leave.
use Rattle.std.specs.Prelude.{Ok, ℕ, ◌+◌, ◌*◌, ◌≤◌, ◌<◌, ◌≡◌, ◌⊎◌, List, ◌++◌, ℤ, length, get_or, drop}
use Rattle.theory.specs.Weight.{weight}
use Rattle.theory.specs.Sheet.{sheet}
use Rattle.model.specs.Table.{Table, Proper}
use Rattle.arith.specs.Numbers.{number_of}
use Rattle.trees.specs.Read.{tree_read}
use Rattle.trees.specs.Finished.{tree_of}
use Rattle.tables.specs.Record.{table_of}
use Rattle.tables.specs.declared.TableRecord.{TableRecord}

-- `count` entries from `from` on are as P says, and the others are as they were; `missing` stands for entries behind the end
pub record Replaced {A : Type 0} (missing : A) (from count : ℕ) (P : ℕ → A → Type 0) (before after : List A) : Type 0 where
  pub same_length : length after ≡ length before
  pub new : (q : ℕ) → q < count → P q (get_or after (from + q) missing)
  pub others : (p : ℕ) → (p < from) ⊎ (from + count ≤ p) → get_or after p missing ≡ get_or before p missing

-- a table in memory that is within 01's bounds
pub record Held (t : TableRecord) : Type 0 where
  pub proper : Proper (table_of t)
  pub symbols : t.symbols ≡ length (table_of t).ranks

-- a table in memory, a tree of it, and room for its sheet
pub record Weighable (t : TableRecord) (tree : List ℕ) (sheet : List ℤ) : Type 0 where
  pub proper : Proper (table_of t)
  pub symbols_are : t.symbols ≡ length (table_of t).ranks
  pub accepted : tree_read (table_of t).ranks tree ≡ Ok (length tree)
  pub room : length tree * t.states ≤ length sheet

-- the sheet is filled with the tree's weights, and x is the weight of the tree
pub record Summed (X : Table) (tree : List ℕ) (before after : List ℤ) (x : ℤ) : Type 0 where
  pub rows : after ≡ sheet X.arithmetic X (tree_of X.ranks tree) ++ drop (length tree * X.states) before
  pub total : x ≡ number_of X.arithmetic (weight X.arithmetic X (tree_of X.ranks tree))
