-- What is collapsed, and what it becomes.
use Rattle.std.specs.Prelude.{ℕ, ◌≡◌, List, take}
use Rattle.model.specs.Table.{Proper}
use Rattle.theory.specs.Blocks.{block_of, block_count, FirstUse}
use Rattle.theory.specs.Collapse.{Collapsed}
use Rattle.theory.specs.declared.Direction.{Direction}
use Rattle.theory.specs.Direction.{Bisimulation}
use Rattle.tables.specs.Record.{table_of, Holds}
use Rattle.tables.specs.declared.TableRecord.{TableRecord}

-- the block of each state of the record; the places of the array behind them do not count
abbrev pub blocks_of : TableRecord → List ℕ → List ℕ
blocks_of r blocks = take r.states blocks

-- the record is a table within document 01's bounds, and the blocks are those of a bisimulation, numbered by first use
pub record Collapsible (d : Direction) (r : TableRecord) (blocks : List ℕ) (number : ℕ) : Type 0 where
  pub holds : Holds r (table_of r)
  pub proper : Proper (table_of r)
  pub numbered : FirstUse r.states (block_of (blocks_of r blocks))
  pub blocks_many : number ≡ block_count (block_of (blocks_of r blocks)) r.states
  pub bisimulation : Bisimulation d (table_of r) (block_of (blocks_of r blocks))

-- the record is a table within document 01's bounds: the other one's collapse by the blocks
pub record CollapsedTo (d : Direction) (r : TableRecord) (blocks : List ℕ) (c : TableRecord) : Type 0 where
  pub holds : Holds c (table_of c)
  pub proper : Proper (table_of c)
  pub collapsed : Collapsed d (table_of r) (block_of (blocks_of r blocks)) (table_of c)
