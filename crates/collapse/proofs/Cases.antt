-- What the calls on the way give: a record that was read is a table within document 01's bounds, and its coarsest blocks are those of a bisimulation.
use Rattle.std.proofs.Common.{ℕ, ◌<◌, ◌≡◌, List, Ok, get_or, take, refl}
use Rattle.theory.specs.Blocks.{block_of, block_count}
use Rattle.theory.specs.Bisimulation as General
use Rattle.theory.specs.declared.Direction.{Direction}
use Rattle.theory.specs.Direction.{Agree, CoarsestBlocks}
use Rattle.theory.proofs.Uses.{agreement}
use Rattle.format.specs.Read.{table_read}
use Rattle.tables.specs.Record.{table_of}
use Rattle.tables.specs.Steps.{ReadingIs}
use Rattle.tables.specs.declared.TableRecord.{TableRecord}
use Rattle.calls.specs.Readings.{reading_taken, taken_writable}
use Rattle.adding.specs.Collapsing.{Collapsible}
use Rattle.collapse.specs.Readable.{Readable}

pub taken_readable : (table : List ℕ) → ((i : ℕ) → get_or table i 0 < 256) → (r : TableRecord) → ReadingIs (table_read table) (Ok r) → Readable r
taken_readable table bytes r given =
    let w = taken_writable table bytes r (reading_taken (table_read table) r given) in
    record { holds = record { table = refl; symbols = w.symbols }; proper = w.proper }

pub collapsible : (d : Direction) (r : TableRecord) → Readable r → (list : List ℕ) → CoarsestBlocks d (table_of r) (take r.states list)
    → (number : ℕ) → number ≡ block_count (block_of (take r.states list)) r.states → Collapsible d r list number
collapsible d r readable list coarsest number many =
    let X = table_of r in
    record {
      holds = readable.holds;
      proper = readable.proper;
      numbered = coarsest.first_use;
      blocks_many = many;
      bisimulation = General.coarsest_bisimulation X.states (Agree X.arithmetic X d) (agreement X.arithmetic X readable.proper.transitions_proper d) (block_of (take r.states list)) coarsest.coarsest;
    }
