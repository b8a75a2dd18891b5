-- A table that was taken has at most 256 states.
use Rattle.std.specs.Prelude.{ℕ, ◌≤◌, ◌<◌, List, get_or, Ok}
use Rattle.std.proofs.Common.{arith}
use Rattle.format.specs.Read.{table_read}
use Rattle.tables.specs.Steps.{ReadingIs}
use Rattle.tables.specs.declared.TableRecord.{TableRecord}
use Rattle.calls.specs.Readings.{reading_taken, taken_proper}

pub states_few : (table : List ℕ) (r : TableRecord) → ReadingIs (table_read table) (Ok r) → ((i : ℕ) → get_or table i 0 < 256) → r.states ≤ 256
states_few table r h bytes =
    let t = reading_taken (table_read table) r h in
    let few = (taken_proper table bytes r t).states_few in
    omega (arith, t.states, few)
