-- No list of more than 65,415 bytes is read as a table.
use Rattle.std.specs.Prelude.{ℕ, ◌≤◌, ◌<◌, ◌≡◌, List, length, get_or}
use Rattle.std.proofs.Common.{ap, arith}
use Rattle.model.specs.Table.{Table}
use Rattle.format.specs.Read.{found, table_read}
use Rattle.roundtrip.specs.Tables.{table_sound}
use Rattle.roundtrip.specs.Length.{table_length}

-- no longer list of bytes is read as a table
pub read_length : (s : List ℕ) → ((i : ℕ) → get_or s i 0 < 256) → (X : Table) (p : ℕ) → table_read s ≡ found X p → length s ≤ 65415
read_length s small X p e =
    let (proper, form, end) = table_sound s small X p e in omega (arith, ap length form, table_length X proper)
