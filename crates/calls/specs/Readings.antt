-- What the reader's promise gives to the calls, case by case.
use Rattle.std.specs.Prelude.{Result, Ok, Err, ℕ, ◌+◌, ◌≤◌, ◌<◌, ◌≡◌, List, ◌++◌, length, drop, get_or}
use Rattle.std.proofs.Common.{sym, ap, ◌∙◌, subst, arith, zero-add, le-leb}
use Rattle.std.proofs.lemmas.List.Edits.{sets, sets-eq}
use Rattle.std.proofs.lemmas.Bool.{lt-leb}
use Rattle.answers.specs.declared.Refusal.{Refusal}
use Rattle.answers.specs.declared.Refusal.TheVariants.{RoomTooShort}
use Rattle.model.specs.Table.{Table, Proper}
use Rattle.format.specs.Read.{Found, found, refused, table_read}
use Rattle.format.specs.Written.{bytes_of}
use Rattle.tables.specs.Record.{table_of, Holds}
use Rattle.tables.specs.Steps.{ReadingIs, reading_found}
use Rattle.tables.specs.declared.TableRecord.{TableRecord}
use Rattle.roundtrip.specs.Tables.{table_sound}
use Rattle.writer.specs.Put.{Put}
use Rattle.writer.specs.Writable.{Writable}
use Rattle.tables.specs.Rows.{columns_of, rows_length}
use Rattle.calls.specs.Answers.{checked, Checks, fits, Rewrites}

-- the answer that the reader's promise gives: the number of states, or the refusal
abbrev pub answered : Result TableRecord Refusal → Result ℕ Refusal
answered (Ok r) = Ok r.states
answered (Err refusal) = Err refusal

pub reading_checks : (table : List ℕ) (r : Result TableRecord Refusal) → ReadingIs (table_read table) r → Checks table (answered r)
reading_checks table r h = record { answer_is = go (table_read table) r h }
  where
    go : (x : Found Table) (r : Result TableRecord Refusal) → ReadingIs x r → answered r ≡ checked x
    go (found X end) (Ok r) h = ap (λ (Y : Table). Ok Y.states) h.table
    go (found X end) (Err refusal) h = absurd h
    go (refused refusal) (Ok r) h = absurd h
    go (refused refusal) (Err given) h = ap Err h

-- a table that was taken
pub record Taken (x : Found Table) (r : TableRecord) : Type 0 where
  pub table : Table
  pub end : ℕ
  pub seen : x ≡ found table end
  pub states : r.states ≡ table.states
  pub holds : Holds r table

pub reading_taken : (x : Found Table) (r : TableRecord) → ReadingIs x (Ok r) → Taken x r
reading_taken x r h =
    let (X, end, seen, holds) = reading_found x r h in
    record { table = X; end = end; seen = seen; states = ap (λ (Y : Table). Y.states) holds.table; holds = holds }

module _ (table : List ℕ) (bytes : (i : ℕ) → get_or table i 0 < 256) (r : TableRecord) (t : Taken (table_read table) r) where
  pub taken_proper : Proper t.table
  taken_proper = (table_sound table bytes t.table t.end t.seen).0

  pub taken_bytes : table ≡ bytes_of t.table
  taken_bytes = (table_sound table bytes t.table t.end t.seen).1

  pub taken_writable : Writable r
  taken_writable =
      record {
        proper = subst Proper (sym t.holds.table) taken_proper;
        symbols = t.holds.symbols ∙ sym (ap (λ (X : Table). length X.ranks) t.holds.table);
      }

  pub taken_count : r.count ≡ length t.table.transitions
  taken_count = sym (rows_length (columns_of r) 0 r.count) ∙ ap (λ (X : Table). length X.transitions) t.holds.table

  pub written_is : bytes_of (table_of r) ≡ table
  written_is = ap bytes_of t.holds.table ∙ sym taken_bytes

  long_as : length (bytes_of t.table) ≡ length table
  long_as = ap length (sym taken_bytes)

  pub rewrites_short : (before : List ℕ) → length before < length table → Rewrites table before (Err (RoomTooShort (length table))) before
  rewrites_short before h =
      let l = long_as in
      let no : fits (bytes_of t.table) before ≡ _ = lt-leb (length (bytes_of t.table)) (length before) (omega arith) in
      record {
        answer_is = rw (t.seen, no, l);
        room_is = rw (t.seen, no);
      }

  pub rewrites_done : (before room : List ℕ) (next : ℕ) → length table ≤ length before → Put before 0 (bytes_of (table_of r)) room next → Rewrites table before (Ok next) room
  rewrites_done before room next h put =
      let l = long_as in
      let same : bytes_of (table_of r) ≡ bytes_of t.table = ap bytes_of t.holds.table in
      let yes_fits : fits (bytes_of t.table) before ≡ _ = le-leb (length (bytes_of t.table)) (length before) (omega arith) in
      let end : next ≡ length (bytes_of t.table) = put.next_is ∙ zero-add (length (bytes_of (table_of r))) ∙ ap length same in
      let front : sets before 0 (bytes_of t.table) ≡ bytes_of t.table ++ drop (0 + length (bytes_of t.table)) before = sets-eq (bytes_of t.table) before 0 (omega arith) in
      record {
        answer_is = rw (t.seen, yes_fits, end);
        room_is = put.room_is ∙ rw (t.seen, yes_fits, same) (front ∙ ap (λ (k : ℕ). bytes_of t.table ++ drop k before) (zero-add (length (bytes_of t.table))));
      }

pub rewrites_refused : (table before : List ℕ) (refusal : Refusal) → table_read table ≡ refused refusal → Rewrites table before (Err refusal) before
rewrites_refused table before refusal e = record { answer_is = rw e; room_is = rw e }
