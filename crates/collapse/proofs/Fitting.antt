-- Bytes that go to the front of a room if they fit.
use Rattle.std.proofs.Common.{ℕ, ◌≤◌, ◌<◌, ◌≡◌, List, ◌++◌, Result, Ok, Err, length, drop, ap, ◌∙◌, zero-add, le-leb, arith}
use Rattle.std.proofs.Math.Seq.{sets-eq}
use Rattle.std.proofs.lemmas.Bool.{lt-leb}
use Rattle.answers.specs.declared.Refusal.{Refusal}
use Rattle.answers.specs.declared.Refusal.TheVariants.{RoomTooShort}
use Rattle.model.specs.Table.{Table}
use Rattle.format.specs.Written.{bytes_of}
use Rattle.writer.specs.Put.{Put}
use Rattle.calls.specs.Answers.{fits, filled}
use Rattle.collapse.specs.Promises.{blocks_answer, written}
use Rattle.collapse.specs.declared.Counted.{Counted}

-- a table whose form was put at the front of a room
module _ (Y : Table) (before room : List ℕ) (next : ℕ) (put : Put before 0 (bytes_of Y) room next) (inside : length (bytes_of Y) ≤ length before) where
  pub put_filled : room ≡ filled (fits (bytes_of Y) before) (bytes_of Y) before
  put_filled =
      put.room_is ∙ sets-eq (bytes_of Y) before 0 (omega arith) ∙ ap (λ (k : ℕ). bytes_of Y ++ drop k before) (zero-add (length (bytes_of Y)))
      ∙ rw (le-leb (length (bytes_of Y)) (length before) inside)

  -- and its counts
  pub put_counted : (states transitions : ℕ) → states ≡ Y.states → transitions ≡ length Y.transitions
      → ◌≡◌ {A = Result Counted Refusal} (Ok (record { length = next; states = states; transitions = transitions })) (written (fits (bytes_of Y) before) Y)
  put_counted states transitions e f = rw (le-leb (length (bytes_of Y)) (length before) inside, put.next_is ∙ zero-add (length (bytes_of Y)), e, f)

-- a list that does not fit
module _ (bytes room : List ℕ) (short : length room < length bytes) where
  pub room_kept : room ≡ filled (fits bytes room) bytes room
  room_kept = rw (lt-leb (length bytes) (length room) short)

  pub blocks_short : (states number : ℕ) → Err (RoomTooShort states) ≡ blocks_answer (fits bytes room) states number
  blocks_short states number = rw (lt-leb (length bytes) (length room) short)
