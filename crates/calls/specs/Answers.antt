-- The promises of check and rewrite (document 01, "Numbers that come back").
use Rattle.std.specs.Prelude.{Result, Ok, Err, ℕ, ◌≡◌, Bool, true, false, List, ◌++◌, length, drop, leb}
use Rattle.std.proofs.Common.{sym, ◌∙◌}
use Rattle.answers.specs.declared.Refusal.{Refusal}
use Rattle.answers.specs.declared.Refusal.TheVariants.{RoomTooShort}
use Rattle.model.specs.Table.{Table}
use Rattle.format.specs.Read.{Found, found, refused, table_read}
use Rattle.format.specs.Written.{bytes_of}

-- checking: done with the number of states, or the table's refusal
abbrev pub checked : Found Table → Result ℕ Refusal
checked (found X end) = Ok X.states
checked (refused refusal) = Err refusal

pub record Checks (table : List ℕ) (answer : Result ℕ Refusal) : Type 0 where
  pub answer_is : answer ≡ checked (table_read table)

-- bytes that are to go into a room: done with their length if they fit, else 12 with the room needed
abbrev pub fitted : Bool → ℕ → Result ℕ Refusal
fitted true needed = Ok needed
fitted false needed = Err (RoomTooShort needed)

-- the room afterwards: the bytes at its front if they fit, and behind them, or else everywhere, as it was
abbrev pub filled : Bool → List ℕ → List ℕ → List ℕ
filled true bytes room = bytes ++ drop (length bytes) room
filled false bytes room = room

abbrev pub fits : List ℕ → List ℕ → Bool
fits bytes room = leb (length bytes) (length room)

-- writing a read table again: its one written form
abbrev pub rewritten_answer : Found Table → List ℕ → Result ℕ Refusal
rewritten_answer (found X end) room = fitted (fits (bytes_of X) room) (length (bytes_of X))
rewritten_answer (refused refusal) room = Err refusal

abbrev pub rewritten_room : Found Table → List ℕ → List ℕ
rewritten_room (found X end) room = filled (fits (bytes_of X) room) (bytes_of X) room
rewritten_room (refused refusal) room = room

pub record Rewrites (table before : List ℕ) (answer : Result ℕ Refusal) (room : List ℕ) : Type 0 where
  pub answer_is : answer ≡ rewritten_answer (table_read table) before
  pub room_is : room ≡ rewritten_room (table_read table) before

-- any two answers that a promise allows are equal
pub check_decided : (table : List ℕ) (a b : Result ℕ Refusal) → Checks table a → Checks table b → a ≡ b
check_decided table a b p q = p.answer_is ∙ sym q.answer_is

pub rewrite_decided : (table before : List ℕ) (a b : Result ℕ Refusal) (r s : List ℕ) → Rewrites table before a r → Rewrites table before b s → (a ≡ b) × (r ≡ s)
rewrite_decided table before a b r s p q = (p.answer_is ∙ sym q.answer_is, p.room_is ∙ sym q.room_is)
