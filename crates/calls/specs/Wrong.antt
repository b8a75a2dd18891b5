-- Programs that the promises rule out, each by its answer on a small table. (Others are must-fail edits. Document 01's "Run only"
-- examples that are refused are readings, in format/specs/Examples.antt.)
use Rattle.std.specs.Prelude.{Result, Ok, Err, ℕ, ◌≤◌, ◌<◌, ◌≡◌, refl, Bool, true, false, List, [], ◌∷◌, ◌++◌}
use Rattle.std.proofs.Common.{sym, ap, ◌∙◌, arith, le-leb}
use lib.ListN.{length, drop, get_or, replicate}
use Rattle.answers.specs.declared.Refusal.{Refusal}
use Rattle.answers.specs.declared.Refusal.TheVariants.{TableEnds}
use Rattle.numbers.specs.Written.{groups}
use Rattle.numbers.specs.Read.{number_at, more_from}
use Rattle.model.specs.Table.{Table}
use Rattle.format.specs.Examples.{bytes_a}
use Rattle.format.specs.Written.{bytes_of}
use Rattle.format.specs.Read.{Found, found, refused, many, transition_at, transitions_at, table_read}
use Rattle.roundtrip.specs.Tables.{table_sound}
use Rattle.calls.specs.declared.Which.TheVariants.{First, Second}
use Rattle.calls.specs.Answers.{checked, Checks, fits, fitted, filled, rewritten_answer, rewritten_room, Rewrites}
use Rattle.calls.specs.Picking.{picked, pick_code}

a_checked : checked (table_read bytes_a) ≡ Ok 3
unfolding table_read many transitions_at transition_at number_at more_from
a_checked = refl

never_both : (n : ℕ) (refusal : Refusal) → Ok n ≡ Err refusal → ⊥
never_both n refusal e = cc

-- one that refuses all tables
pub refuses_all : (refusal : Refusal) → Checks bytes_a (Err refusal) → ⊥
refuses_all refusal p = never_both 3 refusal (sym a_checked ∙ sym p.answer_is)

a_written : rewritten_room (table_read bytes_a) (replicate 23 0) ≡ bytes_a
unfolding table_read many transitions_at transition_at number_at more_from groups
a_written = refl

-- one that leaves the room untouched under code 0
pub leaves_room : Rewrites bytes_a (replicate 23 0) (Ok 23) (replicate 23 0) → ⊥
leaves_room p =
    let same : replicate 23 0 ≡ bytes_a = p.room_is ∙ a_written in
    let z : ◌≡◌ {A = ℕ} 0 3 = ap (λ (l : List ℕ). lib.ListN.get_or l 1 0) same in
    omega arith

a_rewritten : rewritten_answer (table_read bytes_a) (replicate 23 0) ≡ Ok 23
unfolding table_read many transitions_at transition_at number_at more_from groups
a_rewritten = refl

-- one that refuses all tables
pub rewrite_refuses : (refusal : Refusal) (room : List ℕ) → Rewrites bytes_a (replicate 23 0) (Err refusal) room → ⊥
rewrite_refuses refusal room p = never_both 23 refusal (sym a_rewritten ∙ sym p.answer_is)

-- a table read and written again gives its own bytes
pub rewrite_own_bytes : (table : List ℕ) → ((i : ℕ) → get_or table i 0 < 256) → (X : Table) (end : ℕ) → table_read table ≡ found X end
    → (before : List ℕ) → length table ≤ length before → (a : Result ℕ Refusal) (room : List ℕ) → Rewrites table before a room
    → (a ≡ Ok (length table)) × (room ≡ table ++ drop (length table) before)
rewrite_own_bytes table bytes X end e before long a room p =
    let form = (table_sound table bytes X end e).1 in
    (p.answer_is ∙ rw (e, ← form, le-leb), p.room_is ∙ rw (e, ← form, le-leb))

-- one that always picks the first, one that prefers the second, and one that forgets the 100: A and A without its last transition, A and no bytes
pub pick_fewer : picked bytes_a (0 ∷ 3 ∷ 2 ∷ 0 ∷ 1 ∷ 0 ∷ 0 ∷ 1 ∷ 3 ∷ 0 ∷ 0 ∷ 3 ∷ 0 ∷ 1 ∷ 3 ∷ 1 ∷ 0 ∷ 2 ∷ 5 ∷ []) ≡ Ok Second
unfolding table_read many transitions_at transition_at number_at more_from
pick_fewer = refl

pub pick_tie : picked bytes_a bytes_a ≡ Ok First
unfolding table_read many transitions_at transition_at number_at more_from
pick_tie = refl

pub pick_refused : (picked bytes_a [] ≡ Err (Second, TableEnds 0)) × (pick_code (picked bytes_a []) ≡ 101)
unfolding table_read many transitions_at transition_at number_at more_from
pick_refused = (refl, refl)

-- one that does not tell a padded number of the second table from one that is too large
pub pick_broken : (pick_code (picked bytes_a (128 ∷ 0 ∷ [])) ≡ 102) × (pick_code (picked bytes_a (255 ∷ 255 ∷ 255 ∷ 255 ∷ 16 ∷ [])) ≡ 119)
unfolding table_read many transitions_at transition_at number_at more_from
pick_broken = (refl, refl)

-- one whose refusal, of whatever number, touches a byte
pub rewrite_refusal : (table before : List ℕ) (refusal : Refusal) (room : List ℕ) → Rewrites table before (Err refusal) room → room ≡ before
rewrite_refusal table before refusal room p = go (table_read table) p.answer_is p.room_is
  where
    either : (X : Table) (b : Bool) → Err refusal ≡ fitted b (length (bytes_of X)) → room ≡ filled b (bytes_of X) before → room ≡ before
    either X true e f = absurd (never_both (length (bytes_of X)) refusal (sym e))
    either X false e f = f

    go : (x : Found Table) → Err refusal ≡ rewritten_answer x before → room ≡ rewritten_room x before → room ≡ before
    go (found X end) e f = either X (fits (bytes_of X) before) e f
    go (refused r) e f = f
