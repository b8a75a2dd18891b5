-- Bytes put into a room from a place on.
use Rattle.std.specs.Prelude.{ℕ, suc, ◌+◌, ◌≡◌, List, [], ◌∷◌, ◌++◌, length, set}
use Rattle.std.proofs.Common.{sym, ap, ◌∙◌, arith, add-zero, length-append}
use Rattle.std.proofs.lemmas.List.Edits.{sets}

-- the bytes stand in the room from `at` on, the rest of it is as it was, and `next` is the place behind them
pub record Put (before : List ℕ) (at : ℕ) (bytes room : List ℕ) (next : ℕ) : Type 0 where
  pub room_is : room ≡ sets before at bytes
  pub next_is : next ≡ at + length bytes

sets_append : (room : List ℕ) (at : ℕ) (xs ys : List ℕ) → sets room at (xs ++ ys) ≡ sets (sets room at xs) (at + length xs) ys
sets_append room at [] ys = rw (add-zero at)
sets_append room at (x ∷ xs) ys =
    let e : suc at + length xs ≡ at + suc (length xs) = omega arith in
    sets_append (set room at x) (suc at) xs ys ∙ ap (λ (i : ℕ). sets (sets (set room at x) (suc at) xs) i ys) e

-- bytes put one after another are all of them put
pub put_both : {room mid after : List ℕ} {at next end : ℕ} (xs ys : List ℕ) → Put room at xs mid next → Put mid next ys after end → Put room at (xs ++ ys) after end
put_both {room} {mid} {after} {at} {next} {end} xs ys p q =
    record {
      room_is = rw (q.room_is, p.room_is, p.next_is) (sym (sets_append room at xs ys));
      next_is = omega (arith, p.next_is, q.next_is, length-append xs ys);
    }
