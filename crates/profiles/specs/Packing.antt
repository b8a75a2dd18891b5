-- Numbers of eight bits, packed into one number: the blocks and states of a key.
use Rattle.std.specs.Prelude.{ℕ, zero, suc, ◌+◌, ◌*◌, ◌≤◌, ◌<◌, List, [], ◌∷◌, ◌++◌, ◌≡◌, refl, length}
use Rattle.std.proofs.Math.Decide.{dec_lt}
use Rattle.std.proofs.Common.{add-zero, add-one, arith}
use Rattle.model.specs.Table.{Each}

-- the numbers xs behind n, eight bits each
abbrev pub packed : ℕ → List ℕ → ℕ
packed n [] = n
packed n (x ∷ xs) = packed (n * 256 + x) xs

pub packed_append : (n : ℕ) (xs ys : List ℕ) → packed n (xs ++ ys) ≡ packed (packed n xs) ys
packed_append n [] ys = refl
packed_append n (x ∷ xs) ys = packed_append (n * 256 + x) xs ys

-- what k numbers of eight bits hold
abbrev pub room : ℕ → ℕ
room zero = 1
room (suc k) = room k * 256

pub room_next : (n k x : ℕ) → n < room k → x < 256 → n * 256 + x < room (k + 1)
room_next n k x h l = rw (add-one k) (omega arith)

pub room_more : (n k : ℕ) → n < room k → n < room (k + 1)
room_more n k h = rw (add-one k) (omega arith)

pub room_ascends : (k n : ℕ) → k ≤ n → room k ≤ room n
room_ascends zero zero h = omega arith
room_ascends (suc k) zero h = absurd (omega arith)
room_ascends k (suc n) h = go (dec_lt n k) (room_ascends k n)
  where
    go : Dec (n < k) → (k ≤ n → room k ≤ room n) → room k ≤ room (suc n)
    go (yes l) f = let e : k ≡ suc n = omega arith in rw e (omega arith)
    go (no l) f = omega (arith, f (omega arith))

pub packed_room : (n k : ℕ) (xs : List ℕ) → n < room k → Each (λ x. x < 256) xs → packed n xs < room (k + length xs)
packed_room n k [] h b = rw (add-zero k) h
packed_room n k (x ∷ xs) h b =
    let e : k + suc (length xs) ≡ k + 1 + length xs = omega arith in
    rw e (packed_room (n * 256 + x) (k + 1) xs (room_next n k x h b.0) b.1)

-- at most k numbers have room for k
pub packed_few : (k : ℕ) (xs : List ℕ) → Each (λ x. x < 256) xs → length xs ≤ k → packed 0 xs < room k
packed_few k xs b few =
    let e : 0 + length xs ≡ length xs = omega arith in
    omega (arith, rw e at (packed_room 0 0 xs (omega arith) b), room_ascends (length xs) k few)
