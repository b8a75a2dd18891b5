-- Programs that the promises rule out, each by its answer on a small table (document 01, "How tight the promises are" and "Course errors to
-- rule out"). The rooms are lent full of zeros. What is allowed instead is in Examples and Shrinking.
use Rattle.std.specs.Prelude.{ℕ, ◌<◌, ◌≡◌, refl, Bool, true, false, List, [], ◌∷◌, Result, Ok, Err, leb, replicate}
use Rattle.std.proofs.Common.{ap, arith}
use Rattle.answers.specs.declared.Refusal.{Refusal}
use Rattle.model.specs.Table.{Table}
use Rattle.theory.specs.Direction.{direction}
use Rattle.format.specs.Read.{Found, found, refused, table_read}
use Rattle.format.specs.Written.{bytes_of}
use Rattle.calls.specs.Answers.{fits, filled}
use Rattle.collapse.specs.Promises.{Blocks, BlocksFrom, BlocksPut, blocks_answer, PutFrom, written, states_beside, transitions_beside, Collapses, ShrinksTo}
use Rattle.format.specs.Examples.{bytes_a}
use Rattle.collapse.specs.Examples.{bytes_b, bytes_c, bytes_d, bytes_e, examples}
use Rattle.collapse.specs.Shrinking.{bytes_g, bytes_g_once, blocks_of_G, shrink_of_G, shrink_of_B}
use Rattle.collapse.specs.declared.Counted.{Counted}

abbrev zeros : ℕ → List ℕ
zeros n = replicate n 0

never : ◌≡◌ {A = ℕ} 0 1 → ⊥
never e = omega arith

-- Blocks.

-- one that refuses all tables
pub blocks_refuses : (refusal : Refusal) (room : List ℕ) → Blocks 0 bytes_a (zeros 3) (Err refusal) room → ⊥
blocks_refuses refusal room p = never (cc ((examples.p1.exactly (zeros 3) (omega arith) _ _).0 p).0)

-- one that leaves the room untouched under code 0
pub blocks_leaves_room : (n : ℕ) → Blocks 0 bytes_a (zeros 3) (Ok n) (zeros 3) → ⊥
blocks_leaves_room n p = never (cc ((examples.p1.exactly (zeros 3) (omega arith) _ _).0 p).1)

-- one that gives every table the same blocks: no answer is allowed for A and for B
pub blocks_same : (answer : Result ℕ Refusal) (room : List ℕ) → Blocks 0 bytes_a (zeros 3) answer room → Blocks 0 bytes_b (zeros 3) answer room → ⊥
blocks_same answer room p q = never (cc (((examples.p1.exactly (zeros 3) (omega arith) _ _).0 p).1, ((examples.p5_backward.exactly (zeros 3) (omega arith) _ _).0 q).1))

-- one that puts all states into one block
pub blocks_together : (answer : Result ℕ Refusal) → Blocks 1 bytes_a (zeros 3) answer (0 ∷ 0 ∷ 0 ∷ []) → ⊥
blocks_together answer p = never (cc ((examples.p3.exactly (zeros 3) (omega arith) _ _).0 p).1)

-- one that gives every state its own block
pub blocks_apart : (answer : Result ℕ Refusal) → Blocks 0 bytes_a (zeros 3) answer (0 ∷ 1 ∷ 2 ∷ []) → ⊥
blocks_apart answer p = never (cc ((examples.p1.exactly (zeros 3) (omega arith) _ _).0 p).1)

-- one whose figure is not the number of the blocks
pub blocks_number : (n : ℕ) (room : List ℕ) → (n ≡ 2 → ⊥) → Blocks 0 bytes_a (zeros 3) (Ok n) room → ⊥
blocks_number n room other p = other (cc ((examples.p1.exactly (zeros 3) (omega arith) _ _).0 p).0)

-- one that stops after one pass: 0 and 1 of E share a block
pub blocks_one_pass : (answer : Result ℕ Refusal) → Blocks 1 bytes_e (zeros 4) answer (0 ∷ 0 ∷ 1 ∷ 2 ∷ []) → ⊥
blocks_one_pass answer p = never (cc ((examples.p8.exactly (zeros 4) (omega arith) _ _).0 p).1)

-- one that splits by final weights backward
pub blocks_split_by_finals : (answer : Result ℕ Refusal) → Blocks 0 bytes_g (zeros 3) answer (0 ∷ 1 ∷ 2 ∷ []) → ⊥
blocks_split_by_finals answer p = never (cc ((blocks_of_G.exactly (zeros 3) (omega arith) _ _).0 p).1)

-- Collapse.

-- one that refuses all tables
pub collapse_refuses : (refusal : Refusal) (room : List ℕ) → Collapses 0 bytes_a (zeros 15) (Err refusal) room → ⊥
collapse_refuses refusal room p = never (cc ((examples.p2.exactly (zeros 15) (omega arith) _ _).0 p).0)

-- one that leaves the room untouched under code 0
pub collapse_leaves_room : (c : Result Counted Refusal) → Collapses 0 bytes_a (zeros 15) c (zeros 15) → ⊥
collapse_leaves_room c p = never (cc ((examples.p2.exactly (zeros 15) (omega arith) _ _).0 p).1)

-- one that copies its input
pub collapse_copies : (c : Result Counted Refusal) → Collapses 0 bytes_a (zeros 23) c bytes_a → ⊥
collapse_copies c p = never (cc ((examples.p2.exactly (zeros 23) (omega arith) _ _).0 p).1)

-- one whose count of states or of transitions is not that of the bytes written
pub collapse_counts : (c : Result Counted Refusal) (room : List ℕ) → ((states_beside c ≡ 2) × (transitions_beside c ≡ 2) → ⊥) → Collapses 0 bytes_a (zeros 15) c room → ⊥
collapse_counts c room other p = let e = ((examples.p2.exactly (zeros 15) (omega arith) _ _).0 p).0 in other (ap states_beside e, ap transitions_beside e)

-- one that keeps one member's transition: 5 or 7 for 12
pub collapse_keeps_one : (c : Result Counted Refusal) (code : ℕ) → code < 12 → Collapses 0 bytes_a (zeros 15) c (0 ∷ 2 ∷ 2 ∷ 0 ∷ 1 ∷ 0 ∷ 1 ∷ 2 ∷ 0 ∷ 0 ∷ 3 ∷ 1 ∷ 0 ∷ 1 ∷ code ∷ []) → ⊥
collapse_keeps_one c code less p = let e : code ≡ 12 = cc ((examples.p2.exactly (zeros 15) (omega arith) _ _).0 p).1 in omega arith

-- one that sums final weights in a forward collapse: D's states 1 and 2 would have 2 for 1
pub collapse_sums_finals : (c : Result Counted Refusal) → Collapses 1 bytes_d (zeros 11) c (0 ∷ 2 ∷ 2 ∷ 0 ∷ 1 ∷ 0 ∷ 2 ∷ 1 ∷ 0 ∷ 0 ∷ 1 ∷ []) → ⊥
collapse_sums_finals c p = never (cc ((examples.p7_vanishes.exactly (zeros 11) (omega arith) _ _).0 p).1)

-- one that writes the transition whose sum wrapped to 0
pub collapse_writes_zero : (c : Result Counted Refusal) → Collapses 1 bytes_d (zeros 15) c (0 ∷ 2 ∷ 2 ∷ 0 ∷ 1 ∷ 0 ∷ 1 ∷ 2 ∷ 0 ∷ 0 ∷ 1 ∷ 1 ∷ 0 ∷ 1 ∷ 0 ∷ []) → ⊥
collapse_writes_zero c p = never (cc ((examples.p7_vanishes.exactly (zeros 15) (omega arith) _ _).0 p).1)

-- one that takes "nothing" for the number 0: the final weight of C's states 0 and 1 would have the code 1
pub collapse_nothing_as_zero : (c : Result Counted Refusal) → Collapses 0 bytes_c (zeros 15) c (1 ∷ 2 ∷ 2 ∷ 0 ∷ 1 ∷ 1 ∷ 1 ∷ 2 ∷ 0 ∷ 0 ∷ 7 ∷ 1 ∷ 0 ∷ 1 ∷ 15 ∷ []) → ⊥
collapse_nothing_as_zero c p = never (cc ((examples.p6_seven.0.exactly (zeros 15) (omega arith) _ _).0 p).1)

-- Shrink.

-- one that refuses all tables
pub shrink_refuses : (refusal : Refusal) (room : List ℕ) → ShrinksTo 0 bytes_g (zeros 9) (Err refusal) room → ⊥
shrink_refuses refusal room p = never (cc ((shrink_of_G.exactly (zeros 9) (omega arith) _ _).0 p).0)

-- one that leaves the room untouched under code 0
pub shrink_leaves_room : (c : Result Counted Refusal) → ShrinksTo 0 bytes_g (zeros 9) c (zeros 9) → ⊥
shrink_leaves_room c p = never (cc ((shrink_of_G.exactly (zeros 9) (omega arith) _ _).0 p).1)

-- one that copies its input
pub shrink_copies : (c : Result Counted Refusal) → ShrinksTo 0 bytes_g (zeros 17) c bytes_g → ⊥
shrink_copies c p = never (cc ((shrink_of_G.exactly (zeros 17) (omega arith) _ _).0 p).1)

-- one that makes one real collapse and copies from then on
pub shrink_once : (c : Result Counted Refusal) → ShrinksTo 0 bytes_g (zeros 13) c bytes_g_once → ⊥
shrink_once c p = never (cc ((shrink_of_G.exactly (zeros 13) (omega arith) _ _).0 p).1)

-- one that turns to the other side although the first collapse merged no states
pub shrink_goes_on : (c : Result Counted Refusal) (room : List ℕ) → states_beside c ≡ 2 → ShrinksTo 0 bytes_b (zeros 23) c room → ⊥
shrink_goes_on c room e p = let f = ap states_beside ((shrink_of_B.exactly (zeros 23) (omega arith) _ _).0 p).0 in absurd (omega arith)

-- one whose count of states or of transitions is not that of the bytes written
pub shrink_counts : (c : Result Counted Refusal) (room : List ℕ) → ((states_beside c ≡ 1) × (transitions_beside c ≡ 1) → ⊥) → ShrinksTo 0 bytes_g (zeros 9) c room → ⊥
shrink_counts c room other p = let e = ((shrink_of_G.exactly (zeros 9) (omega arith) _ _).0 p).0 in other (ap states_beside e, ap transitions_beside e)

-- Refusals of all three: one that touches a byte of the room, or has counts.

pub blocks_refusal : (d : ℕ) (table before : List ℕ) (refusal : Refusal) (room : List ℕ) → Blocks d table before (Err refusal) room → room ≡ before
blocks_refusal d table before refusal room = go (leb d 1) (table_read table)
  where
    put : (X : Table) (p : BlocksPut (direction d) X before (Err refusal) room) (b : Bool) (n : ℕ) → Err refusal ≡ blocks_answer b X.states n → room ≡ filled b p.blocks before → room ≡ before
    put X p true n e f = absurd (never (cc))
    put X p false n e f = f

    go : (known : Bool) (x : Found Table) → BlocksFrom known (direction d) x before (Err refusal) room → room ≡ before
    go false x p = p.1
    go true (refused r) p = p.1
    go true (found X end) p = put X p (fits p.blocks before) _ p.answer_is p.room_is

put_refusal : (R : Table → Table → Type 0) (known : Bool) (x : Found Table) (before : List ℕ) (refusal : Refusal) (room : List ℕ) → PutFrom known x R before (Err refusal) room → room ≡ before
put_refusal R false x before refusal room p = p.1
put_refusal R true (refused r) before refusal room p = p.1
put_refusal R true (found X end) before refusal room p = put (fits (bytes_of p.table) before) p.answer_is p.room_is
  where
    put : (b : Bool) → Err refusal ≡ written b p.table → room ≡ filled b (bytes_of p.table) before → room ≡ before
    put true f g = absurd (never (cc))
    put false f g = g

pub collapse_refusal : (d : ℕ) (table before : List ℕ) (refusal : Refusal) (room : List ℕ) → Collapses d table before (Err refusal) room
    → (states_beside (Err refusal) ≡ 0) × (transitions_beside (Err refusal) ≡ 0) × (room ≡ before)
collapse_refusal d table before refusal room p = (refl, refl, put_refusal _ (leb d 1) (table_read table) before refusal room p)

pub shrink_refusal : (d : ℕ) (table before : List ℕ) (refusal : Refusal) (room : List ℕ) → ShrinksTo d table before (Err refusal) room
    → (states_beside (Err refusal) ≡ 0) × (transitions_beside (Err refusal) ≡ 0) × (room ≡ before)
shrink_refusal d table before refusal room p = (refl, refl, put_refusal _ (leb d 1) (table_read table) before refusal room p)
