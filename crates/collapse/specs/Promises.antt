-- The promises of blocks, collapse and shrink (document 01, "Numbers that come back").
use Rattle.std.specs.Prelude.{ℕ, ◌<◌, ◌≡◌, refl, Bool, true, false, List, Result, Ok, Err, length, get_or, leb}
use Rattle.std.proofs.Common.{sym, ap, ◌∙◌}
use Rattle.answers.specs.declared.Refusal.{Refusal}
use Rattle.answers.specs.declared.Refusal.TheVariants.{RoomTooShort, NoDirection}
use Rattle.model.specs.Table.{Table}
use Rattle.theory.specs.Blocks.{block_of, block_count}
use Rattle.theory.specs.declared.Direction.{Direction}
use Rattle.theory.specs.Direction.{direction, CoarsestBlocks}
use Rattle.theory.proofs.Directions.{coarsest_blocks_unique}
use Rattle.theory.specs.Collapse.{CollapsedByCoarsest}
use Rattle.theory.proofs.Collapse.{collapsed_by_coarsest_unique}
use Rattle.theory.specs.Shrink.{Shrinks}
use Rattle.theory.proofs.Shrink.{shrinks_unique}
use Rattle.format.specs.Read.{Found, found, refused, table_read}
use Rattle.format.specs.Written.{bytes_of}
use Rattle.roundtrip.specs.Tables.{table_sound}
use Rattle.calls.specs.Answers.{fits, filled}
use Rattle.collapse.specs.declared.Counted.{Counted}

-- blocks: done with their number if the list fits, else 12 with the number of states
abbrev pub blocks_answer : Bool → ℕ → ℕ → Result ℕ Refusal
blocks_answer true states number = Ok number
blocks_answer false states number = Err (RoomTooShort states)

-- the coarsest blocks, one byte a state, go to the front of the room
pub record BlocksPut (d : Direction) (X : Table) (before : List ℕ) (answer : Result ℕ Refusal) (room : List ℕ) : Type 0 where
  pub blocks : List ℕ
  pub coarsest : CoarsestBlocks d X blocks
  pub answer_is : answer ≡ blocks_answer (fits blocks before) X.states (block_count (block_of blocks) X.states)
  pub room_is : room ≡ filled (fits blocks before) blocks before

-- 13 first, then the table; of a table that is found, P says what is answered and what the room holds then
abbrev pub Asked : {A : Type 0} → Bool → Found Table → (Table → Result A Refusal → List ℕ → Type 0) → List ℕ → Result A Refusal → List ℕ → Type 0
Asked false x P before answer room = (answer ≡ Err NoDirection) × (room ≡ before)
Asked true (refused refusal) P before answer room = (answer ≡ Err refusal) × (room ≡ before)
Asked true (found X end) P before answer room = P X answer room

abbrev pub BlocksFrom : Bool → Direction → Found Table → List ℕ → Result ℕ Refusal → List ℕ → Type 0
BlocksFrom known d x before = Asked known x (λ X. BlocksPut d X before) before

abbrev pub Blocks : ℕ → List ℕ → List ℕ → Result ℕ Refusal → List ℕ → Type 0
Blocks d table before answer room = BlocksFrom (leb d 1) (direction d) (table_read table) before answer room

-- a collapse is done with the length written and the counts of the table written
abbrev pub written : Bool → Table → Result Counted Refusal
written true Y = Ok (record { length = length (bytes_of Y); states = Y.states; transitions = length Y.transitions })
written false Y = Err (RoomTooShort (length (bytes_of Y)))

-- "the new counts of states and transitions beside it (0 on refusal)"
abbrev pub states_beside : Result Counted Refusal → ℕ
states_beside (Ok counted) = counted.states
states_beside (Err refusal) = 0

abbrev pub transitions_beside : Result Counted Refusal → ℕ
transitions_beside (Ok counted) = counted.transitions
transitions_beside (Err refusal) = 0

-- the answer alone: done with the length written
abbrev pub answer_of : Result Counted Refusal → Result ℕ Refusal
answer_of (Ok counted) = Ok counted.length
answer_of (Err refusal) = Err refusal

-- the one written form of the table that R names goes to the front of the room
pub record TablePut (R : Table → Type 0) (before : List ℕ) (c : Result Counted Refusal) (room : List ℕ) : Type 0 where
  pub table : Table
  pub named : R table
  pub answer_is : c ≡ written (fits (bytes_of table) before) table
  pub room_is : room ≡ filled (fits (bytes_of table) before) (bytes_of table) before

abbrev pub PutFrom : Bool → Found Table → (Table → Table → Type 0) → List ℕ → Result Counted Refusal → List ℕ → Type 0
PutFrom known x R before = Asked known x (λ X. TablePut (R X) before) before

-- collapse: the table collapsed by its coarsest blocks of that direction
abbrev pub Collapses : ℕ → List ℕ → List ℕ → Result Counted Refusal → List ℕ → Type 0
Collapses d table before c room = PutFrom (leb d 1) (table_read table) (CollapsedByCoarsest (direction d)) before c room

-- shrink: backward and forward collapses take turns from that side, until one merges no states
abbrev pub ShrinksTo : ℕ → List ℕ → List ℕ → Result Counted Refusal → List ℕ → Type 0
ShrinksTo d table before c room = PutFrom (leb d 1) (table_read table) (Shrinks (direction d)) before c room

-- Any two answers that a promise allows are equal.

-- P allows one answer for the table that the bytes are
decided : {A : Type 0} (P : Table → Result A Refusal → List ℕ → Type 0) (known : Bool) (x : Found Table) (before : List ℕ) (a b : Result A Refusal) (r s : List ℕ)
    → ((X : Table) (end : ℕ) → x ≡ found X end → P X a r → P X b s → (a ≡ b) × (r ≡ s)) → Asked known x P before a r → Asked known x P before b s → (a ≡ b) × (r ≡ s)
decided P false x before a b r s single p q = (p.0 ∙ sym q.0, p.1 ∙ sym q.1)
decided P true (refused refusal) before a b r s single p q = (p.0 ∙ sym q.0, p.1 ∙ sym q.1)
decided P true (found X end) before a b r s single p q = single X end refl p q

blocks_put_decided : (d : Direction) (X : Table) (before : List ℕ) (a b : Result ℕ Refusal) (r s : List ℕ) → BlocksPut d X before a r → BlocksPut d X before b s → (a ≡ b) × (r ≡ s)
blocks_put_decided d X before a b r s p q =
    let same = coarsest_blocks_unique d X p.blocks q.blocks p.coarsest q.coarsest in (
      p.answer_is ∙ ap (λ (l : List ℕ). blocks_answer (fits l before) X.states (block_count (block_of l) X.states)) same ∙ sym q.answer_is,
      p.room_is ∙ ap (λ (l : List ℕ). filled (fits l before) l before) same ∙ sym q.room_is,
    )

pub blocks_decided : (d : ℕ) (table before : List ℕ) (a b : Result ℕ Refusal) (r s : List ℕ) → Blocks d table before a r → Blocks d table before b s → (a ≡ b) × (r ≡ s)
blocks_decided d table before a b r s =
    decided (λ X. BlocksPut (direction d) X before) (leb d 1) (table_read table) before a b r s (λ X end e. blocks_put_decided (direction d) X before a b r s)

table_put_decided : (R : Table → Type 0) (before : List ℕ) (a b : Result Counted Refusal) (r s : List ℕ) → ((Y Z : Table) → R Y → R Z → Y ≡ Z)
    → TablePut R before a r → TablePut R before b s → (a ≡ b) × (r ≡ s)
table_put_decided R before a b r s single p q =
    let same = single p.table q.table p.named q.named in (
      p.answer_is ∙ ap (λ (Y : Table). written (fits (bytes_of Y) before) Y) same ∙ sym q.answer_is,
      p.room_is ∙ ap (λ (Y : Table). filled (fits (bytes_of Y) before) (bytes_of Y) before) same ∙ sym q.room_is,
    )

-- R names one table for the table that the bytes are
put_decided : (R : Table → Table → Type 0) (known : Bool) (table before : List ℕ) → ((X Y Z : Table) (end : ℕ) → table_read table ≡ found X end → R X Y → R X Z → Y ≡ Z)
    → (a b : Result Counted Refusal) (r s : List ℕ) → PutFrom known (table_read table) R before a r → PutFrom known (table_read table) R before b s → (a ≡ b) × (r ≡ s)
put_decided R known table before single a b r s =
    decided (λ X. TablePut (R X) before) known (table_read table) before a b r s (λ X end e. table_put_decided (R X) before a b r s (λ Y Z. single X Y Z end e))

pub collapse_decided : (d : ℕ) (table before : List ℕ) (a b : Result Counted Refusal) (r s : List ℕ) → Collapses d table before a r → Collapses d table before b s → (a ≡ b) × (r ≡ s)
collapse_decided d table before a b r s =
    put_decided (CollapsedByCoarsest (direction d)) (leb d 1) table before (λ X Y Z end e p q. collapsed_by_coarsest_unique (direction d) X Y Z p q) a b r s

pub shrink_decided : (d : ℕ) (table before : List ℕ) → ((i : ℕ) → get_or table i 0 < 256) → (a b : Result Counted Refusal) (r s : List ℕ)
    → ShrinksTo d table before a r → ShrinksTo d table before b s → (a ≡ b) × (r ≡ s)
shrink_decided d table before bytes a b r s =
    put_decided (Shrinks (direction d)) (leb d 1) table before (λ X Y Z end e p q. shrinks_unique (table_sound table bytes X end e).0 p q) a b r s
