-- The steps of the refinement: a block is split into parts, and again until no state is dirty.
use Rattle.std.specs.Prelude.{ℕ, ◌+◌, ◌≤◌, ◌<◌, Bool, true, false, Option, IfSome, List, ◌⊎◌, ◌≢◌, ◌↔◌, ◌≡◌, length, get_or, replicate}
use Rattle.theory.specs.Blocks.{block_of}
use Rattle.profiles.specs.Entries.{Entry}
use Rattle.partition.specs.Members.{dirty_count, flag}
use Rattle.partition.specs.Numbering.{Numbered}
use Rattle.partition.specs.Parts.{Renumbered}
use Rattle.grouping.specs.Groups.{Same}
use Rattle.dependents.specs.Marks.{Marked, SomeIn}

-- two clean states of one block have the same profile
abbrev pub Settled : ℕ → (ℕ → List Entry) → ℕ → List ℕ → List Bool → Type 0
Settled a profile n blocks dirty =
    (p q : ℕ) → p < n → q < n → flag dirty p ≡ false → flag dirty q ≡ false → get_or blocks p 0 ≡ get_or blocks q 0 → Same a (profile p) (profile q)

-- each of the states found is in one part, and there is a byte for each part's number beside the `total` numbers in use
pub record Parted (total many : ℕ) (clean : Option ℕ) (found : List ℕ) (parts : ℕ) (part : List ℕ) : Type 0 where
  pub some : 0 < many
  pub few : many ≤ 256
  pub parts_few : parts ≤ many
  pub numbers_few : total + parts ≤ 257
  pub within : (i : ℕ) → i < many → get_or part i 0 < parts
  pub one_part : (i k : ℕ) → i < many → k < many → get_or found i 0 ≡ get_or found k 0 → get_or part i 0 ≡ get_or part k 0
  pub clean_place : IfSome clean (λ place. place < many)

-- one part of the block D keeps its number, that of the clean member if there is one, and the others get new ones; the members are
-- cleared, and then the states that depend on a member with a new number are marked
pub record PartsNumbered (Depend : ℕ → ℕ → Type 0) (D total many : ℕ) (clean : Option ℕ) (found : List ℕ) (parts : ℕ) (part blocks : List ℕ) (dirty : List Bool) (blocks' : List ℕ) (dirty' : List Bool) : Type 0 where
  pub keeper : ℕ
  pub keeps : keeper < parts
  pub of_clean : IfSome clean (λ place. keeper ≡ get_or part place 0)
  pub cleared : List Bool
  pub renumbered : Renumbered many D total keeper found part blocks dirty blocks' cleared
  pub marked : Marked (λ q. SomeIn 0 many (λ i. (get_or part i 0 ≢ keeper) × Depend (get_or found i 0) q)) cleared dirty'
  pub unmarked : parts ≡ 1 → dirty' ≡ cleared

-- the block D is split by profiles, no other block changes, and a state that is clean afterwards was clean or in D and depends on no
-- state with a new number; there are more blocks, or fewer dirty states
pub record SplitUp (a : ℕ) (profile : ℕ → List Entry) (Depend : ℕ → ℕ → Type 0) (n D : ℕ) (blocks : List ℕ) (dirty : List Bool) (total : ℕ) (blocks' : List ℕ) (dirty' : List Bool) (total' : ℕ) : Type 0 where
  pub elsewhere : (p : ℕ) → p < n → get_or blocks p 0 ≢ D → get_or blocks' p 0 ≡ get_or blocks p 0
  pub parts : (p q : ℕ) → p < n → q < n → get_or blocks p 0 ≡ D → get_or blocks q 0 ≡ D → (get_or blocks' p 0 ≡ get_or blocks' q 0) ↔ Same a (profile p) (profile q)
  pub apart : (p q : ℕ) → p < n → q < n → get_or blocks p 0 ≡ D → get_or blocks q 0 ≢ D → get_or blocks' p 0 ≢ get_or blocks' q 0
  pub cleared : (p : ℕ) → p < n → flag dirty' p ≡ false → get_or blocks p 0 ≢ D → flag dirty p ≡ false
  pub marked : (p : ℕ) → p < n → flag dirty' p ≡ false → (r : ℕ) → r < n → Depend r p → get_or blocks r 0 ≡ get_or blocks' r 0
  pub numbered : Numbered n blocks' total'
  pub dirty_long : length dirty' ≡ 256
  pub progress : (total < total') ⊎ ((total' ≡ total) × (dirty_count dirty' n < dirty_count dirty n))

-- splits, one after the other, lead from the blocks `start`, `number` of them and every state dirty, to these
pub data Splits (a : ℕ) (profile : (ℕ → ℕ) → ℕ → List Entry) (Depend : ℕ → ℕ → Type 0) (n : ℕ) (start : List ℕ) (number : ℕ) : List ℕ → List Bool → ℕ → Type 0 where
  none : Splits a profile Depend n start number start (replicate 256 true) number
  another : {D total total' : ℕ} {blocks blocks' : List ℕ} {dirty dirty' : List Bool} → Splits a profile Depend n start number blocks dirty total
      → SplitUp a (profile (block_of blocks)) Depend n D blocks dirty total blocks' dirty' total' → Splits a profile Depend n start number blocks' dirty' total'

-- whatever is split, two clean states of one block have the same profile afterwards
abbrev pub StaySettled : ℕ → ((ℕ → ℕ) → ℕ → List Entry) → (ℕ → ℕ → Type 0) → ℕ → List ℕ → ℕ → Type 0
StaySettled a profile Depend n start number =
    (blocks : List ℕ) (dirty : List Bool) (total : ℕ) → Splits a profile Depend n start number blocks dirty total → Settled a (profile (block_of blocks)) n blocks dirty

-- splits have come to these blocks, and no state is dirty
pub record SplitUntilClean (a : ℕ) (profile : (ℕ → ℕ) → ℕ → List Entry) (Depend : ℕ → ℕ → Type 0) (n : ℕ) (start : List ℕ) (number : ℕ) (blocks : List ℕ) (total : ℕ) : Type 0 where
  pub dirty : List Bool
  pub splits : Splits a profile Depend n start number blocks dirty total
  pub clean : (q : ℕ) → q < n → flag dirty q ≡ false
