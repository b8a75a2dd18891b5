-- The members of a block that a step looks at.
use Rattle.std.specs.Prelude.{ℕ, zero, suc, ◌≤◌, ◌<◌, Bool, true, false, cond, Option, MatchOption, List, ◌≡◌, get_or}
use Rattle.states.specs.declared.State.{State}

-- a flag of each state
abbrev pub flag : List Bool → ℕ → Bool
flag dirty q = get_or dirty q false

-- how many of the states below n are dirty
unfoldable pub dirty_count : List Bool → ℕ → ℕ
dirty_count dirty zero = 0
dirty_count dirty (suc n) = cond (flag dirty n) (suc (dirty_count dirty n)) (dirty_count dirty n)

-- the dirty members of the block D among the states below n
pub record DirtyMembers (D n : ℕ) (blocks : List ℕ) (dirty : List Bool) (found : List ℕ) (count : ℕ) : Type 0 where
  pub few : count ≤ dirty_count dirty n
  pub members : (i : ℕ) → i < count → (get_or found i 0 < n) × (get_or blocks (get_or found i 0) 0 ≡ D)
  pub dirty_found : (q : ℕ) → q < n → get_or blocks q 0 ≡ D → flag dirty q ≡ true → (i : ℕ) × (i < count) × (get_or found i 0 ≡ q)

-- the clean member of the block D that is given, if there is one
abbrev pub CleanMember : ℕ → ℕ → List ℕ → List Bool → Option State → Type 0
CleanMember D n blocks dirty found = MatchOption found
    ((q : ℕ) → q < n → get_or blocks q 0 ≡ D → flag dirty q ≡ true)
    (λ p. (p.0 < n) × (get_or blocks p.0 0 ≡ D) × (flag dirty p.0 ≡ false))

-- the place of a clean one of the members found, if there is one
abbrev pub CleanAt : ℕ → ℕ → List ℕ → List Bool → List ℕ → ℕ → Option ℕ → Type 0
CleanAt D n blocks dirty found count clean = MatchOption clean
    ((q : ℕ) → q < n → get_or blocks q 0 ≡ D → flag dirty q ≡ true)
    (λ place. (place < count) × (flag dirty (get_or found place 0) ≡ false))

-- the members of the block D among the states below n that a step looks at: the dirty ones, and at the place `clean` a clean one if
-- there is one
pub record Members (D n : ℕ) (blocks : List ℕ) (dirty : List Bool) (found : List ℕ) (count : ℕ) (clean : Option ℕ) : Type 0 where
  pub few : count ≤ n
  pub members : (i : ℕ) → i < count → (get_or found i 0 < n) × (get_or blocks (get_or found i 0) 0 ≡ D)
  pub dirty_found : (q : ℕ) → q < n → get_or blocks q 0 ≡ D → flag dirty q ≡ true → (i : ℕ) × (i < count) × (get_or found i 0 ≡ q)
  pub clean_found : CleanAt D n blocks dirty found count clean
