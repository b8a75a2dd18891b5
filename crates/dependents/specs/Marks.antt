-- Which states are marked as dirty.
use Rattle.std.specs.Prelude.{ℕ, suc, ◌+◌, ◌*◌, ◌/◌, ◌≤◌, ◌<◌, Bool, true, List, ◌≢◌, ◌≡◌, length, get_or}
use Rattle.theory.specs.declared.Direction.{Direction}
use Rattle.theory.specs.declared.Direction.TheVariants.{Backward as backward, Forward as forward}
use Rattle.uses.specs.Lists.{start}
use Rattle.partition.specs.Members.{flag}

-- the states of which Q holds are marked, and none that was marked is cleared
pub record Marked (Q : ℕ → Type 0) (dirty dirty' : List Bool) : Type 0 where
  pub kept : (q : ℕ) → flag dirty q ≡ true → flag dirty' q ≡ true
  pub marked : (q : ℕ) → Q q → flag dirty' q ≡ true
  pub long : length dirty' ≡ 256

-- nothing has to be marked
pub marking_starts : (Q : ℕ → Type 0) (dirty : List Bool) → ((q : ℕ) → Q q → ⊥) → length dirty ≡ 256 → Marked Q dirty dirty
marking_starts Q dirty none long = record { kept = λ q e. e; marked = λ q h. absurd (none q h); long = long }

-- q is a child of transition j
abbrev pub Child : List ℕ → List ℕ → List ℕ → ℕ → ℕ → Type 0
Child ranks symbol children j q = (k : ℕ) × (k < get_or ranks (get_or symbol j 0) 0) × (get_or children (j * 4 + k) 0 ≡ q)

-- a use of the other direction leads to q: backward, u is a place for a child and q the transition's target; forward, u is a
-- transition and q one of its children
abbrev pub LeadsTo : Direction → List ℕ → List ℕ → List ℕ → List ℕ → ℕ → ℕ → Type 0
LeadsTo backward ranks symbol children target u q = get_or target (u / 4) 0 ≡ q
LeadsTo forward ranks symbol children target u q = Child ranks symbol children u q

-- P holds of a number from lo to hi
abbrev pub SomeIn : ℕ → ℕ → (ℕ → Type 0) → Type 0
SomeIn lo hi P = (i : ℕ) × (lo ≤ i) × (i < hi) × P i

-- a use of p that is listed leads to q
abbrev pub Depends : Direction → List ℕ → List ℕ → List ℕ → List ℕ → List ℕ → List ℕ → ℕ → ℕ → Type 0
Depends d ranks symbol children target starts list p q =
    SomeIn (start starts p) (start starts (suc p)) (λ i. LeadsTo d ranks symbol children target (get_or list i 0) q)

-- q depends on a state found whose part is not the keeper
abbrev pub DependsOnMoved : Direction → ℕ → ℕ → List ℕ → List ℕ → List ℕ → List ℕ → List ℕ → List ℕ → List ℕ → List ℕ → ℕ → Type 0
DependsOnMoved d many keeper found part ranks symbol children target starts list q =
    SomeIn 0 many (λ i. (get_or part i 0 ≢ keeper) × Depends d ranks symbol children target starts list (get_or found i 0) q)
