-- A table: a weighted tree automaton whose weights are written as codes (document 01, "What the library does").
use Rattle.std.specs.Prelude.{ℕ, ◌≤◌, ◌<◌, ◌^◌, ◌≡◌, Bool, true, false, cond, List, [], ◌∷◌, ◌++◌, length, get_or, T, ltb, eqb}

-- a transition: a symbol, as many children (states) as its rank, a target state and the code of its weight
pub record Transition : Type 0 where
  pub symbol : ℕ
  pub children : List ℕ
  pub target : ℕ
  pub code : ℕ

-- a table: the rank of each symbol, the code of each state's final weight, the listed transitions
pub record Table : Type 0 where
  pub arithmetic : ℕ
  pub states : ℕ
  pub ranks : List ℕ
  pub finals : List ℕ
  pub transitions : List Transition

-- what holds of each member of a list
abbrev pub Each : {A : Type 0} → (A → Type 0) → List A → Type 0
Each P [] = Unit {0}
Each P (x ∷ xs) = P x × Each P xs

-- what transitions are ordered by: symbol, then children left to right, then target
abbrev pub key : Transition → List ℕ
key t = t.symbol ∷ t.children ++ (t.target ∷ [])

-- the first place where two lists differ decides; a list is above each of its beginnings
abbrev pub lower : List ℕ → List ℕ → Bool
lower [] [] = false
lower [] (y ∷ ys) = true
lower (x ∷ xs) [] = false
lower (x ∷ xs) (y ∷ ys) = cond (eqb x y) (lower xs ys) (ltb x y)

-- each transition is above the one before, the first above `before`
abbrev pub Ascending : List ℕ → List Transition → Type 0
Ascending before [] = Unit {0}
Ascending before (t ∷ ts) = T (lower before (key t)) × Ascending (key t) ts

-- a transition within document 01's bounds, over these ranks and this number of states
pub record ProperTransition (ranks : List ℕ) (states : ℕ) (t : Transition) : Type 0 where
  pub symbol_known : t.symbol < length ranks
  pub children_many : length t.children ≡ get_or ranks t.symbol 0
  pub children_known : Each (λ q. q < states) t.children
  pub target_known : t.target < states
  pub code_positive : 0 < t.code
  pub code_fits : t.code < 2 ^ 32

-- a table within document 01's bounds, its transitions strictly ascending
pub record Proper (X : Table) : Type 0 where
  pub arithmetic_known : X.arithmetic ≤ 1
  pub states_some : 1 ≤ X.states
  pub states_few : X.states ≤ 256
  pub symbols_some : 1 ≤ length X.ranks
  pub symbols_few : length X.ranks ≤ 128
  pub ranks_small : Each (λ k. k ≤ 4) X.ranks
  pub finals_many : length X.finals ≡ X.states
  pub finals_fit : Each (λ c. c < 2 ^ 32) X.finals
  pub transitions_few : length X.transitions ≤ 4000
  pub transitions_proper : Each (ProperTransition X.ranks X.states) X.transitions
  pub ascending : Ascending [] X.transitions
