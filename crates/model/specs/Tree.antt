-- Trees over the symbols of a table, and how a tree is written (document 01, "Bytes").
use Rattle.std.specs.Prelude.{ℕ, suc, ◌<◌, ◌≡◌, List, [], ◌∷◌, ◌++◌, length, get_or}

-- a tree is a symbol with its child trees, left to right
mutual
  pub data Tree : Type 0 where
    node : ℕ → Forest → Tree

  pub data Forest : Type 0 where
    none : Forest
    ◌then◌ : Tree → Forest → Forest

-- how many trees stand side by side
unfoldable pub count : Forest → ℕ
count none = 0
count (◌then◌ t ts) = suc (count ts)

-- one number a node, the symbol, in prefix order
unfoldable mutual
  pub prefix : Tree → List ℕ
  prefix (node σ ts) = σ ∷ prefixes ts

  pub prefixes : Forest → List ℕ
  prefixes none = []
  prefixes (◌then◌ t ts) = prefix t ++ prefixes ts

-- every symbol is one of the table's, with as many child trees as its rank
unfoldable mutual
  pub Over : List ℕ → Tree → Type 0
  Over ranks (node σ ts) = (σ < length ranks) × (count ts ≡ get_or ranks σ 0) × OverAll ranks ts

  pub OverAll : List ℕ → Forest → Type 0
  OverAll ranks none = Unit {0}
  OverAll ranks (◌then◌ t ts) = Over ranks t × OverAll ranks ts
