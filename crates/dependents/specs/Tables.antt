-- What is said of columns and lists, said of a table record and of an index of its uses.
use Rattle.std.specs.Prelude.{ℕ, List, length}
use Rattle.theory.specs.declared.Direction.{Direction}
use Rattle.tables.specs.declared.TableRecord.{TableRecord}
use Rattle.uses.specs.declared.Uses.{Uses}
use Rattle.dependents.specs.Marks.{Child, LeadsTo, Depends, DependsOnMoved}

-- q is a child of transition j
abbrev pub ChildOf : TableRecord → ℕ → ℕ → Type 0
ChildOf t j q = Child t.ranks t.symbol t.children j q

-- the use u of the other direction leads to q
abbrev pub LeadsToIn : Direction → TableRecord → ℕ → ℕ → Type 0
LeadsToIn d t u q = LeadsTo d t.ranks t.symbol t.children t.target u q

-- a use of p that the index lists leads to q
abbrev pub DependsIn : Direction → TableRecord → Uses → ℕ → ℕ → Type 0
DependsIn d t u p q = Depends d t.ranks t.symbol t.children t.target u.starts u.list p q

-- q depends on a member whose part is not the keeper
abbrev pub DependsOnMovedIn : Direction → List ℕ → List ℕ → ℕ → TableRecord → Uses → ℕ → Type 0
DependsOnMovedIn d members part keeper t u q = DependsOnMoved d (length members) keeper members part t.ranks t.symbol t.children t.target u.starts u.list q
