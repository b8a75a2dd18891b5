-- What splits read: a table record, and the uses of each state in the direction and in the other one.
use Rattle.std.specs.Prelude.{ℕ, List, map}
use Rattle.theory.specs.declared.Direction.{Direction}
use Rattle.profiles.specs.Entries.{Entry}
use Rattle.tables.specs.declared.TableRecord.{TableRecord}
use Rattle.uses.specs.declared.Uses.{Uses}
use Rattle.uses.specs.Lists.{listed}
use Rattle.grouping.specs.Keys.{entry_of}

-- the entries of each state under the blocks b
abbrev pub profiles : Direction → List ℕ → List ℕ → List ℕ → List ℕ → List ℕ → List ℕ → List ℕ → (ℕ → ℕ) → ℕ → List Entry
profiles d ranks symbol children target code starts list b p = map (entry_of d ranks symbol children target code b) (listed starts list p)

-- the same, of a table record and the index of its uses
abbrev pub profiles_in : Direction → TableRecord → Uses → (ℕ → ℕ) → ℕ → List Entry
profiles_in d t u b p = profiles d t.ranks t.symbol t.children t.target t.code u.starts u.list b p
