-- What is said of columns and lists, said of a table record and of the index of its uses.
use Rattle.std.specs.Prelude.{ℕ, true, false, List, Option, MatchOption, ◌≡◌}
use Rattle.states.specs.declared.State.{State}
use Rattle.theory.specs.declared.Direction.{Direction}
use Rattle.tables.specs.declared.TableRecord.{TableRecord}
use Rattle.uses.specs.declared.Uses.{Uses}
use Rattle.uses.specs.Lists.{listed, ListedUses}
use Rattle.uses.specs.Numbers.{number_at, is_use_at, state_at, uses_of, Indexed, Readable}

-- every transition has one of at most 128 symbols
abbrev pub ReadableTable : TableRecord → Type 0
ReadableTable t = Readable t.count t.ranks t.symbol t.children t.target

-- the uses of a state, place by place and each place in table order
abbrev pub uses_in : Direction → TableRecord → ℕ → List ℕ
uses_in d t p = uses_of d t.count t.ranks t.symbol t.children t.target p

-- the index lists the uses of each state
abbrev pub IndexOf : Direction → TableRecord → Uses → Type 0
IndexOf d t u = Indexed (uses_in d t) u.starts u.list

-- the uses that an index lists for a state
abbrev pub listed_in : Uses → ℕ → List ℕ
listed_in u p = listed u.starts u.list p

-- the index lists uses of transitions that can be read
abbrev pub ListsUses : Direction → TableRecord → Uses → Type 0
ListsUses d t u = ListedUses d t.ranks t.symbol u.starts u.list

-- the use that the place k of transition j is, with its state and its number, or none
abbrev pub UseAt : Direction → TableRecord → ℕ → ℕ → Option (State × ℕ) → Type 0
UseAt d t k j found = MatchOption found
    (is_use_at d t.ranks t.symbol k j ≡ false)
    (λ (state, number). (is_use_at d t.ranks t.symbol k j ≡ true) × (state.0 ≡ state_at d t.children t.target k j) × (number ≡ number_at d k j))
