-- The one written form of a table (document 01, "Bytes").
use Rattle.std.specs.Prelude.{List, [], ◌∷◌, ◌++◌, ℕ, length}
use Rattle.model.specs.Table.{Table, Transition}
use Rattle.numbers.specs.Written.{written_all}

-- a transition as numbers: symbol, children, target, code
abbrev pub transition_numbers : Transition → List ℕ
transition_numbers t = t.symbol ∷ t.children ++ (t.target ∷ t.code ∷ [])

abbrev pub transitions_numbers : List Transition → List ℕ
transitions_numbers [] = []
transitions_numbers (t ∷ ts) = transition_numbers t ++ transitions_numbers ts

-- a table as numbers: arithmetic; n; the number of symbols; each rank; n final codes; the number of transitions; the transitions
abbrev pub table_numbers : Table → List ℕ
table_numbers X =
    X.arithmetic ∷ X.states ∷ length X.ranks ∷ X.ranks ++ (X.finals ++ (length X.transitions ∷ transitions_numbers X.transitions))

-- the bytes of a table
abbrev pub bytes_of : Table → List ℕ
bytes_of X = written_all (table_numbers X)
