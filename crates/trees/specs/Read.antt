-- What reading a tree finds (document 01, "Bytes" and codes 8 to 11).
use Rattle.std.specs.Prelude.{Result, Ok, Err, ℕ, zero, suc, ◌+◌, cond, List, [], ◌∷◌, length, get_or, leb}
use Rattle.answers.specs.declared.Refusal.{Refusal}
use Rattle.answers.specs.declared.Refusal.TheVariants.{TreeEnds, UnknownSymbol, TreeGoesOn, TreeTooLong}

-- what the bytes are: a tree of so many nodes, or why not
abbrev pub TreeRead : Type 0
TreeRead = Result ℕ Refusal

-- `due` nodes are due at offset `at`, from where the bytes `rest` are left; a node's symbol makes as many more due as its rank
unfoldable pub nodes_from : List ℕ → ℕ → ℕ → List ℕ → TreeRead
nodes_from ranks zero at [] = Ok at
nodes_from ranks zero at (symbol ∷ rest) = Err (TreeGoesOn at)
nodes_from ranks (suc due) at [] = Err (TreeEnds at)
nodes_from ranks (suc due) at (symbol ∷ rest) =
    cond (leb 4096 at) (Err TreeTooLong)
    (cond (leb (length ranks) symbol) (Err (UnknownSymbol at))
    (nodes_from ranks (due + get_or ranks symbol 0) (at + 1) rest))

-- one node is due at the start, the root
abbrev pub tree_read : List ℕ → List ℕ → TreeRead
tree_read ranks tree = nodes_from ranks 1 0 tree
