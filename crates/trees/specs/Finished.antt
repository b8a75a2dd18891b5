-- Bytes read from the right: each symbol takes as many of the trees that are finished as its rank, and is a finished tree itself.
use Rattle.std.specs.Prelude.{ℕ, ◌≤◌, ◌<◌, ◌≡◌, refl, List, [], ◌∷◌, ◌++◌, length, get_or}
use Rattle.std.proofs.Common.{ap, ◌∙◌, append_assoc}
use Rattle.model.specs.Tree.{Tree, Forest, node, none, ◌then◌, count, prefix, prefixes, Over, OverAll}
use Rattle.trees.specs.Forests.{take_trees, drop_trees, joined, count_take, prefixes_take-drop, over_take, over_drop, take_joined, drop_joined}

-- a symbol over the first `rank` of the finished trees, before the others
abbrev pub grown : ℕ → ℕ → Forest → Forest
grown symbol rank trees = ◌then◌ (node symbol (take_trees rank trees)) (drop_trees rank trees)

-- the trees that the bytes are, one after another
unfoldable pub finished : List ℕ → List ℕ → Forest
finished ranks [] = none
finished ranks (symbol ∷ rest) = grown symbol (get_or ranks symbol 0) (finished ranks rest)

-- of a forest the first tree; of none any tree
abbrev pub first_tree : Forest → Tree
first_tree none = node 0 none
first_tree (◌then◌ t ts) = t

-- the tree that the bytes are
abbrev pub tree_of : List ℕ → List ℕ → Tree
tree_of ranks bytes = first_tree (finished ranks bytes)

-- whatever the bytes are, they are those of the finished trees
pub prefixes_finished : (ranks bytes : List ℕ) → prefixes (finished ranks bytes) ≡ bytes
unfolding finished prefix prefixes
prefixes_finished ranks [] = refl
prefixes_finished ranks (symbol ∷ rest) =
    ap (◌∷◌ symbol) (prefixes_take-drop (get_or ranks symbol 0) (finished ranks rest) ∙ prefixes_finished ranks rest)

-- each symbol is one of the table's and finds as many finished trees as its rank
unfoldable pub Supplied : List ℕ → List ℕ → Type 0
Supplied ranks [] = Unit {0}
Supplied ranks (symbol ∷ rest) = (symbol < length ranks) × (get_or ranks symbol 0 ≤ count (finished ranks rest)) × Supplied ranks rest

pub over_finished : (ranks bytes : List ℕ) → Supplied ranks bytes → OverAll ranks (finished ranks bytes)
unfolding finished Supplied OverAll Over
over_finished ranks [] supplied = tt
over_finished ranks (symbol ∷ rest) supplied =
    let k = get_or ranks symbol 0 in
    let ts = finished ranks rest in
    let over = over_finished ranks rest supplied.2 in
    ((supplied.0, count_take k ts supplied.1, over_take ranks k ts over), over_drop ranks k ts over)

-- a tree's bytes, before others, are that tree before the others' trees
module _ (ranks : List ℕ) where
  mutual
    unfolding finished prefix prefixes Over OverAll count

    pub finished_prefix : (t : Tree) (rest : List ℕ) → Over ranks t → finished ranks (prefix t ++ rest) ≡ ◌then◌ t (finished ranks rest)
    finished_prefix (node symbol ts) rest over =
        rw (finished_prefixes ts rest over.2, ← over.1, take_joined, drop_joined)

    pub finished_prefixes : (ts : Forest) (rest : List ℕ) → OverAll ranks ts → finished ranks (prefixes ts ++ rest) ≡ joined ts (finished ranks rest)
    finished_prefixes none rest over = refl
    finished_prefixes (◌then◌ t ts) rest over =
        rw append_assoc (finished_prefix t (prefixes ts ++ rest) over.0 ∙ ap (◌then◌ t) (finished_prefixes ts rest over.1))
