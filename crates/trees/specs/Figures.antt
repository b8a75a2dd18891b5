-- The figures that come back of a tree: none is above 4,096, however many bytes there are, and that of 8 is the tree's length.
use Rattle.std.specs.Prelude.{Ok, Err, ℕ, zero, suc, ◌+◌, ◌≤◌, ◌≡◌, List, [], ◌∷◌, length, get_or}
use Rattle.std.proofs.Common.{arith, lit≤}
use Rattle.answers.specs.Numbers.{refusal_figure}
use Rattle.answers.specs.declared.Refusal.TheVariants.{TreeEnds}
use Rattle.trees.specs.Read.{TreeRead, nodes_from, tree_read}
use Rattle.trees.specs.Steps.{NodeRead, read_late, read_unknown, read_known, node_read}

-- the nodes of the tree, or the figure of the refusal
abbrev pub tree_figure : TreeRead → ℕ
tree_figure (Ok nodes) = nodes
tree_figure (Err refusal) = refusal_figure refusal

node_figure_small : (ranks : List ℕ) (due at symbol : ℕ) (rest : List ℕ) {found : TreeRead} → NodeRead ranks due at symbol rest found
    → (at + 1 ≤ 4096 → tree_figure (nodes_from ranks (due + get_or ranks symbol 0) (at + 1) rest) ≤ 4096)
    → tree_figure found ≤ 4096
node_figure_small ranks due at symbol rest (read_late late) later = lit≤ tt
node_figure_small ranks due at symbol rest (read_unknown early beyond) later = omega arith
node_figure_small ranks due at symbol rest (read_known early within) later = later (omega arith)

figure_from_small : (ranks : List ℕ) (due at : ℕ) (rest : List ℕ) → at ≤ 4096 → tree_figure (nodes_from ranks due at rest) ≤ 4096
unfolding nodes_from
figure_from_small ranks zero at [] early = early
figure_from_small ranks zero at (symbol ∷ rest) early = early
figure_from_small ranks (suc due) at [] early = early
figure_from_small ranks (suc due) at (symbol ∷ rest) early =
    node_figure_small ranks due at symbol rest (node_read ranks due at symbol rest)
    (figure_from_small ranks (due + get_or ranks symbol 0) (at + 1) rest)

pub figure_small : (ranks bytes : List ℕ) → tree_figure (tree_read ranks bytes) ≤ 4096
figure_small ranks bytes = figure_from_small ranks 1 0 bytes (lit≤ tt)

node_ends_at_length : (ranks : List ℕ) (due at symbol : ℕ) (rest : List ℕ) (figure : ℕ) {found : TreeRead} → NodeRead ranks due at symbol rest found
    → (nodes_from ranks (due + get_or ranks symbol 0) (at + 1) rest ≡ Err (TreeEnds figure) → figure ≡ at + 1 + length rest)
    → found ≡ Err (TreeEnds figure) → figure ≡ at + length (symbol ∷ rest)
node_ends_at_length ranks due at symbol rest figure (read_late late) later found = cc
node_ends_at_length ranks due at symbol rest figure (read_unknown early beyond) later found = cc
node_ends_at_length ranks due at symbol rest figure (read_known early within) later found = omega (arith, later found)

ends_from_at_length : (ranks : List ℕ) (due at : ℕ) (rest : List ℕ) (figure : ℕ)
    → nodes_from ranks due at rest ≡ Err (TreeEnds figure) → figure ≡ at + length rest
unfolding nodes_from
ends_from_at_length ranks zero at [] figure found = cc
ends_from_at_length ranks zero at (symbol ∷ rest) figure found = cc
ends_from_at_length ranks (suc due) at [] figure found = let same : figure ≡ at = cc in omega arith
ends_from_at_length ranks (suc due) at (symbol ∷ rest) figure found =
    node_ends_at_length ranks due at symbol rest figure (node_read ranks due at symbol rest)
    (ends_from_at_length ranks (due + get_or ranks symbol 0) (at + 1) rest figure) found

pub ends_at_length : (ranks bytes : List ℕ) (figure : ℕ) → tree_read ranks bytes ≡ Err (TreeEnds figure) → figure ≡ length bytes
ends_at_length ranks bytes figure found = omega (arith, ends_from_at_length ranks 1 0 bytes figure found)
