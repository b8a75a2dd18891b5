-- What is found from `at` on, with `due` nodes due, is what is found of the whole tree; and each node passed made at most 255 more due, so that
-- the sum fits.
use Rattle.std.proofs.Common.{◌≡◌, ◌+◌, ◌*◌, ◌≤◌, drop}
use Rattle.trees.specs.Read.{nodes_from, tree_read}
use Rattle.trees.proofs.read_tree.Given as goal

abbrev pub invariant-loop-at : goal.invariant-loop-at
invariant-loop-at l =
    (l.due ≤ 1 + 255 * l.at) × (nodes_from l.ranks l.due l.at (drop l.at l.tree) ≡ tree_read l.ranks l.tree)
