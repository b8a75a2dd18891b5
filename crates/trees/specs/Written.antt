-- What is read as a tree is exactly what a tree over the ranks, of at most 4,096 nodes, is written as; and one tree only is written so.
use Rattle.std.specs.Prelude.{Ok, Err, ℕ, zero, suc, ◌+◌, ◌≤◌, ◌≡◌, refl, get_or}
use Rattle.std.proofs.Math.Path.{ap}
use Rattle.std.proofs.Common.{sym, ◌∙◌, add-zero, add-suc, length-append}
use mathlib.Core.List.{List, [], ◌∷◌, ◌++◌, append_assoc, append-nil}
use native.Mathlib.Omega.{arith}
use Rattle.std.proofs.Math.ListN.{length}
use Rattle.model.specs.Tree.{Tree, Forest, node, none, ◌then◌, count, prefix, prefixes, Over, OverAll}
use Rattle.answers.specs.declared.Refusal.{Refusal}
use Rattle.trees.specs.Read.{TreeRead, nodes_from, tree_read}
use Rattle.trees.specs.Steps.{NodeRead, read_late, read_unknown, read_known, node_read, known}
use Rattle.trees.specs.Forests.{count_drop}
use Rattle.trees.specs.Finished.{finished, tree_of, first_tree, Supplied, prefixes_finished, over_finished, finished_prefix}

-- a tree over the ranks, of at most 4,096 nodes, is written as these bytes
pub record Written (ranks : List ℕ) (tree : Tree) (bytes : List ℕ) : Type 0 where
  pub over : Over ranks tree
  pub bytes_are : prefix tree ≡ bytes
  pub few : length bytes ≤ 4096

-- what holds of the rest of a tree that is read to its end
pub record Accepted (ranks : List ℕ) (due at : ℕ) (rest : List ℕ) (nodes : ℕ) : Type 0 where
  pub nodes_are : nodes ≡ at + length rest
  pub few : at + length rest ≤ 4096
  pub count_is : count (finished ranks rest) ≡ due
  pub supplied : Supplied ranks rest

refused_not_nodes : {refusal : Refusal} {nodes : ℕ} → ◌≡◌ {A = TreeRead} (Err refusal) (Ok nodes) → ⊥
refused_not_nodes found = cc

accepted_node : (ranks : List ℕ) (due at symbol : ℕ) (rest : List ℕ) (nodes : ℕ) {found : TreeRead} → NodeRead ranks due at symbol rest found
    → (at + 1 ≤ 4096 → nodes_from ranks (due + get_or ranks symbol 0) (at + 1) rest ≡ Ok nodes
    → Accepted ranks (due + get_or ranks symbol 0) (at + 1) rest nodes)
    → found ≡ Ok nodes → Accepted ranks (suc due) at (symbol ∷ rest) nodes
unfolding finished count Supplied
accepted_node ranks due at symbol rest nodes (read_late late) later found = cc
accepted_node ranks due at symbol rest nodes (read_unknown early beyond) later found = cc
accepted_node ranks due at symbol rest nodes (read_known early within) later found =
    let rest-accepted = later (omega arith) found in
    record {
      nodes_are = omega arith;
      few = omega arith;
      count_is = ap suc (count_drop (get_or ranks symbol 0) (finished ranks rest) ∙ omega arith);
      supplied = (within, omega arith, rest-accepted.supplied);
    }

accepted_from : (ranks : List ℕ) (due at : ℕ) (rest : List ℕ) (nodes : ℕ) → at ≤ 4096
    → nodes_from ranks due at rest ≡ Ok nodes → Accepted ranks due at rest nodes
unfolding nodes_from finished count Supplied
accepted_from ranks zero at [] nodes early found =
    let same : at ≡ nodes = cc in
    record { nodes_are = omega arith; few = omega arith; count_is = refl; supplied = tt }
accepted_from ranks zero at (symbol ∷ rest) nodes early found = cc
accepted_from ranks (suc due) at [] nodes early found = cc
accepted_from ranks (suc due) at (symbol ∷ rest) nodes early found =
    accepted_node ranks due at symbol rest nodes (node_read ranks due at symbol rest)
    (accepted_from ranks (due + get_or ranks symbol 0) (at + 1) rest nodes) found

-- where one tree is due, the first finished tree is all of them
only_tree : (ranks : List ℕ) (ts : Forest) → count ts ≡ 1 → OverAll ranks ts → Over ranks (first_tree ts) × (prefix (first_tree ts) ≡ prefixes ts)
unfolding count prefixes OverAll
only_tree ranks none one over = absurd (omega arith)
only_tree ranks (◌then◌ t none) one over = (over.0, sym (append-nil (prefix t)))
only_tree ranks (◌then◌ t (◌then◌ u us)) one over = absurd (omega arith)

-- a tree has at least one node
pub some_node : (tree : Tree) → 1 ≤ length (prefix tree)
unfolding prefix
some_node (node symbol ts) = omega arith

module _ (ranks bytes : List ℕ) where
  pub accepted : (nodes : ℕ) → tree_read ranks bytes ≡ Ok nodes → Accepted ranks 1 0 bytes nodes
  accepted nodes found = accepted_from ranks 1 0 bytes nodes (omega arith) found

  pub nodes_are_bytes : (nodes : ℕ) → tree_read ranks bytes ≡ Ok nodes → nodes ≡ length bytes
  nodes_are_bytes nodes found = omega (arith, accepted nodes found)

  pub sound : (nodes : ℕ) → tree_read ranks bytes ≡ Ok nodes → Written ranks (tree_of ranks bytes) bytes
  sound nodes found =
      let read = accepted nodes found in
      let only = only_tree ranks (finished ranks bytes) read.count_is (over_finished ranks bytes read.supplied) in
      record { over = only.0; bytes_are = only.1 ∙ prefixes_finished ranks bytes; few = omega arith }

module _ (ranks : List ℕ) where
  -- the bytes of a tree pass for the one node that was due, and those of a forest for its count
  mutual
    unfolding prefix prefixes Over OverAll count

    tree_passes : (t : Tree) (due at : ℕ) (rest : List ℕ) → Over ranks t → at + length (prefix t) ≤ 4096
        → nodes_from ranks (suc due) at (prefix t ++ rest) ≡ nodes_from ranks due (at + length (prefix t)) rest
    tree_passes (node symbol ts) due at rest over few =
        let ends : at + 1 + length (prefixes ts) ≡ at + length (prefix (node symbol ts)) = omega arith in
        let first = known ranks due at symbol (prefixes ts ++ rest) (omega arith) over.0 in
        let others = forest_passes ts due (at + 1) rest over.2 (omega arith) in
        cc

    forest_passes : (ts : Forest) (due at : ℕ) (rest : List ℕ) → OverAll ranks ts → at + length (prefixes ts) ≤ 4096
        → nodes_from ranks (due + count ts) at (prefixes ts ++ rest) ≡ nodes_from ranks due (at + length (prefixes ts)) rest
    forest_passes none due at rest over few = simp add-zero
    forest_passes (◌then◌ t ts) due at rest over few =
        let many = length-append (prefix t) (prefixes ts) in
        let ends : at + length (prefix t) + length (prefixes ts) ≡ at + length (prefixes (◌then◌ t ts)) = omega arith in
        let first = tree_passes t (due + count ts) at (prefixes ts ++ rest) over.0 (omega arith) in
        let others = forest_passes ts due (at + length (prefix t)) rest over.1 (omega arith) in
        rw (append_assoc, add-suc) (cc)

  pub complete : (tree : Tree) (bytes : List ℕ) → Written ranks tree bytes → tree_read ranks bytes ≡ Ok (length bytes)
  unfolding nodes_from
  complete tree bytes written =
      let many = ap length written.bytes_are in
      let passes = tree_passes tree 0 0 [] written.over (omega arith) in
      let ends : 0 + length (prefix tree) ≡ length bytes = omega arith in
      rw (append-nil, ends, written.bytes_are) at passes

  -- what a tree is written as reads back as that tree
  pub read_back : (tree : Tree) → Over ranks tree → tree_of ranks (prefix tree) ≡ tree
  read_back tree over = rw (← append-nil (prefix tree), finished_prefix ranks tree [] over)

  pub one_tree : (t u : Tree) → Over ranks t → Over ranks u → prefix t ≡ prefix u → t ≡ u
  one_tree t u over-t over-u same = cc (read_back t over-t, read_back u over-u)
