-- The rows of a tree's nodes from an offset on: the node's own row before those behind it, and what stands at each place.
use Prim.Native.Nat.{ℕ, zero, suc, ◌+◌, ◌*◌, ◌<◌}
use Rattle.std.specs.Prelude.{Ok, ◌≡◌, ℤ, pos, length}
use Rattle.std.proofs.Math.Path.{refl, ap}
use Rattle.std.proofs.Common.{◌∙◌, arith, zero-mul, zero-add, add-zero, suc-mul, drop-cons, get_or-append-add}
use mathlib.Core.List.{List, [], ◌∷◌, ◌++◌, map, append_assoc, append-nil}
use Rattle.std.proofs.Math.Numerals.{add-one}
use Rattle.std.proofs.Math.ListN.{get_or, drop, get_or-append}
use Rattle.std.proofs.lemmas.List.{length-map}
use Rattle.model.specs.Table.{Table}
use Rattle.model.specs.Tree.{Forest, node, none, ◌then◌, count}
use Rattle.theory.specs.Below.{up_from, below, length-up_from}
use Rattle.theory.specs.Weight.{weight_at}
use Rattle.theory.specs.Sheet.{row, sheet, sheets}
use Rattle.arith.specs.Numbers.{number_of}
use Rattle.trees.specs.Forests.{take_trees, drop_trees}
use Rattle.trees.specs.Finished.{finished, first_tree}
use Rattle.trees.specs.Subtrees.{subtree}
use Rattle.trees.specs.Read.{tree_read}
use Rattle.trees.specs.Finished.{tree_of}
use Rattle.trees.specs.Written.{accepted}

-- an entry of a list that is made from the numbers from i on
get_or-up_from : (f : ℕ → ℤ) (i k q : ℕ) (d : ℤ) → q < k → get_or (map f (up_from i k)) q d ≡ f (i + q)
get_or-up_from f i zero q d l = absurd (omega arith)
get_or-up_from f i (suc k) zero d l = rw (add-zero i)
get_or-up_from f i (suc k) (suc q) d l = let same : suc i + q ≡ i + suc q = omega arith in get_or-up_from f (suc i) k q d (omega arith) ∙ ap f same

pub get_or_below : (f : ℕ → ℤ) (n q : ℕ) (d : ℤ) → q < n → get_or (map f (below n)) q d ≡ f q
get_or_below f n q d l = get_or-up_from f 0 n q d l ∙ ap f (zero-add q)

pub length_below : (f : ℕ → ℤ) (n : ℕ) → length (map f (below n)) ≡ n
length_below f n = length-map (below n) f ∙ length-up_from 0 n

module _ (a : ℕ) (X : Table) where
  sheets_take-drop : (k : ℕ) (ts : Forest) → sheets a X (take_trees k ts) ++ sheets a X (drop_trees k ts) ≡ sheets a X ts
  unfolding sheet sheets
  sheets_take-drop zero ts = refl
  sheets_take-drop (suc k) none = refl
  sheets_take-drop (suc k) (◌then◌ t ts) = append_assoc (sheet a X t) _ _ ∙ ap (◌++◌ (sheet a X t)) (sheets_take-drop k ts)

  -- where one tree is finished, its sheet is all of them
  pub sheets_one : (ts : Forest) → count ts ≡ 1 → sheets a X ts ≡ sheet a X (first_tree ts)
  unfolding sheet sheets count
  sheets_one none one = absurd (omega arith)
  sheets_one (◌then◌ t none) one = append-nil (sheet a X t)
  sheets_one (◌then◌ t (◌then◌ u us)) one = absurd (omega arith)

  -- the rows of the nodes from an offset on
  abbrev pub node_rows : List ℕ → ℕ → List ℤ
  node_rows tree at = sheets a X (finished X.ranks (drop at tree))

  module _ (tree : List ℕ) where
    pub node_rows_end : (at : ℕ) → drop at tree ≡ [] → node_rows tree at ≡ []
    unfolding sheet sheets finished
    node_rows_end at end = rw end

    pub node_rows_more : (at : ℕ) → at < length tree → node_rows tree at ≡ row a X (subtree X.ranks tree at) ++ node_rows tree (at + 1)
    unfolding sheet sheets finished
    node_rows_more at inside =
        let next : drop at tree ≡ get_or tree at 0 ∷ drop (at + 1) tree = rw add-one (drop-cons tree at 0 inside) in
        let k = get_or X.ranks (get_or tree at 0) 0 in
        let later = finished X.ranks (drop (at + 1) tree) in
        rw next (append_assoc (row a X (node (get_or tree at 0) (take_trees k later))) (sheets a X (take_trees k later)) (sheets a X (drop_trees k later))
        ∙ ap (◌++◌ (row a X (node (get_or tree at 0) (take_trees k later)))) (sheets_take-drop k later))

    -- at node × n + state stands the weight of the node's subtree at that state, whatever stands behind the rows
    pub node_rows_entry : (behind : List ℤ) (d at q : ℕ) → at + d < length tree → q < X.states
        → get_or (node_rows tree at ++ behind) (d * X.states + q) (pos 0) ≡ number_of a (weight_at a X (subtree X.ranks tree (at + d)) q)
    node_rows_entry behind zero at q inside known =
        let own = row a X (subtree X.ranks tree at) in
        let long = length_below (λ p. number_of a (weight_at a X (subtree X.ranks tree at) p)) X.states in
        rw (node_rows_more at (omega arith), append_assoc own (node_rows tree (at + 1)) behind, zero-mul X.states, zero-add q, add-zero at)
        (get_or-append own (node_rows tree (at + 1) ++ behind) (pos 0) q (omega arith)
        ∙ get_or_below (λ p. number_of a (weight_at a X (subtree X.ranks tree at) p)) X.states q (pos 0) known)
    node_rows_entry behind (suc d) at q inside known =
        let own = row a X (subtree X.ranks tree at) in
        let long = length_below (λ p. number_of a (weight_at a X (subtree X.ranks tree at) p)) X.states in
        let place : suc d * X.states + q ≡ length own + (d * X.states + q) = let step = suc-mul d X.states in omega arith in
        let offset : at + 1 + d ≡ at + suc d = omega arith in
        rw (node_rows_more at (omega arith), append_assoc own (node_rows tree (at + 1)) behind, place)
        (get_or-append-add own (node_rows tree (at + 1) ++ behind) (d * X.states + q) (pos 0)
        ∙ node_rows_entry behind d (at + 1) q (omega arith) known
        ∙ ap (λ (i : ℕ). number_of a (weight_at a X (subtree X.ranks tree i) q)) offset)

    -- The sheet of a tree holds at node × n + state the weight of the node's subtree at that state, whatever stands behind it.
    pub sheet_entry : (nodes : ℕ) → tree_read X.ranks tree ≡ Ok nodes → (behind : List ℤ) (at q : ℕ) → at < nodes → q < X.states
        → get_or (sheet a X (tree_of X.ranks tree) ++ behind) (at * X.states + q) (pos 0) ≡ number_of a (weight_at a X (subtree X.ranks tree at) q)
    sheet_entry nodes read behind at q inside known =
        let whole = accepted X.ranks tree nodes read in
        rw (← sheets_one (finished X.ranks tree) whole.count_is) (node_rows_entry behind at 0 q (omega (arith, whole.nodes_are)) known
        ∙ ap (λ (i : ℕ). number_of a (weight_at a X (subtree X.ranks tree i) q)) (zero-add at))
