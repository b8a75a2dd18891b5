-- The subtree that begins at each offset of a tree, for a loop that goes through the bytes from the right: where the finished trees begin, and
-- which of them are the children of the next node.
use Prim.Native.Nat.{ℕ, zero, suc, ◌+◌, ◌-◌, ◌≤◌, ◌<◌}
use Rattle.std.specs.Prelude.{Ok, ◌≡◌, length, take, drop}
use Rattle.std.proofs.Math.Path.{refl, ap}
use Rattle.std.proofs.Common.{sym, ◌∙◌, add-one, drop_of_length-le, drop-cons, drop-drop}
use mathlib.Core.List.{List, [], ◌∷◌}
use native.Mathlib.Omega.{arith}
use Rattle.std.proofs.Math.ListN.{get_or, length-drop}
use Rattle.std.proofs.Math.Seq.{get_or-drop}
use Rattle.model.specs.Tree.{Tree, Forest, node, none, ◌then◌, count}
use Rattle.trees.specs.Read.{tree_read}
use Rattle.trees.specs.Forests.{take_trees, drop_trees, count_drop}
use Rattle.trees.specs.Finished.{finished, tree_of, Supplied}
use Rattle.trees.specs.Written.{accepted}

-- the offsets at which the finished trees begin, where `rest` are the bytes from offset `at` on
unfoldable pub starts_from : List ℕ → ℕ → List ℕ → List ℕ
starts_from ranks at [] = []
starts_from ranks at (symbol ∷ rest) = at ∷ drop (get_or ranks symbol 0) (starts_from ranks (at + 1) rest)

-- the same of the bytes of a tree, read from the right down to an offset
abbrev pub starts : List ℕ → List ℕ → ℕ → List ℕ
starts ranks bytes at = starts_from ranks at (drop at bytes)

-- the rank of the node at an offset
abbrev pub rank_at : List ℕ → List ℕ → ℕ → ℕ
rank_at ranks bytes at = get_or ranks (get_or bytes at 0) 0

-- the subtree that begins at an offset
abbrev pub subtree : List ℕ → List ℕ → ℕ → Tree
subtree ranks bytes at = tree_of ranks (drop at bytes)

-- the subtrees that begin at these offsets
abbrev pub subtrees : List ℕ → List ℕ → List ℕ → Forest
subtrees ranks bytes [] = none
subtrees ranks bytes (at ∷ ats) = ◌then◌ (subtree ranks bytes at) (subtrees ranks bytes ats)

module _ (ranks bytes : List ℕ) where
  subtrees_take : (k : ℕ) (ats : List ℕ) → take_trees k (subtrees ranks bytes ats) ≡ subtrees ranks bytes (take k ats)
  subtrees_take zero ats = refl
  subtrees_take (suc k) [] = refl
  subtrees_take (suc k) (at ∷ ats) = ap (◌then◌ (subtree ranks bytes at)) (subtrees_take k ats)

  subtrees_drop : (k : ℕ) (ats : List ℕ) → drop_trees k (subtrees ranks bytes ats) ≡ subtrees ranks bytes (drop k ats)
  subtrees_drop zero ats = refl
  subtrees_drop (suc k) [] = refl
  subtrees_drop (suc k) (at ∷ ats) = subtrees_drop k ats

  -- the finished trees are the subtrees that begin where they begin
  finished_subtrees : (at : ℕ) (rest : List ℕ) → drop at bytes ≡ rest → finished ranks rest ≡ subtrees ranks bytes (starts_from ranks at rest)
  unfolding finished starts_from
  finished_subtrees at [] from = refl
  finished_subtrees at (symbol ∷ rest) from =
      let k = get_or ranks symbol 0 in
      let later = finished_subtrees (at + 1) rest (sym (drop-drop 1 at bytes) ∙ ap (drop 1) from) in
      let others = ap (drop_trees k) later ∙ subtrees_drop k (starts_from ranks (at + 1) rest) in
      rw from (ap (◌then◌ (node symbol (take_trees k (finished ranks rest)))) others)

module _ (ranks : List ℕ) where
  count_starts : (at : ℕ) (rest : List ℕ) → length (starts_from ranks at rest) ≡ count (finished ranks rest)
  unfolding finished starts_from count
  count_starts at [] = refl
  count_starts at (symbol ∷ rest) =
      let later = count_starts (at + 1) rest in
      simp (length-drop, count_drop) (omega arith)

  few_starts : (at : ℕ) (rest : List ℕ) → length (starts_from ranks at rest) ≤ length rest
  unfolding starts_from
  few_starts at [] = omega arith
  few_starts at (symbol ∷ rest) =
      let later = few_starts (at + 1) rest in
      simp length-drop (omega arith)

  start_within : (at : ℕ) (rest : List ℕ) (i : ℕ) → i < length (starts_from ranks at rest)
      → (at ≤ get_or (starts_from ranks at rest) i 0) × (get_or (starts_from ranks at rest) i 0 < at + length rest)
  unfolding starts_from
  start_within at [] i inside = absurd (omega arith)
  start_within at (symbol ∷ rest) zero inside = omega arith
  start_within at (symbol ∷ rest) (suc i) inside =
      let k = get_or ranks symbol 0 in
      let later = start_within (at + 1) rest (k + i) (omega (arith, simp length-drop at inside)) in
      simp get_or-drop (omega arith)

  supplied_drop : (at : ℕ) (bytes : List ℕ) → Supplied ranks bytes → Supplied ranks (drop at bytes)
  unfolding Supplied
  supplied_drop zero bytes supplied = supplied
  supplied_drop (suc at) [] supplied = tt
  supplied_drop (suc at) (symbol ∷ bytes) supplied = supplied_drop at bytes supplied.2

module _ (ranks bytes : List ℕ) (at : ℕ) where
  pub starts_end : length bytes ≤ at → starts ranks bytes at ≡ []
  unfolding starts_from
  starts_end end = rw (drop_of_length-le bytes end)

  next_byte : at < length bytes → drop at bytes ≡ get_or bytes at 0 ∷ drop (at + 1) bytes
  next_byte inside = rw add-one (drop-cons bytes at 0 inside)

  pub starts_node : at < length bytes → starts ranks bytes at ≡ at ∷ drop (rank_at ranks bytes at) (starts ranks bytes (at + 1))
  unfolding starts_from
  starts_node inside = rw (next_byte inside)

  pub subtree_node : at < length bytes
      → subtree ranks bytes at ≡ node (get_or bytes at 0) (subtrees ranks bytes (take (rank_at ranks bytes at) (starts ranks bytes (at + 1))))
  unfolding finished
  subtree_node inside =
      rw (next_byte inside) (rw (finished_subtrees ranks bytes (at + 1) (drop (at + 1) bytes) refl, subtrees_take))

  pub starts_few : length (starts ranks bytes at) ≤ length bytes - at
  starts_few = rw (← length-drop at bytes) (few_starts ranks at (drop at bytes))

  pub starts_within : (i : ℕ) → i < length (starts ranks bytes at)
      → (at ≤ get_or (starts ranks bytes at) i 0) × (get_or (starts ranks bytes at) i 0 < length bytes)
  starts_within i inside = omega (arith, start_within ranks at (drop at bytes) i inside, starts_few, length-drop at bytes)

  pub starts_enough : (nodes : ℕ) → tree_read ranks bytes ≡ Ok nodes → at < length bytes
      → (get_or bytes at 0 < length ranks) × (rank_at ranks bytes at ≤ length (starts ranks bytes (at + 1)))
  unfolding Supplied
  starts_enough nodes found inside =
      let supplied = supplied_drop ranks at bytes (accepted ranks bytes nodes found).supplied in
      let here = rw (next_byte inside) at supplied in
      (here.0, rw (count_starts ranks (at + 1) (drop (at + 1) bytes)) here.1)
