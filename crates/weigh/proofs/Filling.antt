-- The invariant of the loop over the nodes, from the last to the first: the rows of the nodes passed are in the sheet, and on the stack
-- are the offsets of the subtrees that have no parent yet.
use Prim.Native.Nat.{ℕ, suc, ◌+◌, ◌*◌, ◌-◌, ◌≤◌, ◌<◌}
use mathlib.Core.Path.{◌≡◌, refl, sym, ap, ◌∙◌}
use mathlib.Core.List.{List, [], ◌∷◌, ◌++◌, append_assoc}
use native.Mathlib.Omega.{arith}
use native.Mathlib.Nat.{mul-le-mul_right, add-mul, suc-mul}
use native.Mathlib.Numerals.{add-one}
use lib.IntN.{ℤ, pos}
use lib.ListN.{length, get_or, set, take, drop, replicate, length-replicate, length-drop, length-set, drop_of_length-le, take-append-drop}
use lib.Seq.{length-take-le, get_or-append-add, drop-drop, take-append-le, take-take, drop_at, set_split}
use Rattle.model.specs.Table.{Table, Proper}
use Rattle.theory.specs.Weight.{weight_at}
use Rattle.theory.specs.Sheet.{row}
use Rattle.arith.specs.Numbers.{number_of}
use Rattle.trees.specs.Subtrees.{starts, rank_at, subtree, starts_end, starts_node, starts_few}
use Rattle.weigh.specs.Numbers.{StandsFor}
use Rattle.weigh.specs.Steps.{Replaced}
use Rattle.weigh.proofs.Replacing.{replaced_list}
use Rattle.weigh.specs.Sheets.{node_rows, node_rows_end, node_rows_more, node_rows_entry, get_or_below, length_below}
use Rattle.weigh.proofs.Weights.{bounded_subtree}

-- the nodes from `at` on are done
pub record Filling (X : Table) (tree : List ℕ) (before sheet : List ℤ) (stack : List ℕ) (top at : ℕ) : Type 0 where
  pub some : at ≤ length tree
  pub same_length : length sheet ≡ length before
  pub rows : sheet ≡ take (at * X.states) before ++ (node_rows X.arithmetic X tree at ++ drop (length tree * X.states) before)
  pub waiting : drop top stack ≡ starts X.ranks tree at
  pub top_within : top ≤ 4096
  pub stack_long : length stack ≡ 4096

module _ (X : Table) (tree : List ℕ) (before : List ℤ) (room : length tree * X.states ≤ length before) where
  -- the rows of the nodes below `at` fit
  below_fits : (at : ℕ) → at ≤ length tree → at * X.states ≤ length before
  below_fits at l = let more = mul-le-mul_right X.states l in omega arith

  front : (at : ℕ) → at ≤ length tree → length (take (at * X.states) before) ≡ at * X.states
  front at l = length-take-le (at * X.states) before (below_fits at l)

  pub filling_starts : Filling X tree before before (replicate 4096 0) 4096 (length tree)
  filling_starts =
      let none : drop (length tree) tree ≡ [] = drop_of_length-le tree {i = length tree} (omega arith) in
      record {
        some = omega arith;
        same_length = refl;
        rows = rw (node_rows_end X.arithmetic X tree (length tree) none) (sym (take-append-drop (length tree * X.states) before));
        waiting = drop_of_length-le (replicate 4096 0) {i = 4096} (let long = length-replicate {A = ℕ} 4096 0 in omega arith) ∙ sym (starts_end X.ranks tree (length tree) (omega arith));
        top_within = omega arith;
        stack_long = length-replicate {A = ℕ} 4096 0;
      }

module _ {X : Table} {tree : List ℕ} {before sheet : List ℤ} {stack : List ℕ} {top at : ℕ} (room : length tree * X.states ≤ length before) (so_far : Filling X tree before sheet stack top at) where
  -- what stands at node × n + state
  filling_entry : (i q : ℕ) → at ≤ i → i < length tree → q < X.states
      → get_or sheet (i * X.states + q) (pos 0) ≡ number_of X.arithmetic (weight_at X.arithmetic X (subtree X.ranks tree i) q)
  filling_entry i q l inside known =
      let n = X.states in
      let node : at + (i - at) ≡ i = omega arith in
      let place : i * n + q ≡ length (take (at * n) before) + ((i - at) * n + q) =
      let long = front X tree before room at so_far.some in let parts = ap (λ (j : ℕ). j * n) node in let split = add-mul at (i - at) n in omega arith in
      rw (so_far.rows, place)
      (get_or-append-add (take (at * n) before) _ ((i - at) * n + q) (pos 0)
      ∙ node_rows_entry X.arithmetic X tree (drop (length tree * n) before) (i - at) at q (omega arith) known
      ∙ ap (λ (j : ℕ). number_of X.arithmetic (weight_at X.arithmetic X (subtree X.ranks tree j) q)) node)

  pub filling_stands : Proper X → length tree ≤ 4096 → (i q : ℕ) → at ≤ i → i < length tree → q < X.states
      → StandsFor X.arithmetic 4096 (weight_at X.arithmetic X (subtree X.ranks tree i) q) (get_or sheet (i * X.states + q) (pos 0))
  filling_stands proper few i q l inside known =
      record { number = filling_entry i q l inside known; bounded = bounded_subtree X proper tree i inside few q }

  -- there is room on the stack, and each node on it is behind `at`
  pub filling_room : length tree ≤ 4096 → at ≤ top
  filling_room few =
      let many = starts_few X.ranks tree at in
      let long = length-drop top stack in
      let same = ap length so_far.waiting in
      let all = so_far.stack_long in
      let within = so_far.top_within in
      let some = so_far.some in
      omega arith

-- the node before a place that is not the first
pub filling_at : {X : Table} {tree : List ℕ} {before sheet : List ℤ} {stack : List ℕ} {top next : ℕ} → 0 < next → Filling X tree before sheet stack top next → Filling X tree before sheet stack top (next - 1 + 1)
filling_at {next = next} some so_far = let same : next ≡ next - 1 + 1 = omega arith in rw same at so_far

-- one node more: its row, and the node in place of its children on the stack
module _ {X : Table} {tree : List ℕ} {before sheet later : List ℤ} {stack : List ℕ} {top rank : ℕ} {P : ℕ → ℤ → Type 0} (at : ℕ) (room : length tree * X.states ≤ length before) (so_far : Filling X tree before sheet stack top (at + 1))
    (rank_is : rank ≡ rank_at X.ranks tree at) (some-top : 1 ≤ top + rank) (on_stack : top + rank ≤ 4096) (replaced : Replaced (pos 0) (at * X.states) X.states P sheet later)
    (weights : (q : ℕ) (x : ℤ) → q < X.states → P q x → x ≡ number_of X.arithmetic (weight_at X.arithmetic X (subtree X.ranks tree at) q)) where
  inside : at < length tree
  inside = let some = so_far.some in omega arith

  next_row : (at + 1) * X.states ≡ at * X.states + X.states
  next_row = rw (add-one at) (suc-mul at X.states)

  own : List ℤ
  own = row X.arithmetic X (subtree X.ranks tree at)

  later_list : later ≡ take (at * X.states) sheet ++ (own ++ drop (at * X.states + X.states) sheet)
  unfolding own
  later_list =
      replaced_list (pos 0) (at * X.states) X.states P sheet later own replaced
      (length_below (λ q. number_of X.arithmetic (weight_at X.arithmetic X (subtree X.ranks tree at) q)) X.states)
      (let fits = below_fits X tree before room (at + 1) so_far.some in let long = so_far.same_length in let next = next_row in omega arith)
      (λ q x l h. weights q x l h ∙ sym (get_or_below (λ p. number_of X.arithmetic (weight_at X.arithmetic X (subtree X.ranks tree at) p)) X.states q (pos 0) l))

  front_kept : take (at * X.states) sheet ≡ take (at * X.states) before
  front_kept =
      let next = next_row in
      rw so_far.rows
      (take-append-le (at * X.states) (take ((at + 1) * X.states) before) _ (let long = front X tree before room (at + 1) so_far.some in omega arith)
      ∙ take-take (at * X.states) ((at + 1) * X.states) before (omega arith))

  behind_kept : drop (at * X.states + X.states) sheet ≡ node_rows X.arithmetic X tree (at + 1) ++ drop (length tree * X.states) before
  behind_kept = rw so_far.rows (drop_at (take ((at + 1) * X.states) before) _ (at * X.states + X.states) (front X tree before room (at + 1) so_far.some ∙ next_row))

  rows_on : later ≡ take (at * X.states) before ++ (node_rows X.arithmetic X tree at ++ drop (length tree * X.states) before)
  unfolding own
  rows_on =
      later_list ∙ rw (front_kept, behind_kept, node_rows_more X.arithmetic X tree at inside, append_assoc (row X.arithmetic X (subtree X.ranks tree at)) (node_rows X.arithmetic X tree (at + 1)) (drop (length tree * X.states) before))

  waiting_on : drop (top + rank - 1) (set stack (top + rank - 1) at) ≡ starts X.ranks tree at
  waiting_on =
      let long = so_far.stack_long in
      let i = top + rank - 1 in
      let next : suc (top + rank - 1) ≡ top + rank = omega arith in
      rw (set_split stack (top + rank - 1) at (omega arith), next)
      (drop_at (take (top + rank - 1) stack) _ (top + rank - 1) (length-take-le (top + rank - 1) stack (omega arith))
      ∙ ap (◌∷◌ at) (sym (drop-drop rank top stack) ∙ ap (drop rank) so_far.waiting ∙ ap (λ (k : ℕ). drop k (starts X.ranks tree (at + 1))) rank_is)
      ∙ sym (starts_node X.ranks tree at inside))

  pub filling_goes_on : Filling X tree before later (set stack (top + rank - 1) at) (top + rank - 1) at
  filling_goes_on = record {
    some = let some = so_far.some in omega arith;
    same_length = replaced.same_length ∙ so_far.same_length;
    rows = rows_on;
    waiting = waiting_on;
    top_within = omega arith;
    stack_long = length-set stack (top + rank - 1) at ∙ so_far.stack_long;
  }
