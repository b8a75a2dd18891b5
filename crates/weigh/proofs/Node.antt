-- One node: its row can be filled, and what is filled in are the weights of its subtree.
use Prim.Native.Nat.{ℕ, ◌+◌, ◌*◌, ◌-◌, ◌≤◌, ◌<◌}
use mathlib.Core.Path.{◌≡◌, sym, ap, ◌∙◌, subst}
use mathlib.Core.Bool.{Bool, ◌&&◌}
use mathlib.Core.List.{List}
use native.Mathlib.Omega.{arith}
use native.Mathlib.Nat.{mul-le-mul_right, suc-mul}
use native.Mathlib.Numerals.{add-one}
use borrow.Author.Tests.{eq-eqb, ne_eqb}
use lib.Dec.{eqb}
use lib.IntN.{ℤ, pos}
use lib.ListN.{length, get_or, take, drop, length-drop}
use lib.Seq.{length-take-le, get_or-take, get_or-drop}
use Rattle.std.proofs.lemmas.List.{length-take}
use Rattle.model.specs.Table.{Table, Each, ProperTransition}
use Rattle.model.specs.Tree.{node}
use Rattle.model.proofs.Each.{each_at}
use Rattle.theory.specs.Sum.{only, only_times, zero_times}
use Rattle.theory.specs.Arithmetic.{arithmetic_number, arithmetic, Weight, meaning}
use Rattle.theory.specs.Weight.{weight_at, product_at}
use Rattle.trees.specs.Written.{accepted}
use Rattle.trees.specs.Subtrees.{starts, rank_at, subtree, subtrees, subtree_node, starts_enough, starts_within}
use Rattle.tables.specs.Rows.{columns_of, rows_length, each_row}
use Rattle.tables.specs.Record.{row_at, table_of}
use Rattle.tables.specs.declared.TableRecord.{TableRecord}
use Rattle.weigh.specs.declared.rows.Row.{Row}
use Rattle.weigh.specs.Numbers.{StandsFor}
use Rattle.weigh.specs.Index.{Begins}
use Rattle.weigh.specs.Rows.{RowAt, Sources, sources, child_place, child_number, row_product, sum_into, Ready, RowReady}
use Rattle.weigh.specs.Steps.{Weighable}
use Rattle.weigh.proofs.Bounds.{stands_weight, stands_good}
use Rattle.weigh.proofs.Transitions.{sum_rows, range_ordered, range_symbol}
use Rattle.weigh.proofs.Sums.{sum_part, sum_range}
use Rattle.weigh.proofs.Products.{product_of-product_at}
use Rattle.weigh.proofs.Filling.{Filling, filling_room, filling_stands}
use Rattle.theory.proofs.Laws.{laws}

-- what holds at the node with offset `at`: its row can be filled from these sources, and what is filled in are the weights of its subtree
pub record NodeReady (X : Table) (tree : List ℕ) (s : Sources) (target : List ℕ) (at top : ℕ) (row : Row) : Type 0 where
  pub at_is : row.at ≡ at
  pub top_is : row.top ≡ top
  pub rank_is : row.rank ≡ rank_at X.ranks tree at
  pub some_top : 1 ≤ top + row.rank
  pub ready : RowReady X.arithmetic s target row
  pub weights : (q : ℕ) → sum_into X.arithmetic s target row.rank row.from row.to q ≡ weight_at X.arithmetic X (subtree X.ranks tree at) q

module _ {t : TableRecord} {tree : List ℕ} {before : List ℤ} (weighable : Weighable t tree before) where
  -- the table that is weighed by
  abbrev X : Table
  X = table_of t

  abbrev a : ℕ
  a = (arithmetic_number t.arithmetic)

  abbrev n : ℕ
  n = t.states

  -- a tree has at most 4,096 nodes
  pub tree_few : length tree ≤ 4096
  tree_few = let few = (accepted X.ranks tree (length tree) weighable.accepted).few in omega arith

  pub symbols_few : t.symbols ≤ 128
  symbols_few = let few = weighable.proper.symbols_few in let same = weighable.symbols_are in omega arith

  pub transitions_few : t.count ≤ 4000
  transitions_few = let few = weighable.proper.transitions_few in let same = rows_length (columns_of t) 0 t.count in omega arith

  -- transition j is one of the table's
  pub row_proper : (j : ℕ) → j < t.count → ProperTransition X.ranks n (row_at (columns_of t) j)
  row_proper j l = each_row (ProperTransition X.ranks n) (columns_of t) 0 t.count weighable.proper.transitions_proper j (omega arith) (omega arith)

  module _ {sheet : List ℤ} {stack : List ℕ} {top : ℕ} (at : ℕ) (so_far : Filling X tree before sheet stack top (at + 1)) where
    inside : at < length tree
    inside = let some = so_far.some in omega arith

    enough : (get_or tree at 0 < length X.ranks) × (rank_at X.ranks tree at ≤ length (starts X.ranks tree (at + 1)))
    enough = starts_enough X.ranks tree at (length tree) weighable.accepted inside

    pub symbol_known : get_or tree at 0 < t.symbols
    symbol_known = let known = enough.0 in let same = weighable.symbols_are in omega arith

    waiting_many : length (starts X.ranks tree (at + 1)) ≡ 4096 - top
    waiting_many = sym (ap length so_far.waiting) ∙ length-drop top stack ∙ let long = so_far.stack_long in omega arith

    rank_known : get_or t.ranks (get_or tree at 0) 0 ≡ rank_at X.ranks tree at
    rank_known = sym (get_or-take t.symbols t.ranks (get_or tree at 0) 0 symbol_known)

    pub rank_small : get_or t.ranks (get_or tree at 0) 0 ≤ 4
    rank_small = rw rank_known (each_at (λ k. k ≤ 4) X.ranks (get_or tree at 0) 0 weighable.proper.ranks_small enough.0)

    pub on_stack : top + get_or t.ranks (get_or tree at 0) 0 ≤ 4096
    on_stack = let many = waiting_many in let some = enough.1 in let same = rank_known in let within = so_far.top_within in omega arith

    module _ (numbers : List ℤ) (begins : List ℕ) (indexed : (s : ℕ) → s < t.symbols + 1 → Begins t.symbol t.count s (get_or begins s 0))
        (decoded : (j : ℕ) → j < t.count → StandsFor a 1 (meaning a (get_or t.code j 0)) (get_or numbers j (pos 0)))
        {row : Row} (own_row : RowAt at top t.ranks begins tree row) where
      -- what the node's row is made of
      abbrev from_here : Sources
      from_here = sources n t.children stack top numbers sheet

      first : Begins t.symbol t.count (get_or tree at 0) row.from
      first = rw own_row.from_is (indexed (get_or tree at 0) (let known = symbol_known in omega arith))

      ends : Begins t.symbol t.count (get_or tree at 0 + 1) row.to
      ends = rw own_row.to_is (indexed (get_or tree at 0 + 1) (let known = symbol_known in omega arith))

      rank_is : row.rank ≡ rank_at X.ranks tree at
      rank_is = own_row.rank_is ∙ rank_known

      module _ (j : ℕ) (l : row.from ≤ j) (m : j < row.to) where
        listed : j < t.count
        listed = let within = ends.within in omega arith

        own_symbol : get_or t.symbol j 0 ≡ get_or tree at 0
        own_symbol = range_symbol t.symbol t.count (get_or tree at 0) row.from row.to first ends j l m

        children_are : (row_at (columns_of t) j).children ≡ take row.rank (drop (j * 4) t.children)
        children_are = rw own_row.rank_is (ap (λ (s : ℕ). take (get_or t.ranks s 0) (drop (j * 4) t.children)) own_symbol)

        states_many : row.rank ≤ length (drop (j * 4) t.children)
        states_many =
            let many : length (take row.rank (drop (j * 4) t.children)) ≡ rank_at X.ranks tree at = ap length (sym children_are) ∙ (row_proper j listed).children_many ∙ ap (λ (s : ℕ). get_or X.ranks s 0) own_symbol in
            let same = rank_is in
            omega (arith, length-take row.rank (drop (j * 4) t.children))

        module _ (k : ℕ) (o : k < row.rank) where
          child_state : get_or t.children (j * 4 + k) 0 < n
          child_state =
              let known : Each (λ q. q < n) (take row.rank (drop (j * 4) t.children)) = rw children_are at (row_proper j listed).children_known in
              rw (← get_or-drop (j * 4) t.children k 0, ← get_or-take row.rank (drop (j * 4) t.children) k 0 o)
              (each_at (λ q. q < n) (take row.rank (drop (j * 4) t.children)) k 0 known (let long = length-take-le row.rank (drop (j * 4) t.children) states_many in omega arith))

          child_node : (at + 1 ≤ get_or stack (top + k) 0) × (get_or stack (top + k) 0 < length tree)
          child_node =
              let some = enough.1 in
              let same = rank_is in
              rw (← get_or-drop top stack k 0, so_far.waiting) (starts_within X.ranks tree (at + 1) k (omega arith))

          child_stands : StandsFor a 4096 (weight_at a X (subtree X.ranks tree (get_or stack (top + k) 0)) (get_or t.children (j * 4 + k) 0)) (child_number from_here j k)
          child_stands =
              filling_stands weighable.room so_far weighable.proper tree_few (get_or stack (top + k) 0) (get_or t.children (j * 4 + k) 0)
              child_node.0 child_node.1 child_state

          child-place : (at * n + n ≤ child_place from_here j k) × (child_place from_here j k < length sheet)
          child-place =
              let (behind, within) = child_node in
              let state = child_state in
              let room = weighable.room in
              let long = so_far.same_length in
              let first = mul-le-mul_right n behind in
              let last = mul-le-mul_right n within in
              let next = suc-mul at n in
              let row = suc-mul (get_or stack (top + k) 0) n in
              let one = ap (λ (i : ℕ). i * n) (add-one at) in
              (omega arith, omega arith)

        transition_ready : Ready a from_here row.rank j
        transition_ready = record {
          listed = let few = transitions_few in let one = listed in omega arith;
          own = stands_good a 1 (omega arith) _ _ (decoded j listed);
          places = λ k o. (child-place k o).1;
          child = λ k o. stands_good a 4096 (omega arith) _ _ (child_stands k o);
        }

        -- its product is the definition's
        product_is : row_product a from_here row.rank j ≡ (arithmetic a).times (meaning a (get_or t.code j 0)) (product_at a X (subtrees X.ranks tree (take row.rank (drop top stack))) (row_at (columns_of t) j).children)
        product_is =
            product_of-product_at a X tree from_here row.rank j (drop top stack) (drop (j * 4) t.children)
            (let many = waiting_many in let some = enough.1 in let same = rank_is in rw so_far.waiting (omega arith)) states_many
            (λ k o. rw (get_or-drop top stack k 0, get_or-drop (j * 4) t.children k 0) (stands_weight a 4096 (omega arith) _ _ (child_stands k o)))
            (meaning a (get_or t.code j 0)) (stands_weight a 1 (omega arith) _ _ (decoded j listed))
            ∙ ap (λ (qs : List ℕ). (arithmetic a).times (meaning a (get_or t.code j 0)) (product_at a X (subtrees X.ranks tree (take row.rank (drop top stack))) qs)) (sym children_are)

      node_ready : RowReady a from_here t.target row
      node_ready = record {
        row_fits =
            let room = weighable.room in
            let long = so_far.same_length in
            let rows = mul-le-mul_right n so_far.some in
            let next = ap (λ (i : ℕ). i * n) (add-one at) ∙ suc-mul at n in
            rw own_row.at_is (omega arith);
        ordered = range_ordered t.symbol t.count (get_or tree at 0) row.from row.to first ends;
        ready = transition_ready;
        targets = λ j l m. (row_proper j (listed j l m)).target_known;
        behind = λ j k l m o. rw own_row.at_is (child-place j l m k o).0;
      }

      -- the transitions of other symbols add nothing
      abbrev summand_if : Bool → ℕ → ℕ → Weight a
      summand_if own q j =
          (arithmetic a).times (only (arithmetic a) (own && eqb (get_or t.target j 0) q) (meaning a (get_or t.code j 0))) (product_at a X (subtrees X.ranks tree (take row.rank (drop top stack))) (row_at (columns_of t) j).children)

      abbrev summand : ℕ → ℕ → Weight a
      summand q j = summand_if (eqb (get_or t.symbol j 0) (get_or tree at 0)) q j

      other_symbol : (q j : ℕ) → (get_or t.symbol j 0 ≡ get_or tree at 0 → ⊥) → summand q j ≡ (arithmetic a).zero
      other_symbol q j differ = ap (λ (own : Bool). summand_if own q j) (ne_eqb (get_or t.symbol j 0) (get_or tree at 0) differ) ∙ zero_times (arithmetic a) (laws a) _

      own_summand : (q j : ℕ) → row.from ≤ j → j < row.to → summand q j ≡ only (arithmetic a) (eqb (get_or t.target j 0) q) (row_product a from_here row.rank j)
      own_summand q j l m =
          ap (λ (own : Bool). summand_if own q j) (eq-eqb (get_or t.symbol j 0) (get_or tree at 0) (own_symbol j l m))
          ∙ only_times (arithmetic a) (laws a) (eqb (get_or t.target j 0) q) (meaning a (get_or t.code j 0)) _
          ∙ ap (only (arithmetic a) (eqb (get_or t.target j 0) q)) (sym (product_is j l m))

      -- the children on the stack are the node's
      subtree_here : subtree X.ranks tree at ≡ node (get_or tree at 0) (subtrees X.ranks tree (take row.rank (drop top stack)))
      subtree_here = rw (rank_is, so_far.waiting) (subtree_node X.ranks tree at inside)

      -- what is filled in at a state is the weight of the subtree at it
      node_weight : (q : ℕ) → sum_into a from_here t.target row.rank row.from row.to q ≡ weight_at a X (subtree X.ranks tree at) q
      unfolding weight_at
      node_weight q =
          sym (ap (λ u. weight_at a X u q) subtree_here
          ∙ sum_rows (arithmetic a) _ (columns_of t) 0 t.count
          ∙ sum_part (arithmetic a) (laws a) (summand q) row.from row.to t.count (range_ordered t.symbol t.count (get_or tree at 0) row.from row.to first ends) ends.within
          (λ j l. other_symbol q j (λ e. let less = first.below j l in omega arith))
          (λ j l m. other_symbol q j (λ e. let more = ends.above j l m in omega arith))
          ∙ sum_range (arithmetic a) (summand q) _ row.from (row.to - row.from) (λ j l m. own_summand q j l (let ordered = range_ordered t.symbol t.count (get_or tree at 0) row.from row.to first ends in omega arith)))

      pub at_node : NodeReady X tree (sources n t.children stack row.top numbers sheet) t.target at top row
      at_node = subst (λ (p : ℕ). NodeReady X tree (sources n t.children stack p numbers sheet) t.target at top row) (sym own_row.top_is) record {
        at_is = own_row.at_is;
        top_is = own_row.top_is;
        rank_is = rank_is;
        some_top = let rank = own_row.rank_is in let room = filling_room weighable.room so_far tree_few in omega arith;
        ready = node_ready;
        weights = node_weight;
      }
