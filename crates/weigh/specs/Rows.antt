-- The row of a node: what it is made of, and what is filled in.
use Rattle.std.specs.Prelude.{ℕ, zero, suc, ◌+◌, ◌-◌, ◌*◌, ◌≤◌, ◌<◌, ◌≡◌, List, eqb, ℤ, pos, length, get_or, set}
use Rattle.theory.specs.Sum.{only, sum}
use Rattle.theory.specs.Below.{below, up_from}
use Rattle.theory.specs.Arithmetic.{arithmetic, Weight, meaning}
use Rattle.arith.specs.Numbers.{number_of, weight_of}
use Rattle.weigh.specs.Numbers.{Bounded, Good}
use Rattle.weigh.specs.declared.rows.Row.{Row}
use Rattle.weigh.specs.declared.Weigher.{Weigher}

-- a row is that of the node at an offset: its transitions stand from the beginning of its symbol's up to the next symbol's
pub record RowAt (at top : ℕ) (ranks begins tree : List ℕ) (row : Row) : Type 0 where
  pub at_is : row.at ≡ at
  pub rank_is : row.rank ≡ get_or ranks (get_or tree at 0) 0
  pub top_is : row.top ≡ top
  pub from_is : row.from ≡ get_or begins (get_or tree at 0) 0
  pub to_is : row.to ≡ get_or begins (get_or tree at 0 + 1) 0

-- what the row of a node is made of: the children of transition j are in the states from 4 * j on, and their nodes stand on the stack
-- from `top` on; `numbers` are those of the transitions' weights
pub record Sources : Type 0 where
  pub states : ℕ
  pub children : List ℕ
  pub stack : List ℕ
  pub top : ℕ
  pub numbers : List ℤ
  pub sheet : List ℤ

abbrev pub sources : ℕ → List ℕ → List ℕ → ℕ → List ℤ → List ℤ → Sources
sources states children stack top numbers sheet = record { states = states; children = children; stack = stack; top = top; numbers = numbers; sheet = sheet }

-- what this row of a weigher is made of
abbrev pub sources_of : Weigher → Row → List ℤ → Sources
sources_of w row sheet = sources w.table.now.states w.table.now.children w.stack.now row.top w.numbers.now sheet

-- where the number of child k of transition j stands: node × n + state
abbrev pub child_place : Sources → ℕ → ℕ → ℕ
child_place s j k = get_or s.stack (s.top + k) 0 * s.states + get_or s.children (j * 4 + k) 0

abbrev pub child_number : Sources → ℕ → ℕ → ℤ
child_number s j k = get_or s.sheet (child_place s j k) (pos 0)

abbrev pub own_number : Sources → ℕ → ℤ
own_number s j = get_or s.numbers j (pos 0)

-- a weight times the weights of m children of transition j, from child k on
abbrev pub times_children : (a : ℕ) → Sources → ℕ → Weight a → ℕ → ℕ → Weight a
times_children a s j w k zero = w
times_children a s j w k (suc m) = times_children a s j ((arithmetic a).times w (weight_of a (child_number s j k))) (suc k) m

-- the weight of transition j times the product of its children's
abbrev pub row_product : (a : ℕ) → Sources → ℕ → ℕ → Weight a
row_product a s rank j = times_children a s j (weight_of a (own_number s j)) 0 rank

-- the sum, over the transitions from `from` up to `to` with target q, of their products
abbrev pub sum_into : (a : ℕ) → Sources → List ℕ → ℕ → ℕ → ℕ → ℕ → Weight a
sum_into a s target rank from to q = sum (arithmetic a) (up_from from (to - from)) (λ j. only (arithmetic a) (eqb (get_or target j 0) q) (row_product a s rank j))

-- the sum, over n states, of final weight times weight at the root, whose row stands first in the sheet
abbrev pub final_sum : (a : ℕ) → ℕ → List ℕ → List ℤ → Weight a
final_sum a n finals sheet = sum (arithmetic a) (below n) (λ q. (arithmetic a).times (meaning a (get_or finals q 0)) (weight_of a (get_or sheet q (pos 0))))

-- the product of transition j can be taken
pub record Ready (a : ℕ) (s : Sources) (rank j : ℕ) : Type 0 where
  pub listed : j < 4000
  pub own : Good a 1 (own_number s j)
  pub places : (k : ℕ) → k < rank → child_place s j k < length s.sheet
  pub child : (k : ℕ) → k < rank → Good a 4096 (child_number s j k)

-- the sum of the number at a place and the product of transition j
abbrev pub sum_at : (a : ℕ) → Sources → ℕ → ℕ → ℕ → Weight a
sum_at a s rank j place = (arithmetic a).plus (weight_of a (get_or s.sheet place (pos 0))) (row_product a s rank j)

-- that sum stands at the place, and the others are as they were
pub record Added (a : ℕ) (s : Sources) (rank j place : ℕ) (after : List ℤ) : Type 0 where
  pub stored : after ≡ set s.sheet place (number_of a (sum_at a s rank j place))
  pub bounded : Bounded a 16385 (sum_at a s rank j place)

-- the row can be filled: the transitions' targets are states, and their children's numbers stand behind the row
pub record RowReady (a : ℕ) (s : Sources) (target : List ℕ) (row : Row) : Type 0 where
  pub row_fits : row.at * s.states + s.states ≤ length s.sheet
  pub ordered : row.from ≤ row.to
  pub ready : (j : ℕ) → row.from ≤ j → j < row.to → Ready a s row.rank j
  pub targets : (j : ℕ) → row.from ≤ j → j < row.to → get_or target j 0 < s.states
  pub behind : (j k : ℕ) → row.from ≤ j → j < row.to → k < row.rank → row.at * s.states + s.states ≤ child_place s j k
