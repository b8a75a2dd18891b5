-- What weighing answers, and what it leaves in the sheet (document 01, "Numbers that come back").
use Rattle.std.specs.Prelude.{Result, Ok, Err, ℕ, ◌*◌, ◌≡◌, Bool, true, false, List, ◌++◌, leb, ℤ, pos, length, drop}
use Rattle.model.specs.Table.{Table}
use Rattle.model.specs.Tree.{Tree}
use Rattle.theory.specs.Arithmetic.{sheet_number}
use Rattle.theory.specs.Weight.{value}
use Rattle.theory.specs.Sheet.{sheet}
use Rattle.answers.specs.declared.Refusal.{Refusal}
use Rattle.answers.specs.declared.Refusal.TheVariants.{RoomTooShort}
use Rattle.format.specs.Read.{Found, found, refused, table_read}
use Rattle.trees.specs.Read.{TreeRead, tree_read}
use Rattle.trees.specs.Written.{Written}
use Rattle.weigh.specs.declared.Weighing.{Weighing}

-- "weighing, the nodes, and the weight beside it … A refused weighing has weight 0 and says that there is none."
abbrev pub weight_beside : Result Weighing Refusal → ℤ
weight_beside (Ok weighing) = weighing.weight
weight_beside (Err refusal) = pos 0

abbrev pub weight_given : Result Weighing Refusal → Bool
weight_given (Ok weighing) = true
weight_given (Err refusal) = false

-- nodes times n numbers are needed
abbrev pub enough : Table → ℕ → List ℤ → Bool
enough X nodes before = leb (nodes * X.states) (length before)

-- done with the nodes, and the weight beside it; or 12 with the room needed. Refused, there is no weight
abbrev pub weight_of : Bool → Table → Tree → ℕ → Result Weighing Refusal
weight_of true X t nodes = Ok (record { nodes = nodes; weight = sheet_number (value X t) })
weight_of false X t nodes = Err (RoomTooShort (nodes * X.states))

-- the weights of each node's subtree, and behind them what was there; refused, the sheet is as it was
abbrev pub sheet_of : Bool → Table → Tree → ℕ → List ℤ → List ℤ
sheet_of true X t nodes before = sheet X.arithmetic X t ++ drop (nodes * X.states) before
sheet_of false X t nodes before = before

-- the tree that the bytes are is weighed by the table X
pub record TreeWeighed (X : Table) (bytes : List ℕ) (nodes : ℕ) (before : List ℤ) (weighing : Result Weighing Refusal) (after : List ℤ) : Type 0 where
  pub tree : Tree
  pub written : Written X.ranks tree bytes
  pub answer_is : weighing ≡ weight_of (enough X nodes before) X tree nodes
  pub sheet_is : after ≡ sheet_of (enough X nodes before) X tree nodes before

-- the table first, then the tree, then the room
abbrev pub WeighedTree : Table → List ℕ → TreeRead → List ℤ → Result Weighing Refusal → List ℤ → Type 0
WeighedTree X bytes (Ok nodes) before weighing after = TreeWeighed X bytes nodes before weighing after
WeighedTree X bytes (Err refusal) before weighing after = (weighing ≡ Err refusal) × (after ≡ before)

abbrev pub WeighedBy : Found Table → List ℕ → List ℤ → Result Weighing Refusal → List ℤ → Type 0
WeighedBy (found X end) bytes before weighing after = WeighedTree X bytes (tree_read X.ranks bytes) before weighing after
WeighedBy (refused refusal) bytes before weighing after = (weighing ≡ Err refusal) × (after ≡ before)

-- the promise: from the bytes and the sheet before, the answer and the sheet after
abbrev pub Weighed : List ℕ → List ℕ → List ℤ → Result Weighing Refusal → List ℤ → Type 0
Weighed table bytes before weighing after = WeighedBy (table_read table) bytes before weighing after
