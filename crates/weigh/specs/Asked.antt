-- What the steps of weighing answer, and what they leave in the sheet, with the tree that they go by: the one that is grown from the bytes.
-- The call's promise (Promise.antt) says which tree that is.
use Rattle.std.specs.Prelude.{Result, Ok, Err, ℕ, ◌*◌, ◌≡◌, refl, Bool, true, false, cond, List, leb, ℤ, length}
use Rattle.std.proofs.Common.{sym, ap, ◌∙◌, subst}
use Rattle.model.specs.Table.{Table}
use Rattle.model.specs.Tree.{Tree}
use Rattle.answers.specs.declared.Refusal.{Refusal}
use Rattle.answers.specs.declared.Refusal.TheVariants.{RoomTooShort}
use Rattle.format.specs.Read as format
use Rattle.trees.specs.Read.{TreeRead, tree_read}
use Rattle.trees.specs.Finished.{tree_of}
use Rattle.trees.specs.Written.{sound, read_back}
use Rattle.weigh.specs.declared.Weighing.{Weighing}
use Rattle.weigh.specs.Promise.{enough, weight_of, sheet_of, WeighedTree, WeighedBy, Weighed}

-- what is asked: to refuse, or to weigh a tree of so many nodes by a table
pub data Asked : Type 0 where
  refused : Refusal → Asked
  weighed : Table → Tree → ℕ → Asked

-- nodes times n numbers are needed
abbrev pub with_room : Table → Tree → ℕ → ℕ → Asked
with_room X t nodes room = cond (leb (nodes * X.states) room) (weighed X t nodes) (refused (RoomTooShort (nodes * X.states)))

abbrev pub with_tree : Table → List ℕ → ℕ → TreeRead → Asked
with_tree X bytes room (Ok nodes) = with_room X (tree_of X.ranks bytes) nodes room
with_tree X bytes room (Err refusal) = refused refusal

-- what is asked of a table that was read, the tree's bytes and so much room
abbrev pub asked_by : Table → List ℕ → ℕ → Asked
asked_by X bytes room = with_tree X bytes room (tree_read X.ranks bytes)

abbrev pub with_table : List ℕ → ℕ → format.Found Table → Asked
with_table bytes room (format.found X end) = asked_by X bytes room
with_table bytes room (format.refused refusal) = refused refusal

-- the table first, then the tree, then the room
abbrev pub asked : List ℕ → List ℕ → ℕ → Asked
asked table tree room = with_table tree room (format.table_read table)

-- what is answered, and what the sheet holds then
abbrev pub answered : Asked → Result Weighing Refusal
answered (refused refusal) = Err refusal
answered (weighed X t nodes) = weight_of true X t nodes

abbrev pub filled : Asked → List ℤ → List ℤ
filled (refused refusal) before = before
filled (weighed X t nodes) before = sheet_of true X t nodes before

-- The call's promise says what the steps answer: the tree is the one that they go by.
module _ (bytes : List ℕ) (before : List ℤ) (w : Result Weighing Refusal) (after : List ℤ) where
  room_asked : (b : Bool) (X : Table) (t : Tree) (nodes : ℕ) → (w ≡ weight_of b X t nodes) × (after ≡ sheet_of b X t nodes before)
      → (w ≡ answered (cond b (weighed X t nodes) (refused (RoomTooShort (nodes * X.states))))) × (after ≡ filled (cond b (weighed X t nodes) (refused (RoomTooShort (nodes * X.states)))) before)
  room_asked true X t nodes p = p
  room_asked false X t nodes p = p

  asked_room : (b : Bool) (X : Table) (t : Tree) (nodes : ℕ)
      → (w ≡ answered (cond b (weighed X t nodes) (refused (RoomTooShort (nodes * X.states))))) × (after ≡ filled (cond b (weighed X t nodes) (refused (RoomTooShort (nodes * X.states)))) before)
      → (w ≡ weight_of b X t nodes) × (after ≡ sheet_of b X t nodes before)
  asked_room true X t nodes p = p
  asked_room false X t nodes p = p

  tree_asked : (X : Table) (r : TreeRead) → WeighedTree X bytes r before w after → (w ≡ answered (with_tree X bytes (length before) r)) × (after ≡ filled (with_tree X bytes (length before) r) before)
  tree_asked X (Ok nodes) p =
      let same : p.tree ≡ tree_of X.ranks bytes = sym (read_back X.ranks p.tree p.written.over) ∙ ap (tree_of X.ranks) p.written.bytes_are in
      room_asked (enough X nodes before) X (tree_of X.ranks bytes) nodes (subst (λ (t : Tree). (w ≡ weight_of (enough X nodes before) X t nodes) × (after ≡ sheet_of (enough X nodes before) X t nodes before)) same (p.answer_is, p.sheet_is))
  tree_asked X (Err refusal) p = p

  asked_tree : (X : Table) (r : TreeRead) → tree_read X.ranks bytes ≡ r → (w ≡ answered (with_tree X bytes (length before) r)) × (after ≡ filled (with_tree X bytes (length before) r) before) → WeighedTree X bytes r before w after
  asked_tree X (Ok nodes) e p =
      let q = asked_room (enough X nodes before) X (tree_of X.ranks bytes) nodes p in
      record { tree = tree_of X.ranks bytes; written = sound X.ranks bytes nodes e; answer_is = q.0; sheet_is = q.1 }
  asked_tree X (Err refusal) e p = p

  pub weighed_asked : (table : List ℕ) → Weighed table bytes before w after → (w ≡ answered (asked table bytes (length before))) × (after ≡ filled (asked table bytes (length before)) before)
  weighed_asked table = go (format.table_read table)
    where
      go : (x : format.Found Table) → WeighedBy x bytes before w after → (w ≡ answered (with_table bytes (length before) x)) × (after ≡ filled (with_table bytes (length before) x) before)
      go (format.found X end) p = tree_asked X (tree_read X.ranks bytes) p
      go (format.refused refusal) p = p

  pub asked_weighed : (table : List ℕ) → (w ≡ answered (asked table bytes (length before))) × (after ≡ filled (asked table bytes (length before)) before) → Weighed table bytes before w after
  asked_weighed table = go (format.table_read table)
    where
      go : (x : format.Found Table) → (w ≡ answered (with_table bytes (length before) x)) × (after ≡ filled (with_table bytes (length before) x) before) → WeighedBy x bytes before w after
      go (format.found X end) p = asked_tree X (tree_read X.ranks bytes) refl p
      go (format.refused refusal) p = p

-- any two answers and sheets that the promise allows are equal
pub weigh_decided : (table bytes : List ℕ) (before : List ℤ) (v w : Result Weighing Refusal) (after later : List ℤ)
    → Weighed table bytes before v after → Weighed table bytes before w later → (v ≡ w) × (after ≡ later)
weigh_decided table bytes before v w after later p q =
    let a = weighed_asked bytes before v after table p in
    let b = weighed_asked bytes before w later table q in
    (a.0 ∙ sym b.0, a.1 ∙ sym b.1)
