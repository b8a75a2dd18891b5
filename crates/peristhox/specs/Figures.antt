-- Every figure fits 32 bits, so code and figure can share one number.
use Rattle.std.specs.Prelude.{ℕ, ◌*◌, ◌≤◌, ◌<◌, ◌^◌, ◌≡◌, refl, Bool, true, false, cond, List, Ok, Err, leb, length, get_or}
use Rattle.std.proofs.Common.{mul-le-mul, arith}
use Rattle.model.specs.Tree.{Tree}
use Rattle.answers.specs.declared.Refusal.TheVariants.{RoomTooShort}
use Rattle.trees.specs.Read.{TreeRead, tree_read}
use Rattle.trees.specs.Finished.{tree_of}
use Rattle.trees.specs.Figures.{tree_figure, figure_small}
use Rattle.weigh.specs.Asked.{weighed, refused as asking, answered, asked, with_tree, with_table}
use Rattle.answers.specs.Numbers.{answer_figure}
use Rattle.model.specs.Table.{Table}
use Rattle.format.specs.Read.{Found, found, refused, table_read}
use Rattle.format.specs.Written.{bytes_of}
use Rattle.roundtrip.specs.Tables.{table_sound}
use Rattle.roundtrip.specs.Length.{table_length}
use Rattle.roundtrip.proofs.Reach.{figure_fits}
use Rattle.peristhox.specs.Faces.{nodes_of}
use Rattle.calls.specs.Answers.{checked, fits, fitted, rewritten_answer}

module _ (table : List ℕ) (bytes : (i : ℕ) → get_or table i 0 < 256) where
  pub check_fits : answer_figure (checked (table_read table)) < 2 ^ 32
  check_fits = go (table_read table) refl
    where
      go : (x : Found Table) → table_read table ≡ x → answer_figure (checked x) < 2 ^ 32
      go (found X end) e = let few = (table_sound table bytes X end e).0.states_few in omega arith
      go (refused refusal) e = figure_fits table bytes refusal e

  pub rewrite_fits : (room : List ℕ) → answer_figure (rewritten_answer (table_read table) room) < 2 ^ 32
  rewrite_fits room = go (table_read table) refl
    where
      either_fits : (b : Bool) (needed : ℕ) → needed ≤ 65415 → answer_figure (fitted b needed) < 2 ^ 32
      either_fits true needed h = omega arith
      either_fits false needed h = omega arith

      go : (x : Found Table) → table_read table ≡ x → answer_figure (rewritten_answer x room) < 2 ^ 32
      go (found X end) e = either_fits (fits (bytes_of X) room) (length (bytes_of X)) (table_length X (table_sound table bytes X end e).0)
      go (refused refusal) e = figure_fits table bytes refusal e

-- a weighing's figure: the nodes, the room needed, or the refusal's
room_fits : (nodes states : ℕ) → nodes ≤ 4096 → states ≤ 256 → nodes * states < 2 ^ 32
room_fits nodes states h k =
    let big : nodes * states ≤ 4096 * 256 = mul-le-mul h k in
    omega arith

with_room_fits : (X : Table) (t : Tree) (nodes : ℕ) (enough : Bool) → nodes ≤ 4096 → X.states ≤ 256
    → answer_figure (nodes_of (answered (cond enough (weighed X t nodes) (asking (RoomTooShort (nodes * X.states)))))) < 2 ^ 32
with_room_fits X t nodes true h k = omega arith
with_room_fits X t nodes false h k = room_fits nodes X.states h k

pub weigh_fits : (table tree : List ℕ) (room : ℕ) → ((i : ℕ) → get_or table i 0 < 256) → answer_figure (nodes_of (answered (asked table tree room))) < 2 ^ 32
weigh_fits table tree room bytes = go (table_read table) refl
  where
    with-tree : (X : Table) → X.states ≤ 256 → (r : TreeRead) → tree_figure r ≤ 4096 → answer_figure (nodes_of (answered (with_tree X tree room r))) < 2 ^ 32
    with-tree X k (Ok nodes) h = with_room_fits X (tree_of X.ranks tree) nodes (leb (nodes * X.states) room) h k
    with-tree X k (Err refusal) h = omega arith

    go : (x : Found Table) → table_read table ≡ x → answer_figure (nodes_of (answered (with_table tree room x))) < 2 ^ 32
    go (found X end) e = with-tree X (table_sound table bytes X end e).0.states_few (tree_read X.ranks tree) (figure_small X.ranks tree)
    go (refused refusal) e = figure_fits table bytes refusal e
