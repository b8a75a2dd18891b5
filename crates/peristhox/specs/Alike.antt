-- Demand 3 as a caller of weighing sees it: a tree weighs the same before and after any sequence of collapses in which none is refused.
use Rattle.std.specs.Prelude.{ℕ, ◌*◌, ◌<◌, ◌≡◌, refl, Bool, true, false, cond, List, Ok, Err, leb, ℤ, length, get_or}
use Rattle.std.proofs.Common.{sym, ap, ap₂, ◌∙◌, subst}
use Rattle.answers.specs.declared.Refusal.TheVariants.{RoomTooShort}
use Rattle.model.specs.Table.{Table}
use Rattle.theory.specs.Arithmetic.{sheet_number}
use Rattle.theory.specs.Weight.{value}
use Rattle.format.specs.Read.{Found, found, table_read}
use Rattle.trees.specs.Read.{TreeRead, tree_read}
use Rattle.trees.specs.Finished.{tree_of}
use Rattle.roundtrip.specs.Tables.{table_complete}
use Rattle.weigh.specs.Asked.{refused, weighed, with_table, with_tree, answered, weighed_asked}
use Rattle.weigh.specs.Promise.{Weighed}
use Rattle.weigh.specs.declared.Weighing.{Weighing}
use Rattle.collapse.specs.Sequences.{Collapsings, weights_kept}

-- the nodes and the weight of a weighing that is done
record Given (X : Table) (tree : List ℕ) (v : Weighing) : Type 0 where
  read : tree_read X.ranks tree ≡ Ok v.nodes
  weight_is : v.weight ≡ sheet_number (value X (tree_of X.ranks tree))

given_by : (X : Table) (tree : List ℕ) (room : ℕ) (v : Weighing) → Ok v ≡ answered (with_tree X tree room (tree_read X.ranks tree)) → Given X tree v
given_by X tree room v e = go (tree_read X.ranks tree) (λ n f. f) e
  where
    room_for : (n : ℕ) → tree_read X.ranks tree ≡ Ok n → (b : Bool)
        → Ok v ≡ answered (cond b (weighed X (tree_of X.ranks tree) n) (refused (RoomTooShort (n * X.states)))) → Given X tree v
    room_for n f true e =
        let w : Weighing = record { nodes = n; weight = sheet_number (value X (tree_of X.ranks tree)) } in
        let same : v ≡ w = cc in
        record { read = f ∙ ap (λ (u : Weighing). Ok u.nodes) (sym same); weight_is = ap (λ (u : Weighing). u.weight) same }
    room_for n f false e = absurd cc

    go : (r : TreeRead) → ((n : ℕ) → r ≡ Ok n → tree_read X.ranks tree ≡ Ok n) → Ok v ≡ answered (with_tree X tree room r) → Given X tree v
    go (Ok n) f e = room_for n (f n refl) (leb (n * X.states) room) e
    go (Err r) f e = absurd cc

module _ (from : List ℕ) (bytes : (i : ℕ) → get_or from i 0 < 256) (X : Table) (end : ℕ) (accepted : table_read from ≡ found X end) where
  pub weighed_alike : (to : List ℕ) → Collapsings from to → (tree : List ℕ) (sheet sheet' after after' : List ℤ) (v w : Weighing)
      → Weighed from tree sheet (Ok v) after → Weighed to tree sheet' (Ok w) after' → v ≡ w
  weighed_alike to s tree sheet sheet' after after' v w p q =
      let k = weights_kept from bytes X end accepted to s in
      let there : table_read to ≡ found k.last (length to) =
      subst (λ (l : List ℕ). table_read l ≡ found k.last (length l)) (sym k.reads.is) (table_complete k.last k.reads.proper) in
      let a = given_by X tree (length sheet) v ((weighed_asked tree sheet (Ok v) after from p).0 ∙ ap (λ (x : Found Table). answered (with_table tree (length sheet) x)) accepted) in
      let b = given_by k.last tree (length sheet') w ((weighed_asked tree sheet' (Ok w) after' to q).0 ∙ ap (λ (x : Found Table). answered (with_table tree (length sheet') x)) there) in
      let read : Ok v.nodes ≡ tree_read k.last.ranks tree = sym a.read ∙ ap (λ (ks : List ℕ). tree_read ks tree) (sym k.ranks_stay) in
      let nodes : v.nodes ≡ w.nodes = let same = read ∙ b.read in cc in
      let weight : v.weight ≡ w.weight = a.weight_is ∙ ap sheet_number (sym (k.weights (tree_of X.ranks tree)) ∙ ap (λ (ks : List ℕ). value k.last (tree_of ks tree)) (sym k.ranks_stay)) ∙ sym b.weight_is in
      ap₂ (λ (n : ℕ) (x : ℤ). record { nodes = n; weight = x }) nodes weight
