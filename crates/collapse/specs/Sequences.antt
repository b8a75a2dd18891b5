-- Demand 3, from the bytes of the first table to the bytes of the last: no sequence of collapses in which none is refused changes the
-- weight of any tree, however large; and the last collapse, made again at once with room for it, returns the same bytes.
use Rattle.std.specs.Prelude.{ℕ, ◌<◌, ◌≤◌, ◌≡◌, refl, Bool, true, false, List, Result, Ok, Err, length, get_or, take, leb}
use Rattle.std.proofs.Common.{sym, ap, ◌∙◌, subst, le-leb}
use Rattle.std.proofs.Math.Seq.{take-append_seam}
use Rattle.answers.specs.declared.Refusal.{Refusal}
use Rattle.answers.specs.declared.Refusal.TheVariants.{NoDirection}
use Rattle.model.specs.Table.{Table, Proper}
use Rattle.model.specs.Tree.{Tree}
use Rattle.theory.specs.Weight.{value}
use Rattle.theory.specs.Direction.{direction}
use Rattle.theory.specs.Collapse.{CollapsedByCoarsest}
use Rattle.theory.proofs.CollapseProper.{collapsed_by_coarsest_proper}
use Rattle.theory.specs.Shrink.{Shrinks}
use Rattle.theory.proofs.Shrink.{shrinks_proper, shrinks_value}
use Rattle.theory.specs.Sequence.{Sequence, start, collapse}
use Rattle.theory.proofs.Sequence.{sequence_value, sequence_again}
use Rattle.format.specs.Read.{Found, found, refused, table_read}
use Rattle.format.specs.Written.{bytes_of}
use Rattle.roundtrip.specs.Tables.{table_sound, table_complete}
use Rattle.calls.specs.Answers.{fits, filled}
use Rattle.collapse.specs.Promises.{answer_of, written, TablePut, PutFrom, Collapses, ShrinksTo}
use Rattle.collapse.specs.declared.Counted.{Counted}

-- a collapse in direction d of a table that is not refused: `to` is what it wrote into some lent room
pub record Collapsing (d : ℕ) (from to : List ℕ) : Type 0 where
  pub room_before : List ℕ
  pub room_after : List ℕ
  pub given : Result Counted Refusal
  pub collapses : Collapses d from room_before given room_after
  pub done : answer_of given ≡ Ok (length to)
  pub wrote : to ≡ take (length to) room_after

-- any sequence of collapses, backward and forward, none of them refused
pub data Collapsings (from : List ℕ) : List ℕ → Type 0 where
  none : Collapsings from from
  ◌behind◌ : {to next : List ℕ} {d : ℕ} → Collapsing d to next → Collapsings from to → Collapsings from next

-- Whatever a collapse that is done leaves at the front of the room, as many bytes as its figure says, is what it wrote.
pub done_collapsing : (d : ℕ) (from before : List ℕ) (n : ℕ) (given : Result Counted Refusal) (room : List ℕ) → Collapses d from before given room
    → answer_of given ≡ Ok n → Collapsing d from (take n room)
done_collapsing d from before n given room collapses done = go (leb d 1) (table_read from) collapses
  where
    never : (r : Refusal) → given ≡ Err r → ⊥
    never r e = cc

    front : (Y : Table) (b : Bool) → given ≡ written b Y → room ≡ filled b (bytes_of Y) before → length (take n room) ≡ n
    front Y false e f = absurd cc
    front Y true e f =
        let long : n ≡ length (bytes_of Y) = cc in
        let seam : take n room ≡ bytes_of Y = rw (long, f) (take-append_seam (bytes_of Y) _) in
        rw seam (sym long)

    collapsing : length (take n room) ≡ n → Collapsing d from (take n room)
    collapsing l = record { room_before = before; room_after = room; given = given; collapses = collapses; done = rw l done; wrote = rw l }

    go : (known : Bool) (x : Found Table) → PutFrom known x (CollapsedByCoarsest (direction d)) before given room → Collapsing d from (take n room)
    go false x p = absurd (never NoDirection p.0)
    go true (refused r) p = absurd (never r p.0)
    go true (found X end) p = collapsing (front p.table (fits (bytes_of p.table) before) p.answer_is p.room_is)

-- the bytes are a table within document 01's bounds
pub record Reads (bytes : List ℕ) (X : Table) : Type 0 where
  pub is : bytes ≡ bytes_of X
  pub proper : Proper X

reads_found : (bytes : List ℕ) (X : Table) → Reads bytes X → table_read bytes ≡ found X (length (bytes_of X))
reads_found bytes X r = rw r.is (table_complete X r.proper)

-- what one collapse wrote
module _ (d : ℕ) (from to : List ℕ) (c : Collapsing d from to) (X : Table) (r : Reads from X) where
  record Wrote : Type 0 where
    result : Table
    reads : Reads to result
    collapsed : CollapsedByCoarsest (direction d) X result

  -- it was not refused, so its direction is 0 or 1
  direction_known : leb d 1 ≡ true
  direction_known = go (leb d 1) (subst (λ (x : Found Table). PutFrom (leb d 1) x (CollapsedByCoarsest (direction d)) c.room_before c.given c.room_after) (reads_found from X r) c.collapses)
    where
      go : (known : Bool) → PutFrom known (found X (length (bytes_of X))) (CollapsedByCoarsest (direction d)) c.room_before c.given c.room_after → known ≡ true
      go false p = absurd cc
      go true p = refl

  put : (known : Bool) → PutFrom known (found X (length (bytes_of X))) (CollapsedByCoarsest (direction d)) c.room_before c.given c.room_after
      → TablePut (CollapsedByCoarsest (direction d) X) c.room_before c.given c.room_after
  put false p = absurd cc
  put true p = p

  from_put : TablePut (CollapsedByCoarsest (direction d) X) c.room_before c.given c.room_after → Wrote
  from_put p = go (fits (bytes_of p.table) c.room_before) p.answer_is p.room_is
    where
      go : (b : Bool) → c.given ≡ written b p.table → c.room_after ≡ filled b (bytes_of p.table) c.room_before → Wrote
      go false e f = absurd cc
      go true e f =
          let n : length to ≡ length (bytes_of p.table) = cc in
          let front : take (length to) c.room_after ≡ bytes_of p.table = rw (n, f) (take-append_seam (bytes_of p.table) _) in
          record {
            result = p.table;
            reads = record { is = c.wrote ∙ front; proper = collapsed_by_coarsest_proper (direction d) X p.table p.named r.proper };
            collapsed = p.named;
          }

  wrote : Wrote
  wrote = from_put (put (leb d 1) (subst (λ (x : Found Table). PutFrom (leb d 1) x (CollapsedByCoarsest (direction d)) c.room_before c.given c.room_after) (reads_found from X r) c.collapses))

-- the bytes at the end of a sequence are a table, which a sequence of collapses gives from X
record Reached (X : Table) (bytes : List ℕ) : Type 0 where
  last : Table
  reads : Reads bytes last
  sequence : Sequence X last

reach : (from to : List ℕ) (X : Table) → Reads from X → Collapsings from to → Reached X to
reach from to X r none = record { last = X; reads = r; sequence = start }
reach from to X r (◌behind◌ {to = middle} {d = d} c s) =
    let k = reach from middle X r s in
    let w = wrote d middle to c k.last k.reads in
    record { last = w.result; reads = w.reads; sequence = collapse k.sequence (direction d) w.collapsed }

-- arithmetic, symbols and ranks stay
sequence_stays : {X Y : Table} → Sequence X Y → (Y.arithmetic ≡ X.arithmetic) × (Y.ranks ≡ X.ranks)
sequence_stays start = (refl, refl)
sequence_stays (collapse s d C) =
    let before = sequence_stays s in
    (C.collapsed.shape.arithmetic_stays ∙ before.0, C.collapsed.shape.ranks_stay ∙ before.1)

-- every tree has the weight in the table that these bytes are that it has in X
pub record Kept (X : Table) (bytes : List ℕ) : Type 0 where
  pub last : Table
  pub reads : Reads bytes last
  pub arithmetic_stays : last.arithmetic ≡ X.arithmetic
  pub ranks_stay : last.ranks ≡ X.ranks
  pub weights : (t : Tree) → value last t ≡ value X t

module _ (from : List ℕ) (bytes : (i : ℕ) → get_or from i 0 < 256) (X : Table) (end : ℕ) (accepted : table_read from ≡ found X end) where
  first : Reads from X
  first = let sound = table_sound from bytes X end accepted in record { is = sound.1; proper = sound.0 }

  -- Demand 3, first part: whatever the sequence, every tree keeps its weight.
  pub weights_kept : (to : List ℕ) → Collapsings from to → Kept X to
  weights_kept to s =
      let k = reach from to X first s in
      let stay = sequence_stays k.sequence in
      record { last = k.last; reads = k.reads; arithmetic_stays = stay.0; ranks_stay = stay.1; weights = sequence_value first.proper k.sequence }

  -- Demand 3, second part: the last collapse, made again at once, returns the same bytes.
  pub same_bytes : (middle to again : List ℕ) (d : ℕ) → Collapsings from middle → Collapsing d middle to → Collapsing d to again → again ≡ to
  same_bytes middle to again d s c c' =
      let k = reach from middle X first s in
      let w = wrote d middle to c k.last k.reads in
      let w' = wrote d to again c' w.result w.reads in
      w'.reads.is ∙ ap bytes_of (sequence_again first.proper k.sequence (direction d) w.result w'.result w.collapsed w'.collapsed) ∙ sym w.reads.is

  -- and it is not refused if there is room for it: it is done with the same length, and the bytes stand at the front of the room.
  pub same_bytes_with_room : (middle to : List ℕ) (d : ℕ) → Collapsings from middle → Collapsing d middle to
      → (before : List ℕ) → length to ≤ length before → (c : Result Counted Refusal) (room : List ℕ) → Collapses d to before c room
      → (answer_of c ≡ Ok (length to)) × (take (length to) room ≡ to)
  same_bytes_with_room middle to d s c₀ before long c room p =
      let k = reach from middle X first s in
      let w = wrote d middle to c₀ k.last k.reads in
      let R = CollapsedByCoarsest (direction d) in
      let known = subst (λ (b : Bool). PutFrom b (table_read to) R before c room) (direction_known d middle to c₀ k.last k.reads) p in
      let t : TablePut (R w.result) before c room = subst (λ (x : Found Table). PutFrom true x R before c room) (reads_found to w.result w.reads) known in
      let same : bytes_of t.table ≡ to = ap bytes_of (sequence_again first.proper k.sequence (direction d) w.result t.table w.collapsed t.named) ∙ sym w.reads.is in
      let fit : fits (bytes_of t.table) before ≡ true = rw same (le-leb (length to) (length before) long) in
      let answer : c ≡ written true t.table = t.answer_is ∙ ap (λ (b : Bool). written b t.table) fit in
      let filling : room ≡ filled true (bytes_of t.table) before = t.room_is ∙ ap (λ (b : Bool). filled b (bytes_of t.table) before) fit in
      (ap answer_of answer ∙ ap (λ (bs : List ℕ). Ok (length bs)) same, rw (filling, same) (take-append_seam to _))

  -- A shrink that is done keeps every tree's weight too.
  pub shrink_kept : (d : ℕ) (before : List ℕ) (n : ℕ) (given : Result Counted Refusal) (room : List ℕ) → ShrinksTo d from before given room → answer_of given ≡ Ok n
      → (last : Table) × Reads (take n room) last × ((t : Tree) → value last t ≡ value X t)
  shrink_kept d before n given room shrinks done = go (leb d 1) (subst (λ (x : Found Table). PutFrom (leb d 1) x (Shrinks (direction d)) before given room) accepted shrinks)
    where
      Kept_by : Type 0
      Kept_by = (last : Table) × Reads (take n room) last × ((t : Tree) → value last t ≡ value X t)

      wrote_it : (Y : Table) → Shrinks (direction d) X Y → (b : Bool) → given ≡ written b Y → room ≡ filled b (bytes_of Y) before → Kept_by
      wrote_it Y named false e f = absurd cc
      wrote_it Y named true e f =
          let long : n ≡ length (bytes_of Y) = cc in
          let front : take n room ≡ bytes_of Y = rw (long, f) (take-append_seam (bytes_of Y) _) in
          (Y, record { is = front; proper = shrinks_proper first.proper named }, shrinks_value first.proper named)

      go : (known : Bool) → PutFrom known (found X end) (Shrinks (direction d)) before given room → Kept_by
      go false p = absurd cc
      go true p = wrote_it p.table p.named (fits (bytes_of p.table) before) p.answer_is p.room_is
