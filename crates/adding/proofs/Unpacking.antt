-- The loop that makes a transition of each entry, and the table that has these transitions.
use Prim.Native.Nat.{ℕ, zero, suc, ◌+◌, ◌*◌, ◌≤◌, ◌<◌}
use mathlib.Core.Path.{◌≡◌, refl, sym, ap, ap₂, ◌∙◌, subst}
use mathlib.Core.List.{List, ◌∷◌, map}
use native.Mathlib.Omega.{arith}
use native.Mathlib.Nat.{sub-zero}
use borrow.Author.Count.{below_more}
use lib.ListN.{get_or, take, drop}
use lib.Seq.{get_or-take}
use Rattle.model.specs.Table.{Transition}
use Rattle.tables.specs.Rows.{part_of_front, columns_of}
use Rattle.tables.specs.declared.TableRecord.{TableRecord}
use Rattle.tables.specs.Record.{Columns, columns, row_at, rows_from}
use Rattle.tables.specs.Steps.{Kept, Long, HeadKept}
use Rattle.profiles.specs.declared.Entries.{Entries}
use Rattle.profiles.specs.Entries.{entry_at, entries_from, entries}
use Rattle.adding.specs.Keys.{transition_of}
use Rattle.adding.specs.Rows.{KeyKnown, RowPut, Unpacked}

-- a transition that is kept is as it was
module _ (before columns : Columns) (j : ℕ) (kept : Kept j before columns) (i : ℕ) (below : i < j) (small : get_or before.ranks (get_or before.symbol i 0) 0 ≤ 4) where
  same_at : (l r : List ℕ) → take j l ≡ take j r → get_or l i 0 ≡ get_or r i 0
  same_at l r e = sym (get_or-take j l i 0 below) ∙ ap (λ (x : List ℕ). get_or x i 0) e ∙ get_or-take j r i 0 below

  same_part : (r : ℕ) → r ≤ 4 → take r (drop (i * 4) columns.children) ≡ take r (drop (i * 4) before.children)
  same_part r k =
      sym (part_of_front r (i * 4) (j * 4) columns.children (omega arith))
      ∙ ap (λ (x : List ℕ). take r (drop (i * 4) x)) kept.children
      ∙ part_of_front r (i * 4) (j * 4) before.children (omega arith)

  row_same : row_at columns i ≡ row_at before i
  row_same =
      rw (
        kept.ranks,
        same_at columns.symbol before.symbol kept.symbol,
        same_part (get_or before.ranks (get_or before.symbol i 0) 0) small,
        same_at columns.target before.target kept.target,
        same_at columns.code before.code kept.code,
      )

module _ (count : ℕ) (keys codes ranks : List ℕ) where
  -- entry k is transition k
  pub record RowDone (columns : Columns) (k : ℕ) : Type 0 where
    pub row : row_at columns k ≡ transition_of ranks (entry_at keys codes k)
    pub small : get_or columns.ranks (get_or columns.symbol k 0) 0 ≤ 4

  -- the entries before entry i are transitions
  pub record Unpacking (columns : Columns) (i : ℕ) : Type 0 where
    pub same_ranks : columns.ranks ≡ ranks
    pub rows : (k : ℕ) → k < i → RowDone columns k
    pub long : Long columns

  pub unpacking_goes_on : (before columns : Columns) (i : ℕ) → Unpacking before i → KeyKnown ranks (get_or keys i 0)
      → RowPut i (transition_of ranks (entry_at keys codes i)) before columns → Unpacking columns (i + 1)
  unpacking_goes_on before columns i so_far known put =
      let same : columns.ranks ≡ ranks = put.kept.ranks ∙ so_far.same_ranks in
      record {
        same_ranks = same;
        rows = below_more _ i (λ k l. kept_row k l (so_far.rows k l)) (record {
          row = put.put;
          small = subst (λ (x : ℕ). x ≤ 4) (sym (ap₂ (λ (rs : List ℕ) (σ : ℕ). get_or rs σ 0) same (ap (λ (t : Transition). t.symbol) put.put))) known.rank_small;
        });
        long = put.long;
      }
    where
      kept_row : (k : ℕ) → k < i → RowDone before k → RowDone columns k
      kept_row k l done =
          let as_before : row_at columns k ≡ row_at before k = row_same before columns i put.kept k l done.small in
          record {
            row = as_before ∙ done.row;
            small = subst (λ (x : ℕ). x ≤ 4) (sym (ap₂ (λ (rs : List ℕ) (σ : ℕ). get_or rs σ 0) put.kept.ranks (ap (λ (t : Transition). t.symbol) as_before))) done.small;
          }

  rows_all : (columns : Columns) (i k : ℕ) → ((j : ℕ) → j < i + k → RowDone columns j) → rows_from columns i k ≡ map (transition_of ranks) (entries_from keys codes i k)
  unfolding rows_from entries_from
  rows_all columns i zero h = refl
  rows_all columns i (suc k) h = ap₂ ◌∷◌ (h i (omega arith)).row (rows_all columns (suc i) k (λ j l. h j (omega arith)))

  pub unpacking_ends : (columns : Columns) (i : ℕ) → Unpacking columns i → count ≤ i → Unpacked count (entries keys codes 0 count) columns
  unfolding entries
  unpacking_ends columns i so_far done =
      record {
        rows = rows_all columns 0 count (λ j l. so_far.rows j (omega arith)) ∙ ap₂ (λ (rs : List ℕ) (k : ℕ). map (transition_of rs) (entries_from keys codes 0 k)) (sym so_far.same_ranks) (sym (sub-zero count));
        long = so_far.long;
      }

head_kept : (r s t : TableRecord) → HeadKept r s → HeadKept s t → HeadKept r t
head_kept r s t p q = record {
  arithmetic = q.arithmetic ∙ p.arithmetic;
  states = q.states ∙ p.states;
  symbols = q.symbols ∙ p.symbols;
  count = q.count ∙ p.count;
  ranks = q.ranks ∙ p.ranks;
  finals = q.finals ∙ p.finals;
}

-- the entries before entry i are transitions of the table, and the rest of it is as it was
pub record UnpackingIn (e : Entries) (before after : TableRecord) (i : ℕ) : Type 0 where
  pub head : HeadKept before after
  pub rows : Unpacking before.count e.keys e.codes before.ranks (columns_of after) i

module _ (e : Entries) (before after : TableRecord) (i : ℕ) (so_far : UnpackingIn e before after i) where
  -- entry i is put
  pub unpacking_in_goes_on : (next : TableRecord) → KeyKnown before.ranks (get_or e.keys i 0)
      → RowPut i (transition_of after.ranks (entry_at e.keys e.codes i)) (columns_of after) (columns_of next) → HeadKept after next → UnpackingIn e before next (i + 1)
  unpacking_in_goes_on next known put head = record {
    head = head_kept before after next so_far.head head;
    rows = unpacking_goes_on before.count e.keys e.codes before.ranks (columns_of after) (columns_of next) i so_far.rows known
        (subst (λ (rs : List ℕ). RowPut i (transition_of rs (entry_at e.keys e.codes i)) (columns_of after) (columns_of next)) so_far.head.ranks put);
  }

  pub unpacking_in_ends : before.count ≤ i → Unpacked after.count (entries e.keys e.codes 0 before.count) (columns_of after)
  unpacking_in_ends done =
      subst (λ (count : ℕ). Unpacked count (entries e.keys e.codes 0 before.count) (columns_of after)) (sym so_far.head.count)
      (unpacking_ends before.count e.keys e.codes before.ranks (columns_of after) i so_far.rows done)
