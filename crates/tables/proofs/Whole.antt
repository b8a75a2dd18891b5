-- The definition of a table, part by part.
use Rattle.std.proofs.Common.{ℕ, ◌≤◌, ◌<◌, ◌≡◌, sym, List, [], length, take, ◌∙◌, Ok}
use Rattle.std.proofs.lemmas.Bool.{lt-leb, le-leb}
use Rattle.std.proofs.lemmas.List.{length-take-le}
use Rattle.answers.specs.declared.Refusal.{Refusal}
use Rattle.answers.specs.declared.Refusal.TheVariants.{TableGoesOn}
use Rattle.model.specs.Table.{Transition}
use Rattle.format.specs.Read.{found, refused, any, within, many, transitions_at, table_read}
use Rattle.tables.specs.Record.{rows_from}
use Rattle.tables.specs.Rows.{columns_of}
use Rattle.tables.specs.Steps.{HeadKept, HeadFound, ReadingIs}
use Rattle.tables.specs.declared.TableRecord.{TableRecord}

module _ (s : List ℕ) where
  pub no_arithmetic : (refusal : Refusal) → within s 0 1 0 ≡ refused refusal → table_read s ≡ refused refusal
  unfolding table_read
  no_arithmetic refusal e = rw e

  module _ (a second : ℕ) (e₁ : within s 0 1 0 ≡ found a second) where
    pub no_states : (refusal : Refusal) → within s 1 256 second ≡ refused refusal → table_read s ≡ refused refusal
    unfolding table_read
    no_states refusal e = rw (e₁, e)

    module _ (n third : ℕ) (e₂ : within s 1 256 second ≡ found n third) where
      pub no_symbols : (refusal : Refusal) → within s 1 128 third ≡ refused refusal → table_read s ≡ refused refusal
      unfolding table_read
      no_symbols refusal e = rw (e₁, e₂, e)

      module _ (symbols fourth : ℕ) (e₃ : within s 1 128 third ≡ found symbols fourth) where
        pub no_ranks : (refusal : Refusal) → many (within s 0 4) symbols fourth ≡ refused refusal → table_read s ≡ refused refusal
        unfolding table_read
        no_ranks refusal e = rw (e₁, e₂, e₃, e)

        module _ (ranks : List ℕ) (fifth : ℕ) (e₄ : many (within s 0 4) symbols fourth ≡ found ranks fifth) where
          pub no_finals : (refusal : Refusal) → many (any s) n fifth ≡ refused refusal → table_read s ≡ refused refusal
          unfolding table_read
          no_finals refusal e = rw (e₁, e₂, e₃, e₄, e)

          pub no_count : (finals : List ℕ) (sixth : ℕ) → many (any s) n fifth ≡ found finals sixth → (refusal : Refusal) → within s 0 4000 sixth ≡ refused refusal → table_read s ≡ refused refusal
          unfolding table_read
          no_count finals sixth e₅ refusal e = rw (e₁, e₂, e₃, e₄, e₅, e)

  module _ (b : TableRecord) (next : ℕ) (h : HeadFound s b next) where
    pub no_transitions : (refusal : Refusal) → transitions_at s (take b.symbols b.ranks) b.states b.count [] next ≡ refused refusal → table_read s ≡ refused refusal
    unfolding table_read
    no_transitions refusal e = rw (h.arithmetic, h.states, h.symbols, h.ranks, h.finals, h.count, e)

    pub table_goes_on : (ts : List Transition) (end : ℕ) → transitions_at s (take b.symbols b.ranks) b.states b.count [] next ≡ found ts end → end < length s
        → table_read s ≡ refused (TableGoesOn end)
    unfolding table_read
    table_goes_on ts end e l = rw (h.arithmetic, h.states, h.symbols, h.ranks, h.finals, h.count, e, lt-leb (length s) end l)

    -- the transitions are in the record `t`, whose head is that of `b`
    pub table_found : (t : TableRecord) (end : ℕ) → HeadKept b t
        → transitions_at s (take b.symbols b.ranks) b.states b.count [] next ≡ found (rows_from (columns_of t) 0 b.count) end
        → length s ≤ end → ReadingIs (table_read s) (Ok t)
    unfolding table_read
    table_found t end kept e l =
        rw (h.arithmetic, h.states, h.symbols, h.ranks, h.finals, h.count, e, le-leb (length s) end l) (record {
          table = rw (kept.arithmetic, kept.states, kept.symbols, kept.count, kept.ranks, kept.finals);
          symbols = kept.symbols ∙ sym (length-take-le b.symbols b.ranks h.symbols_fit);
        })
