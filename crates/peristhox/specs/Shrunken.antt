-- The figures of blocks, collapse and shrink fit 32 bits.
use Rattle.std.specs.Prelude.{ℕ, ◌≤◌, ◌<◌, ◌^◌, ◌≡◌, refl, Bool, true, false, List, Result, length, get_or, leb}
use Rattle.std.proofs.Common.{arith}
use Rattle.answers.specs.Numbers.{answer_figure}
use Rattle.answers.specs.declared.Refusal.{Refusal}
use Rattle.model.specs.Table.{Table, Proper}
use Rattle.theory.specs.Blocks.{block_of, block_count}
use Rattle.theory.proofs.Blocks.{block_count_few}
use Rattle.theory.specs.Direction.{direction}
use Rattle.theory.specs.Collapse.{CollapsedByCoarsest}
use Rattle.theory.proofs.CollapseProper.{collapsed_by_coarsest_proper}
use Rattle.theory.specs.Shrink.{Shrinks}
use Rattle.theory.proofs.Shrink.{shrinks_proper}
use Rattle.format.specs.Read.{Found, found, refused, table_read}
use Rattle.format.specs.Written.{bytes_of}
use Rattle.roundtrip.specs.Tables.{table_sound}
use Rattle.roundtrip.specs.Length.{table_length}
use Rattle.roundtrip.proofs.Reach.{figure_fits}
use Rattle.calls.specs.Answers.{fits}
use Rattle.collapse.specs.Promises.{answer_of, Blocks, BlocksFrom, blocks_answer, PutFrom, written, Collapses, ShrinksTo}
use Rattle.collapse.specs.declared.Counted.{Counted}

module _ (table : List ℕ) (bytes : (i : ℕ) → get_or table i 0 < 256) (before room : List ℕ) where
  pub blocks_fit : (d : ℕ) (a : Result ℕ Refusal) → Blocks d table before a room → answer_figure a < 2 ^ 32
  blocks_fit d a = go (leb d 1) (table_read table) refl
    where
      either_fits : (b : Bool) (states number : ℕ) → states ≤ 256 → number ≤ 256 → answer_figure (blocks_answer b states number) < 2 ^ 32
      either_fits true states number h k = omega arith
      either_fits false states number h k = omega arith

      go : (known : Bool) (x : Found Table) → table_read table ≡ x → BlocksFrom known (direction d) x before a room → answer_figure a < 2 ^ 32
      go false x e p = rw p.0 (omega arith)
      go true (refused refusal) e p = rw p.0 (figure_fits table bytes refusal e)
      go true (found X end) e p =
          let few = (table_sound table bytes X end e).0.states_few in
          let number = block_count_few X.states (block_of p.blocks) p.coarsest.first_use X.states (omega arith) in
          rw p.answer_is (either_fits (fits p.blocks before) X.states (block_count (block_of p.blocks) X.states) few (omega arith))

  put_fits : (R : Table → Table → Type 0) → ((X Y : Table) → Proper X → R X Y → Proper Y) → (known : Bool) (c : Result Counted Refusal)
      → PutFrom known (table_read table) R before c room → answer_figure (answer_of c) < 2 ^ 32
  put_fits R keeps known c = go known (table_read table) refl
    where
      either_fits : (b : Bool) (Y : Table) → length (bytes_of Y) ≤ 65415 → answer_figure (answer_of (written b Y)) < 2 ^ 32
      either_fits true Y h = omega arith
      either_fits false Y h = omega arith

      go : (known : Bool) (x : Found Table) → table_read table ≡ x → PutFrom known x R before c room → answer_figure (answer_of c) < 2 ^ 32
      go false x e p = rw p.0 (omega arith)
      go true (refused refusal) e p = rw p.0 (figure_fits table bytes refusal e)
      go true (found X end) e p =
          rw p.answer_is (either_fits (fits (bytes_of p.table) before) p.table (table_length p.table (keeps X p.table (table_sound table bytes X end e).0 p.named)))

  pub collapse_fits : (d : ℕ) (c : Result Counted Refusal) → Collapses d table before c room → answer_figure (answer_of c) < 2 ^ 32
  collapse_fits d c = put_fits (CollapsedByCoarsest (direction d)) (λ X Y proper p. collapsed_by_coarsest_proper (direction d) X Y p proper) (leb d 1) c

  pub shrink_fits : (d : ℕ) (c : Result Counted Refusal) → ShrinksTo d table before c room → answer_figure (answer_of c) < 2 ^ 32
  shrink_fits d c = put_fits (Shrinks (direction d)) (λ X Y proper p. shrinks_proper proper p) (leb d 1) c
