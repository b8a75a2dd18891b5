-- Room that is always enough: of an accepted table in a known direction no call refuses 256 bytes for blocks, or 65,415 for a table.
use Rattle.std.specs.Prelude.{ℕ, ◌≤◌, ◌<◌, ◌≡◌, Bool, true, List, Result, Ok, leb, length, get_or}
use Rattle.std.proofs.Common.{ap, ◌∙◌, subst, arith, le-leb}
use Rattle.answers.specs.declared.Refusal.{Refusal}
use Rattle.model.specs.Table.{Table, Proper}
use Rattle.theory.specs.Blocks.{block_of, block_count}
use Rattle.theory.specs.Direction.{direction}
use Rattle.theory.specs.Collapse.{CollapsedByCoarsest}
use Rattle.theory.proofs.CollapseProper.{collapsed_by_coarsest_proper}
use Rattle.theory.specs.Shrink.{Shrinks}
use Rattle.theory.proofs.Shrink.{shrinks_proper}
use Rattle.format.specs.Read.{Found, found, table_read}
use Rattle.format.specs.Written.{bytes_of}
use Rattle.roundtrip.specs.Tables.{table_sound}
use Rattle.roundtrip.specs.Length.{table_length}
use Rattle.calls.specs.Answers.{fits}
use Rattle.collapse.specs.Promises.{Blocks, BlocksFrom, BlocksPut, blocks_answer, PutFrom, TablePut, written, Collapses, ShrinksTo}
use Rattle.collapse.specs.declared.Counted.{Counted}

-- it is done
abbrev pub IsDone : {A : Type 0} → Result A Refusal → Type 0
IsDone a = (given : _) × (a ≡ Ok given)

module _ (d : ℕ) (few : d ≤ 1) (table before : List ℕ) (bytes : (i : ℕ) → get_or table i 0 < 256) (X : Table) (end : ℕ) (accepted : table_read table ≡ found X end) where
  proper : Proper X
  proper = (table_sound table bytes X end accepted).0

  pub blocks_enough : 256 ≤ length before → (a : Result ℕ Refusal) (room : List ℕ) → Blocks d table before a room → IsDone a
  blocks_enough long a room p =
      let q : BlocksPut (direction d) X before a room =
      subst (λ (x : Found Table). BlocksFrom true (direction d) x before a room) accepted (subst (λ (b : Bool). BlocksFrom b (direction d) (table_read table) before a room) (le-leb d 1 few) p) in
      let enough : fits q.blocks before ≡ true = le-leb (length q.blocks) (length before) (omega (arith, q.coarsest.one_each, proper.states_few)) in
      let number : ℕ = block_count (block_of q.blocks) X.states in
      (number, q.answer_is ∙ ap (λ (b : Bool). blocks_answer b X.states number) enough)

  put_enough : (R : Table → Table → Type 0) → ((Y : Table) → R X Y → Proper Y) → 65415 ≤ length before → (c : Result Counted Refusal) (room : List ℕ)
      → PutFrom (leb d 1) (table_read table) R before c room → IsDone c
  put_enough R keeps long c room p =
      let q : TablePut (R X) before c room =
      subst (λ (x : Found Table). PutFrom true x R before c room) accepted (subst (λ (b : Bool). PutFrom b (table_read table) R before c room) (le-leb d 1 few) p) in
      let enough : fits (bytes_of q.table) before ≡ true = le-leb (length (bytes_of q.table)) (length before) (omega (arith, table_length q.table (keeps q.table q.named))) in
      (record { length = length (bytes_of q.table); states = q.table.states; transitions = length q.table.transitions }, q.answer_is ∙ ap (λ (b : Bool). written b q.table) enough)

  pub collapse_enough : 65415 ≤ length before → (c : Result Counted Refusal) (room : List ℕ) → Collapses d table before c room → IsDone c
  collapse_enough = put_enough (CollapsedByCoarsest (direction d)) (λ Y named. collapsed_by_coarsest_proper (direction d) X Y named proper)

  pub shrink_enough : 65415 ≤ length before → (c : Result Counted Refusal) (room : List ℕ) → ShrinksTo d table before c room → IsDone c
  shrink_enough = put_enough (Shrinks (direction d)) (λ Y named. shrinks_proper proper named)
