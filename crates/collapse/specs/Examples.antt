-- Document 01's list P1 to P10 in one statement: what the promises allow for the bytes of its tables. It is drawn from the part about
-- tables, theory/specs/Examples.antt.
use Rattle.std.specs.Prelude.{ℕ, ◌≤◌, ◌≡◌, refl, ◌↔◌, List, [], ◌∷◌, ◌++◌, Result, Ok, pos, neg_ℤ, length, drop}
use Rattle.std.proofs.Common.{◌∙◌, le-leb}
use Rattle.answers.specs.declared.Refusal.{Refusal}
use Rattle.numbers.specs.Written.{groups}
use Rattle.numbers.specs.Read.{number_at, more_from}
use Rattle.model.specs.Table.{Table}
use Rattle.theory.specs.MaxPlus.{number}
use Rattle.theory.specs.Arithmetic.{meaning}
use Rattle.theory.specs.Weight.{value}
use Rattle.theory.specs.Sheet.{sheet}
use Rattle.theory.specs.Blocks.{block_of, block_count}
use Rattle.theory.specs.declared.Direction.{Direction}
use Rattle.theory.specs.declared.Direction.TheVariants.{Backward as backward, Forward as forward}
use Rattle.theory.specs.Direction.{CoarsestBlocks}
use Rattle.theory.proofs.Directions.{coarsest_blocks_unique}
use Rattle.theory.specs.Collapse.{CollapsedByCoarsest}
use Rattle.theory.proofs.Collapse.{collapsed_by_coarsest_unique}
use Rattle.theory.specs.Examples.{table_a, table_a_collapsed, table_b, table_c, table_d, table_e, table_f, g·a}
use Rattle.theory.proofs.Examples.{examples as of-tables}
use Rattle.format.specs.Examples.{bytes_a}
use Rattle.format.specs.Read.{found, many, transition_at, transitions_at, table_read}
use Rattle.format.specs.Written.{bytes_of}
use Rattle.collapse.specs.Promises.{BlocksPut, Blocks, TablePut, Collapses}
use Rattle.collapse.specs.declared.Counted.{Counted}

-- The promise of blocks allows exactly this in any room that is long enough: done with their number, the blocks at the front of the
-- room, and behind them the room as it was.
pub record BlocksAre (d : ℕ) (table blocks : List ℕ) (count : ℕ) : Type 0 where
  pub exactly : (before : List ℕ) → length blocks ≤ length before → (answer : Result ℕ Refusal) (room : List ℕ)
      → Blocks d table before answer room ↔ (answer ≡ Ok count) × (room ≡ blocks ++ drop (length blocks) before)

abbrev pub counted : List ℕ → ℕ → ℕ → Counted
counted bytes states transitions = record { length = length bytes; states = states; transitions = transitions }

-- The same of a collapse or a shrink: done with the length of these bytes, the two counts beside it, the bytes at the front of the room.
pub record Writes (Promise : List ℕ → List ℕ → Result Counted Refusal → List ℕ → Type 0) (table bytes : List ℕ) (states transitions : ℕ) : Type 0 where
  pub exactly : (before : List ℕ) → length bytes ≤ length before → (c : Result Counted Refusal) (room : List ℕ)
      → Promise table before c room ↔ (c ≡ Ok (counted bytes states transitions)) × (room ≡ bytes ++ drop (length bytes) before)

-- the bytes are those of a table of which this holds
pub record OfTable (table : List ℕ) (P : Table → Type 0) : Type 0 where
  pub is : Table
  pub reads : table_read table ≡ found is (length table)
  pub holds : P is

-- g(a) weighs so much in the table with these bytes
abbrev pub g·a-weighs : ℕ → List ℕ → Type 0
g·a-weighs w table = OfTable table (λ X. value X g·a ≡ number (pos w))

-- A collapsed backward
abbrev pub bytes_p2 : List ℕ
bytes_p2 = 0 ∷ 2 ∷ 2 ∷ 0 ∷ 1 ∷ 0 ∷ 1 ∷ 2 ∷ 0 ∷ 0 ∷ 3 ∷ 1 ∷ 0 ∷ 1 ∷ 12 ∷ []

abbrev pub bytes_b : List ℕ
bytes_b = 0 ∷ 3 ∷ 2 ∷ 0 ∷ 1 ∷ 0 ∷ 0 ∷ 1 ∷ 4 ∷ 0 ∷ 0 ∷ 3 ∷ 0 ∷ 1 ∷ 4 ∷ 1 ∷ 0 ∷ 2 ∷ 5 ∷ 1 ∷ 1 ∷ 2 ∷ 5 ∷ []

abbrev pub bytes_c : List ℕ
bytes_c = 1 ∷ 3 ∷ 2 ∷ 0 ∷ 1 ∷ 0 ∷ 0 ∷ 1 ∷ 4 ∷ 0 ∷ 0 ∷ 7 ∷ 0 ∷ 1 ∷ 7 ∷ 1 ∷ 0 ∷ 2 ∷ 11 ∷ 1 ∷ 1 ∷ 2 ∷ 15 ∷ []

-- 2,147,483,648 is 80 80 80 80 08
abbrev pub bytes_d : List ℕ
bytes_d = 0 ∷ 3 ∷ 2 ∷ 0 ∷ 1 ∷ 0 ∷ 1 ∷ 1 ∷ 3 ∷ 0 ∷ 0 ∷ 1 ∷ 1 ∷ 0 ∷ 1 ∷ 128 ∷ 128 ∷ 128 ∷ 128 ∷ 8 ∷ 1 ∷ 0 ∷ 2 ∷ 128 ∷ 128 ∷ 128 ∷ 128 ∷ 8 ∷ []

abbrev pub bytes_e : List ℕ
bytes_e = 0 ∷ 4 ∷ 2 ∷ 0 ∷ 1 ∷ 0 ∷ 0 ∷ 0 ∷ 1 ∷ 4 ∷ 0 ∷ 0 ∷ 1 ∷ 1 ∷ 0 ∷ 1 ∷ 1 ∷ 1 ∷ 1 ∷ 2 ∷ 1 ∷ 1 ∷ 2 ∷ 3 ∷ 1 ∷ []

-- P9's table
abbrev pub bytes_f : List ℕ
bytes_f = 0 ∷ 1 ∷ 2 ∷ 0 ∷ 1 ∷ 5 ∷ 0 ∷ []

-- 01's list: direction 0 is backward, 1 is forward
pub record Examples : Type 0 where
  pub p1 : BlocksAre 0 bytes_a (0 ∷ 0 ∷ 1 ∷ []) 2
  pub p2 : Writes (Collapses 0) bytes_a bytes_p2 2 2
  pub p3 : BlocksAre 1 bytes_a (0 ∷ 1 ∷ 2 ∷ []) 3
  pub p3_same : Writes (Collapses 1) bytes_a bytes_a 3 4
  pub p4 : g·a-weighs 36 bytes_a × g·a-weighs 36 bytes_p2
  pub p4_sheet : OfTable bytes_a (λ X. sheet 0 X g·a ≡ pos 0 ∷ pos 0 ∷ pos 36 ∷ pos 3 ∷ pos 3 ∷ pos 0 ∷ [])
  pub p5_forward : BlocksAre 1 bytes_b (0 ∷ 0 ∷ 1 ∷ []) 2
  -- the sums are 7 and 5
  pub p5_sums : Writes (Collapses 1) bytes_b (0 ∷ 2 ∷ 2 ∷ 0 ∷ 1 ∷ 0 ∷ 1 ∷ 2 ∷ 0 ∷ 0 ∷ 7 ∷ 1 ∷ 0 ∷ 1 ∷ 5 ∷ []) 2 2
  pub p5_weight : g·a-weighs 35 bytes_b
  pub p5_backward : BlocksAre 0 bytes_b (0 ∷ 1 ∷ 2 ∷ []) 3
  pub p6_backward : BlocksAre 0 bytes_c (0 ∷ 0 ∷ 1 ∷ []) 2
  -- g into block 1 has the code 15, which means 7
  pub p6_seven : Writes (Collapses 0) bytes_c (1 ∷ 2 ∷ 2 ∷ 0 ∷ 1 ∷ 0 ∷ 1 ∷ 2 ∷ 0 ∷ 0 ∷ 7 ∷ 1 ∷ 0 ∷ 1 ∷ 15 ∷ []) 2 2 × (meaning 1 15 ≡ number (pos 7))
  pub p6_weight : g·a-weighs 10 bytes_c
  pub p7_forward : BlocksAre 1 bytes_d (0 ∷ 1 ∷ 1 ∷ []) 2
  -- the one transition is that of a
  pub p7_vanishes : Writes (Collapses 1) bytes_d (0 ∷ 2 ∷ 2 ∷ 0 ∷ 1 ∷ 0 ∷ 1 ∷ 1 ∷ 0 ∷ 0 ∷ 1 ∷ []) 2 1
  pub p7_weight : g·a-weighs 0 bytes_d
  pub p8 : BlocksAre 1 bytes_e (0 ∷ 1 ∷ 2 ∷ 3 ∷ []) 4
  pub p9_unchanged : Writes (Collapses 0) bytes_f bytes_f 1 0 × Writes (Collapses 1) bytes_f bytes_f 1 0
  pub p9_weight : g·a-weighs 0 bytes_f
  pub p10_small : (meaning 1 1 ≡ number (pos 0)) × (meaning 1 2 ≡ number (neg_ℤ (pos 1))) × (meaning 1 3 ≡ number (pos 1)) × (meaning 1 4 ≡ number (neg_ℤ (pos 2)))
  pub p10_ends : (meaning 1 4294967295 ≡ number (pos 2147483647)) × (meaning 1 4294967294 ≡ number (neg_ℤ (pos 2147483647)))

pub blocks_exactly : (d : Direction) (X : Table) (blocks : List ℕ) → CoarsestBlocks d X blocks → (before : List ℕ) → length blocks ≤ length before → (answer : Result ℕ Refusal) (room : List ℕ)
    → BlocksPut d X before answer room ↔ (answer ≡ Ok (block_count (block_of blocks) X.states)) × (room ≡ blocks ++ drop (length blocks) before)
blocks_exactly d X blocks coarsest before long answer room = (
  λ p. let same = coarsest_blocks_unique d X p.blocks blocks p.coarsest coarsest in (p.answer_is ∙ rw (same, le-leb), p.room_is ∙ rw (same, le-leb)),
  λ (e, f). record { blocks = blocks; coarsest = coarsest; answer_is = e ∙ rw le-leb; room_is = f ∙ rw le-leb },
)

-- R names Y alone
pub table_exactly : (R : Table → Type 0) (Y : Table) → R Y → ((Z : Table) → R Z → Z ≡ Y) → (before : List ℕ) → length (bytes_of Y) ≤ length before → (c : Result Counted Refusal) (room : List ℕ)
    → TablePut R before c room ↔ (c ≡ Ok (counted (bytes_of Y) Y.states (length Y.transitions))) × (room ≡ bytes_of Y ++ drop (length (bytes_of Y)) before)
table_exactly R Y named alone before long c room = (
  λ p. let same = alone p.table p.named in (p.answer_is ∙ rw (same, le-leb), p.room_is ∙ rw (same, le-leb)),
  λ (e, f). record { table = Y; named = named; answer_is = e ∙ rw le-leb; room_is = f ∙ rw le-leb },
)

collapse_exactly : (d : Direction) (X Y : Table) → CollapsedByCoarsest d X Y → (before : List ℕ) → length (bytes_of Y) ≤ length before → (c : Result Counted Refusal) (room : List ℕ)
    → TablePut (CollapsedByCoarsest d X) before c room ↔ (c ≡ Ok (counted (bytes_of Y) Y.states (length Y.transitions))) × (room ≡ bytes_of Y ++ drop (length (bytes_of Y)) before)
collapse_exactly d X Y collapsed = table_exactly (CollapsedByCoarsest d X) Y collapsed (λ Z named. collapsed_by_coarsest_unique d X Z Y named collapsed)

pub examples : Examples
unfolding groups table_read many transitions_at transition_at number_at more_from
examples = record {
  p1 = record { exactly = blocks_exactly backward table_a _ of-tables.p1 };
  p2 = record { exactly = collapse_exactly backward table_a _ of-tables.p2 };
  p3 = record { exactly = blocks_exactly forward table_a _ of-tables.p3 };
  p3_same = record { exactly = collapse_exactly forward table_a _ of-tables.p3_collapsed };
  p4 = (record { is = table_a; reads = refl; holds = of-tables.p4_weight }, record { is = table_a_collapsed; reads = refl; holds = of-tables.p4_collapsed });
  p4_sheet = record { is = table_a; reads = refl; holds = of-tables.p4_sheet };
  p5_forward = record { exactly = blocks_exactly forward table_b _ of-tables.p5_forward };
  p5_sums = record { exactly = collapse_exactly forward table_b _ of-tables.p5_collapsed };
  p5_weight = record { is = table_b; reads = refl; holds = of-tables.p5_weight };
  p5_backward = record { exactly = blocks_exactly backward table_b _ of-tables.p5_backward };
  p6_backward = record { exactly = blocks_exactly backward table_c _ of-tables.p6_backward };
  p6_seven = (record { exactly = collapse_exactly backward table_c _ of-tables.p6_collapsed }, of-tables.p6_seven);
  p6_weight = record { is = table_c; reads = refl; holds = of-tables.p6_weight };
  p7_forward = record { exactly = blocks_exactly forward table_d _ of-tables.p7_forward };
  p7_vanishes = record { exactly = collapse_exactly forward table_d _ of-tables.p7_collapsed };
  p7_weight = record { is = table_d; reads = refl; holds = of-tables.p7_weight };
  p8 = record { exactly = blocks_exactly forward table_e _ of-tables.p8_forward };
  p9_unchanged = (record { exactly = collapse_exactly backward table_f _ (of-tables.p9_unchanged backward) }, record { exactly = collapse_exactly forward table_f _ (of-tables.p9_unchanged forward) });
  p9_weight = record { is = table_f; reads = refl; holds = of-tables.p9_weight };
  p10_small = (of-tables.p10_1, of-tables.p10_2, of-tables.p10_3, of-tables.p10_4);
  p10_ends = (of-tables.p10_greatest, of-tables.p10_least);
}
