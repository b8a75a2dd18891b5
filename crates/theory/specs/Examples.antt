-- Document 01's worked examples as tables. The list itself, about bytes, is in collapse/specs/Examples.antt.
use Rattle.std.specs.Prelude.{◌≡◌, List, [], ◌∷◌, ℕ, pos, neg_ℤ}
use Rattle.model.specs.Table.{Table, Transition}
use Rattle.model.specs.Tree.{Tree, node, none, ◌then◌}
use Rattle.theory.specs.MaxPlus.{number}
use Rattle.theory.specs.Arithmetic.{meaning}
use Rattle.theory.specs.Weight.{value}
use Rattle.theory.specs.Sheet.{sheet}
use Rattle.theory.specs.declared.Direction.{Direction}
use Rattle.theory.specs.declared.Direction.TheVariants.{Backward as backward, Forward as forward}
use Rattle.theory.specs.Direction.{CoarsestBlocks}
use Rattle.theory.specs.Collapse.{CollapsedByCoarsest}

-- the symbols: a = 0 of rank 0, g = 1 of rank 1
abbrev pub a→ : ℕ → ℕ → Transition
a→ q c = record { symbol = 0; children = []; target = q; code = c }

abbrev pub g→ : ℕ → ℕ → ℕ → Transition
g→ p q c = record { symbol = 1; children = p ∷ []; target = q; code = c }

abbrev pub table : ℕ → ℕ → List ℕ → List Transition → Table
table a n fs ts = record { arithmetic = a; states = n; ranks = 0 ∷ 1 ∷ []; finals = fs; transitions = ts }

-- the tree g(a)
abbrev pub g·a : Tree
g·a = node 1 (◌then◌ (node 0 none) none)

abbrev pub table_a : Table
table_a = table 0 3 (0 ∷ 0 ∷ 1 ∷ []) (a→ 0 3 ∷ a→ 1 3 ∷ g→ 0 2 5 ∷ g→ 1 2 7 ∷ [])

-- P2's table
abbrev pub table_a_collapsed : Table
table_a_collapsed = table 0 2 (0 ∷ 1 ∷ []) (a→ 0 3 ∷ g→ 0 1 12 ∷ [])

-- as A, with codes 3, 4, 5, 5; collapsed forward its sums are 7 and 5
abbrev pub table_b : Table
table_b = table 0 3 (0 ∷ 0 ∷ 1 ∷ []) (a→ 0 3 ∷ a→ 1 4 ∷ g→ 0 2 5 ∷ g→ 1 2 5 ∷ [])

abbrev pub table_b_collapsed : Table
table_b_collapsed = table 0 2 (0 ∷ 1 ∷ []) (a→ 0 7 ∷ g→ 0 1 5 ∷ [])

-- A's weights 3, 3, 5, 7 and finals nothing, nothing, 0 in arithmetic 1
abbrev pub table_c : Table
table_c = table 1 3 (0 ∷ 0 ∷ 1 ∷ []) (a→ 0 7 ∷ a→ 1 7 ∷ g→ 0 2 11 ∷ g→ 1 2 15 ∷ [])

-- collapsed backward, its g has the code of 7
abbrev pub table_c_collapsed : Table
table_c_collapsed = table 1 2 (0 ∷ 1 ∷ []) (a→ 0 7 ∷ g→ 0 1 15 ∷ [])

abbrev pub table_d : Table
table_d = table 0 3 (0 ∷ 1 ∷ 1 ∷ []) (a→ 0 1 ∷ g→ 0 1 2147483648 ∷ g→ 0 2 2147483648 ∷ [])

-- collapsed forward, its g vanishes
abbrev pub table_d_collapsed : Table
table_d_collapsed = table 0 2 (0 ∷ 1 ∷ []) (a→ 0 1 ∷ [])

abbrev pub table_e : Table
table_e = table 0 4 (0 ∷ 0 ∷ 0 ∷ 1 ∷ []) (a→ 0 1 ∷ g→ 0 1 1 ∷ g→ 1 2 1 ∷ g→ 2 3 1 ∷ [])

-- P9's table: one state, no transitions, final weight 5
abbrev pub table_f : Table
table_f = table 0 1 (5 ∷ []) []

-- the part of 01's list that speaks of tables
pub record Examples : Type 0 where
  pub p1 : CoarsestBlocks backward table_a (0 ∷ 0 ∷ 1 ∷ [])
  pub p2 : CollapsedByCoarsest backward table_a table_a_collapsed
  pub p3 : CoarsestBlocks forward table_a (0 ∷ 1 ∷ 2 ∷ [])
  pub p3_collapsed : CollapsedByCoarsest forward table_a table_a
  pub p4_weight : value table_a g·a ≡ number (pos 36)
  pub p4_collapsed : value table_a_collapsed g·a ≡ number (pos 36)
  pub p4_sheet : sheet 0 table_a g·a ≡ pos 0 ∷ pos 0 ∷ pos 36 ∷ pos 3 ∷ pos 3 ∷ pos 0 ∷ []
  pub p5_forward : CoarsestBlocks forward table_b (0 ∷ 0 ∷ 1 ∷ [])
  pub p5_collapsed : CollapsedByCoarsest forward table_b table_b_collapsed
  pub p5_backward : CoarsestBlocks backward table_b (0 ∷ 1 ∷ 2 ∷ [])
  pub p5_weight : value table_b g·a ≡ number (pos 35)
  pub p6_backward : CoarsestBlocks backward table_c (0 ∷ 0 ∷ 1 ∷ [])
  pub p6_collapsed : CollapsedByCoarsest backward table_c table_c_collapsed
  pub p6_seven : meaning 1 15 ≡ number (pos 7)
  pub p6_weight : value table_c g·a ≡ number (pos 10)
  pub p7_forward : CoarsestBlocks forward table_d (0 ∷ 1 ∷ 1 ∷ [])
  pub p7_collapsed : CollapsedByCoarsest forward table_d table_d_collapsed
  pub p7_weight : value table_d g·a ≡ number (pos 0)
  pub p8_forward : CoarsestBlocks forward table_e (0 ∷ 1 ∷ 2 ∷ 3 ∷ [])
  pub p9_unchanged : (d : Direction) → CollapsedByCoarsest d table_f table_f
  pub p9_weight : value table_f g·a ≡ number (pos 0)
  pub p10_1 : meaning 1 1 ≡ number (pos 0)
  pub p10_2 : meaning 1 2 ≡ number (neg_ℤ (pos 1))
  pub p10_3 : meaning 1 3 ≡ number (pos 1)
  pub p10_4 : meaning 1 4 ≡ number (neg_ℤ (pos 2))
  pub p10_greatest : meaning 1 4294967295 ≡ number (pos 2147483647)
  pub p10_least : meaning 1 4294967294 ≡ number (neg_ℤ (pos 2147483647))
