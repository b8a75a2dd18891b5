-- Two small shrinks, worked out as document 01's examples are: one that merges twice, and one that the first collapse ends.
use Rattle.std.specs.Prelude.{ℕ, ◌<◌, ◌≡◌, refl, List, [], ◌∷◌}
use Rattle.std.proofs.Common.{arith}
use Rattle.numbers.specs.Written.{groups}
use Rattle.numbers.specs.Read.{number_at, more_from}
use Rattle.model.specs.Table.{Table, Transition, Each, Proper}
use Rattle.theory.specs.Below.{below_each}
use Rattle.theory.specs.Blocks.{block_of, member}
use Rattle.theory.specs.declared.Direction.{Direction}
use Rattle.theory.specs.declared.Direction.TheVariants.{Backward as backward, Forward as forward}
use Rattle.theory.specs.Direction.{CoarsestBlocks}
use Rattle.theory.specs.Uses.{uses}
use Rattle.theory.proofs.Decision.{coarsest_test_sound}
use Rattle.theory.specs.Collapse.{CollapsedByCoarsest}
use Rattle.theory.specs.AddingUp.{AddedUp}
use Rattle.theory.proofs.AddingUp.{member_names, sums_by_entries, added_collapsed_by_coarsest}
use Rattle.theory.proofs.OwnBlocks.{own_collapsed}
use Rattle.theory.specs.Shrink.{Shrinks, last, more}
use Rattle.theory.proofs.Shrink.{shrinks_unique}
use Rattle.theory.specs.Examples.{a→, table_b}
use Rattle.theory.proofs.Examples.{proper_b, examples as of-tables}
use Rattle.format.specs.Read.{found, many, transition_at, transitions_at, table_read}
use Rattle.model.proofs.Each.{each-get_or}
use Rattle.roundtrip.specs.Tables.{table_sound}
use Rattle.collapse.specs.Promises.{ShrinksTo}
use Rattle.collapse.specs.Examples.{BlocksAre, Writes, bytes_b, blocks_exactly, table_exactly}

-- Table G: arithmetic 0, finals 1 2 3; a→0, a→1 and a→2 weigh 1, 1 and 2. Backward its states 0 and 1 merge.
abbrev pub bytes_g : List ℕ
bytes_g = 0 ∷ 3 ∷ 1 ∷ 0 ∷ 1 ∷ 2 ∷ 3 ∷ 3 ∷ 0 ∷ 0 ∷ 1 ∷ 0 ∷ 1 ∷ 1 ∷ 0 ∷ 2 ∷ 2 ∷ []

-- G collapsed backward: both final weights are 3 now, so its states merge forward
abbrev pub bytes_g_once : List ℕ
bytes_g_once = 0 ∷ 2 ∷ 1 ∷ 0 ∷ 3 ∷ 3 ∷ 2 ∷ 0 ∷ 0 ∷ 1 ∷ 0 ∷ 1 ∷ 2 ∷ []

-- and that collapsed forward
abbrev pub bytes_g_twice : List ℕ
bytes_g_twice = 0 ∷ 1 ∷ 1 ∷ 0 ∷ 3 ∷ 1 ∷ 0 ∷ 0 ∷ 3 ∷ []

abbrev table : ℕ → List ℕ → List Transition → Table
table n fs ts = record { arithmetic = 0; states = n; ranks = 0 ∷ []; finals = fs; transitions = ts }

abbrev table_g : Table
table_g = table 3 (1 ∷ 2 ∷ 3 ∷ []) (a→ 0 1 ∷ a→ 1 1 ∷ a→ 2 2 ∷ [])

abbrev once : Table
once = table 2 (3 ∷ 3 ∷ []) (a→ 0 1 ∷ a→ 1 2 ∷ [])

abbrev twice : Table
twice = table 1 (3 ∷ []) (a→ 0 3 ∷ [])

read_proper : (s : List ℕ) → Each (λ b. b < 256) s → (X : Table) (end : ℕ) → table_read s ≡ found X end → Proper X
read_proper s small X end e = (table_sound s (λ i. each-get_or (λ b. b < 256) s i 0 small (omega arith)) X end e).0

proper_g : Proper table_g
unfolding table_read many transitions_at transition_at number_at more_from
proper_g = read_proper bytes_g (omega arith) table_g 17 refl

proper_once : Proper once
unfolding table_read many transitions_at transition_at number_at more_from
proper_once = read_proper bytes_g_once (omega arith) once 13 refl

proper_twice : Proper twice
unfolding table_read many transitions_at transition_at number_at more_from
proper_twice = read_proper bytes_g_twice (omega arith) twice 9 refl

module _ (d : Direction) (X : Table) (proper : Proper X) (blocks : List ℕ) (coarsest : CoarsestBlocks d X blocks) where
  -- what is added up for one member of each block is the collapse
  by_members : (Y : Table) → AddedUp d X (block_of blocks) (member (block_of blocks) X.states) Y → CollapsedByCoarsest d X Y
  by_members Y = added_collapsed_by_coarsest d X proper blocks coarsest (member (block_of blocks) X.states) (member_names X.states (block_of blocks) coarsest.first_use) Y

  -- a table whose states are all apart is its own collapse
  unmerged : ((q : ℕ) → q < X.states → block_of blocks q ≡ q) → CollapsedByCoarsest d X X
  unmerged own = record { blocks = blocks; coarsest_blocks = coarsest; collapsed = own_collapsed X proper (block_of blocks) own d }

blocks_g : CoarsestBlocks backward table_g (0 ∷ 0 ∷ 1 ∷ [])
unfolding uses
blocks_g = coarsest_test_sound backward table_g proper_g [] (0 ∷ 0 ∷ 1 ∷ []) tt

first : CollapsedByCoarsest backward table_g once
first = by_members backward table_g proper_g (0 ∷ 0 ∷ 1 ∷ []) blocks_g once (record {
  shape = record { arithmetic_stays = refl; ranks_stay = refl; states_blocks = refl; finals_many = refl; zeros_unlisted = omega arith; ascending = omega arith };
  finals-added = below_each _ 2 (omega arith);
  sums_added = sums_by_entries backward table_g (block_of (0 ∷ 0 ∷ 1 ∷ [])) (member (block_of (0 ∷ 0 ∷ 1 ∷ [])) 3) once.transitions (omega arith) (omega arith) (omega arith);
  codes_fit = omega arith;
})

second : CollapsedByCoarsest forward once twice
unfolding uses
second = by_members forward once proper_once (0 ∷ 0 ∷ []) (coarsest_test_sound forward once proper_once [] (0 ∷ 0 ∷ []) tt) twice (record {
  shape = record { arithmetic_stays = refl; ranks_stay = refl; states_blocks = refl; finals_many = refl; zeros_unlisted = omega arith; ascending = omega arith };
  finals-added = below_each _ 1 (omega arith);
  sums_added = sums_by_entries forward once (block_of (0 ∷ 0 ∷ [])) (member (block_of (0 ∷ 0 ∷ [])) 2) twice.transitions (omega arith) (omega arith) (omega arith);
  codes_fit = omega arith;
})

-- backward again, the one state stays
third : CollapsedByCoarsest backward twice twice
unfolding uses
third = unmerged backward twice proper_twice (0 ∷ []) (coarsest_test_sound backward twice proper_twice [] (0 ∷ []) tt) (below_each _ 1 (omega arith))

shrink_g : Shrinks backward table_g twice
shrink_g = more first (λ e. omega arith) (more second (λ e. omega arith) (last third refl))

shrink_b : Shrinks backward table_b table_b
shrink_b = last (unmerged backward table_b proper_b (0 ∷ 1 ∷ 2 ∷ []) of-tables.p5_backward (below_each _ 3 (omega arith))) refl

-- G backward: 0 and 1 share a block although their final weights differ
pub blocks_of_G : BlocksAre 0 bytes_g (0 ∷ 0 ∷ 1 ∷ []) 2
unfolding table_read many transitions_at transition_at number_at more_from
blocks_of_G = record { exactly = blocks_exactly backward table_g (0 ∷ 0 ∷ 1 ∷ []) blocks_g }

-- G shrunk from the backward side is one state
pub shrink_of_G : Writes (ShrinksTo 0) bytes_g bytes_g_twice 1 1
unfolding groups table_read many transitions_at transition_at number_at more_from
shrink_of_G = record { exactly = table_exactly (Shrinks backward table_g) twice shrink_g (λ Z s. shrinks_unique proper_g s shrink_g) }

-- B shrunk from the backward side is B: its backward collapse merges no states, so the forward one, which would, is not made
pub shrink_of_B : Writes (ShrinksTo 0) bytes_b bytes_b 3 4
unfolding groups table_read many transitions_at transition_at number_at more_from
shrink_of_B = record { exactly = table_exactly (Shrinks backward table_b) table_b shrink_b (λ Z s. shrinks_unique proper_b s shrink_b) }
