-- Adding up a collapse: one named member stands for each block, and the transitions between named members are summed by the keys of their blocks.
use Rattle.std.specs.Prelude.{◌≡◌, Bool, ℕ, ◌<◌, ◌^◌, eqb, get_or}
use mathlib.Core.List.{List, map}
use Rattle.model.specs.Table.{Table, Transition, Each}
use Rattle.theory.specs.Equality.{lists, same_list}
use Rattle.theory.specs.Sum.{only}
use Rattle.theory.specs.Grouping.{key_sum}
use Rattle.theory.specs.Arithmetic.{arithmetic, Weight, meaning, code_of}
use Rattle.theory.specs.Blocks.{block_count}
use Rattle.theory.specs.declared.Direction.{Direction}
use Rattle.theory.specs.declared.Direction.TheVariants.{Backward as backward, Forward as forward}
use Rattle.theory.specs.Entry.{block_key, weight_at_key}
use Rattle.theory.specs.Collapse.{block_final, Shape}

-- r names one member of each of the blocks b of n states
pub record Names (n : ℕ) (b r : ℕ → ℕ) : Type 0 where
  pub named_known : (D : ℕ) → D < block_count b n → r D < n
  pub named_block : (D : ℕ) → D < block_count b n → b (r D) ≡ D

module _ (X : Table) (b r : ℕ → ℕ) where
  -- backward, the transition's target is the named member of its block; forward, its children are
  abbrev pub named : Direction → Transition → Bool
  named backward t = eqb (r (b t.target)) t.target
  named forward t = same_list (map (λ q. r (b q)) t.children) t.children

  -- the weight of such a transition; zero for any other
  abbrev pub named_weight : Direction → Transition → Weight X.arithmetic
  named_weight d t = only (arithmetic X.arithmetic) (named d t) (meaning X.arithmetic t.code)

  -- the summed weights of such transitions whose blocks have the key
  abbrev pub named_sum : Direction → List ℕ → Weight X.arithmetic
  named_sum d k = key_sum (arithmetic X.arithmetic) lists X.transitions (block_key b) (named_weight d) k

-- Y has for each block the final weight for its named member, and for each key the sum
pub record AddedUp (d : Direction) (X : Table) (b r : ℕ → ℕ) (Y : Table) : Type 0 where
  pub shape : Shape X b Y
  pub finals-added : (D : ℕ) → D < Y.states → get_or Y.finals D 0 ≡ code_of X.arithmetic (block_final X b d (r D))
  pub sums_added : (k : List ℕ) → weight_at_key X.arithmetic Y.transitions k ≡ named_sum X b r d k
  pub codes_fit : Each (λ t. t.code < 2 ^ 32) Y.transitions
