-- The final code of a block.
use Rattle.std.specs.Prelude.{ℕ, List, eqb, get_or}
use Rattle.theory.specs.Arithmetic.{arithmetic_number, arithmetic, Weight, meaning, code_of}
use Rattle.theory.specs.Below.{below}
use Rattle.theory.specs.declared.Direction.{Direction}
use Rattle.theory.specs.declared.Direction.TheVariants.{Backward as backward, Forward as forward}
use Rattle.theory.specs.Sum.{only, sum}
use Rattle.tables.specs.declared.TableRecord.{TableRecord}

-- the final weights of the members of the block D, summed
abbrev pub finals_added : (a : ℕ) → ℕ → List ℕ → (ℕ → ℕ) → ℕ → Weight a
finals_added a states finals b D = sum (arithmetic a) (below states) (λ p. only (arithmetic a) (eqb (b p) D) (meaning a (get_or finals p 0)))

-- backward the code of that sum, forward the named member's
abbrev pub final_for : Direction → ℕ → ℕ → List ℕ → (ℕ → ℕ) → (ℕ → ℕ) → ℕ → ℕ
final_for backward a states finals b r D = code_of a (finals_added a states finals b D)
final_for forward a states finals b r D = get_or finals (r D) 0

-- both, of a table record
abbrev pub finals_added_in : (t : TableRecord) → (ℕ → ℕ) → ℕ → Weight (arithmetic_number t.arithmetic)
finals_added_in t b D = finals_added (arithmetic_number t.arithmetic) t.states t.finals b D

abbrev pub final_in : Direction → TableRecord → (ℕ → ℕ) → (ℕ → ℕ) → ℕ → ℕ
final_in d t b r D = final_for d (arithmetic_number t.arithmetic) t.states t.finals b r D
