-- What is computed decides the coarsest blocks.
use Rattle.std.specs.Prelude.{refl, Bool, ◌&&◌, List, ℕ, T, eqb, leb, length}
use Rattle.std.proofs.Common.{eqb→eq, leb→le}
use store.Enc.{and_l, and_r}
use Rattle.model.specs.Table.{Table, Proper}
use Rattle.theory.specs.Arithmetic.{arithmetic}
use Rattle.theory.specs.Blocks.{block_of, block_count, FirstUse}
use Rattle.theory.specs.declared.Direction.{Direction}
use Rattle.theory.specs.Direction.{CoarsestBlocks}
use Rattle.theory.specs.Uses.{uses, grade}
use Rattle.theory.proofs.Uses.{uses_known}
use Rattle.theory.proofs.Refinement.{coarsest_by_profile}
use Rattle.theory.specs.Decision.{all_below, first_use_test, reaches, reach_test_coarsest, coarsest_test}
use Rattle.theory.proofs.Laws.{laws}

first_use_test_sound : (n : ℕ) (b : ℕ → ℕ) → T (first_use_test n b) → FirstUse n b
first_use_test_sound n b t = record { next = λ q l. leb→le (b q) (block_count b q) (all_below n (λ q. leb (b q) (block_count b q)) t q l) }

module _ (d : Direction) (X : Table) where
  pub coarsest_test_sound : Proper X → (between : List (List ℕ)) (last : List ℕ) → T (coarsest_test d X between last) → CoarsestBlocks d X last
  coarsest_test_sound proper between last t = record {
    one_each = eqb→eq (length last) X.states (and_l (eqb (length last) X.states) others t);
    first_use = first_use_test_sound X.states (block_of last) (and_l (first_use_test X.states (block_of last)) (reaches d X between last) rest);
    coarsest = coarsest_by_profile d X proper (block_of last) (reach_test_coarsest (arithmetic X.arithmetic) X.states (grade X.arithmetic d X) (uses X.arithmetic d X.transitions) (laws X.arithmetic)
        (uses_known X.arithmetic X proper.transitions_proper d) (λ q. 0) between last (λ c h. record { keeps = λ p q lp lq e. refl })
        (and_r (first_use_test X.states (block_of last)) (reaches d X between last) rest));
  }
    where
      others : Bool
      others = first_use_test X.states (block_of last) && reaches d X between last

      rest : T others
      rest = and_r (eqb (length last) X.states) others t
