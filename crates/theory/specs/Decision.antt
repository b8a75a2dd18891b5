-- Tests that compute: whether given blocks are the coarsest of a table. They prove worked examples.
use Rattle.std.specs.Prelude.{◌≡◌, Bool, true, false, not, ◌&&◌, ◌||◌, List, [], ◌∷◌, ℕ, zero, suc, ◌+◌, ◌<◌, ◌≤◌, T, eqb, leb, length}
use Rattle.std.proofs.Common.{subst, arith, eqb→eq}
use Rattle.std.proofs.Math.Decide.{dec_lt}
use Rattle.std.proofs.Math.Facts.{yes_and}
use store.Enc.{and_l, and_r}
use Rattle.model.specs.Table.{Table, Each}
use Rattle.model.proofs.Each.{each_implies}
use Rattle.theory.specs.Equality.{numbers, equal_same}
use Rattle.theory.specs.Below.{below, up_from}
use Rattle.theory.specs.Semiring.{Operations, Laws}
use Rattle.theory.specs.Arithmetic.{arithmetic}
use Rattle.theory.specs.Blocks.{block_of, block_count}
use Rattle.theory.specs.Bisimulation as General
use Rattle.theory.specs.declared.Direction.{Direction}
use Rattle.theory.specs.Profile.{Use, key_of, profile, profile_met, Alike, alike_agreement}
use Rattle.theory.specs.Uses.{uses, grade}

-- the test holds of each member
abbrev pub all : {A : Type 0} → List A → (A → Bool) → Bool
all [] f = true
all (x ∷ xs) f = f x && all xs f

pub all_each : {A : Type 0} (xs : List A) (f : A → Bool) → T (all xs f) → Each (λ x. T (f x)) xs
all_each [] f t = tt
all_each (x ∷ xs) f t = (and_l (f x) (all xs f) t, all_each xs f (and_r (f x) (all xs f) t))

pub all_of : {A : Type 0} (xs : List A) (f : A → Bool) → ((x : A) → T (f x)) → T (all xs f)
all_of [] f h = tt
all_of (x ∷ xs) f h = yes_and (f x) (all xs f) (h x) (all_of xs f h)

all_up_from : (i k : ℕ) (f : ℕ → Bool) → T (all (up_from i k) f) → (q : ℕ) → i ≤ q → q < i + k → T (f q)
all_up_from i zero f t q l m = absurd (omega arith)
all_up_from i (suc k) f t q l m = go (dec_lt i q) (all_up_from (suc i) k f (and_r (f i) (all (up_from (suc i) k) f) t) q)
  where
    go : Dec (i < q) → (suc i ≤ q → q < suc i + k → T (f q)) → T (f q)
    go (yes h) ih = ih h (omega arith)
    go (no h) ih = let e : i ≡ q = omega arith in subst (λ (x : ℕ). T (f x)) e (and_l (f i) (all (up_from (suc i) k) f) t)

pub all_below : (n : ℕ) (f : ℕ → Bool) → T (all (below n) f) → (q : ℕ) → q < n → T (f q)
all_below n f t q l = all_up_from 0 n f t q (omega arith) (omega arith)

abbrev pub implies : Bool → Bool → Bool
implies c d = not c || d

implies_holds : (c d : Bool) → T (implies c d) → T c → T d
implies_holds true d t s = t
implies_holds false d t s = absurd s

-- the test holds of each two numbers below n
abbrev pub all_pairs : ℕ → (ℕ → ℕ → Bool) → Bool
all_pairs n f = all (below n) (λ p. all (below n) (f p))

pub all_pairs_at : (n : ℕ) (f : ℕ → ℕ → Bool) → T (all_pairs n f) → (p q : ℕ) → p < n → q < n → T (f p q)
all_pairs_at n f t p q lp lq = all_below n (f p) (all_below n (λ p. all (below n) (f p)) t p lp) q lq

module _ (S : Operations) (n : ℕ) (grade : ℕ → S.Carrier) (uses : List (Use S.Carrier)) where
  -- the sums of p and q are equal at the key of a use
  abbrev pub level_test : (ℕ → ℕ) → ℕ → ℕ → Use S.Carrier → Bool
  level_test b p q u = S.equality.same (profile S uses b (key_of b u) p) (profile S uses b (key_of b u) q)

  -- p and q agree under b: only the keys of listed uses are tried
  abbrev pub alike_test : (ℕ → ℕ) → ℕ → ℕ → Bool
  alike_test b p q = S.equality.same (grade p) (grade q) && all uses (level_test b p q)

  -- c keeps p and q together if they share a block of b and agree under b
  abbrev pub stay_test : (ℕ → ℕ) → (ℕ → ℕ) → ℕ → ℕ → Bool
  stay_test b c p q = implies (eqb (b p) (b q) && alike_test b p q) (eqb (c p) (c q))

  -- p and q agree under b if they share a block of b
  abbrev pub share_test : (ℕ → ℕ) → ℕ → ℕ → Bool
  share_test b p q = implies (eqb (b p) (b q)) (alike_test b p q)

  -- from b, over the given blocks, to the last, which is a bisimulation
  abbrev pub reach_test : (ℕ → ℕ) → List (List ℕ) → List ℕ → Bool
  reach_test b [] last = all_pairs n (stay_test b (block_of last)) && all_pairs n (share_test (block_of last))
  reach_test b (c ∷ cs) last = all_pairs n (stay_test b (block_of c)) && reach_test (block_of c) cs last

  module _ (L : Laws S) where
    alike_test_sound : (b : ℕ → ℕ) (p q : ℕ) → T (alike_test b p q) → Alike S n grade uses b p q
    alike_test_sound b p q t = (
      S.equality.same_equal (grade p) (grade q) (and_l (S.equality.same (grade p) (grade q)) (all uses (level_test b p q)) t),
      profile_met S uses L b p q (each_implies (λ u. T (level_test b p q u)) _ (λ u s _. S.equality.same_equal _ _ s) uses
          (all_each uses (level_test b p q) (and_r (S.equality.same (grade p) (grade q)) (all uses (level_test b p q)) t))),
    )

    alike_test_complete : (b : ℕ → ℕ) (p q : ℕ) → Alike S n grade uses b p q → T (alike_test b p q)
    alike_test_complete b p q h = yes_and (S.equality.same (grade p) (grade q)) (all uses (level_test b p q)) (equal_same S.equality (grade p) (grade q) h.0)
        (all_of uses (level_test b p q) (λ u. equal_same S.equality _ _ (h.1 (key_of b u))))

    module _ (known : Each (λ u. Each (λ r. r < n) u.through) uses) where
      stay_covers : (b c : ℕ → ℕ) → T (all_pairs n (stay_test b c)) → General.Covers n (Alike S n grade uses) b → General.Covers n (Alike S n grade uses) c
      stay_covers b c t = General.split_covers n (Alike S n grade uses) (alike_agreement S n grade uses L known) b c
          (λ p q lp lq e h. eqb→eq (c p) (c q) (implies_holds (eqb (b p) (b q) && alike_test b p q) (eqb (c p) (c q)) (all_pairs_at n (stay_test b c) t p q lp lq)
          (yes_and (eqb (b p) (b q)) (alike_test b p q) (equal_same numbers (b p) (b q) e) (alike_test_complete b p q h))))

      pub reach_test_coarsest : (b : ℕ → ℕ) (cs : List (List ℕ)) (last : List ℕ) → General.Covers n (Alike S n grade uses) b → T (reach_test b cs last)
          → General.Coarsest n (Alike S n grade uses) (block_of last)
      reach_test_coarsest b [] last up t = General.covers_coarsest n (Alike S n grade uses) (block_of last)
          (record {
            agree = λ p q lp lq e. alike_test_sound (block_of last) p q (implies_holds (eqb (block_of last p) (block_of last q)) (alike_test (block_of last) p q)
                (all_pairs_at n (share_test (block_of last)) (and_r (all_pairs n (stay_test b (block_of last))) (all_pairs n (share_test (block_of last))) t) p q lp lq)
                (equal_same numbers (block_of last p) (block_of last q) e));
          })
          (stay_covers b (block_of last) (and_l (all_pairs n (stay_test b (block_of last))) (all_pairs n (share_test (block_of last))) t) up)
      reach_test_coarsest b (c ∷ cs) last up t = reach_test_coarsest (block_of c) cs last
          (stay_covers b (block_of c) (and_l (all_pairs n (stay_test b (block_of c))) (reach_test (block_of c) cs last) t) up)
          (and_r (all_pairs n (stay_test b (block_of c))) (reach_test (block_of c) cs last) t)

-- the blocks are numbered by first use
abbrev pub first_use_test : ℕ → (ℕ → ℕ) → Bool
first_use_test n b = all (below n) (λ q. leb (b q) (block_count b q))

module _ (d : Direction) (X : Table) where
  abbrev pub reaches : List (List ℕ) → List ℕ → Bool
  reaches between last = reach_test (arithmetic X.arithmetic) X.states (grade X.arithmetic d X) (uses X.arithmetic d X.transitions) (λ q. 0) between last

  -- `last` has the coarsest blocks of the table, reached from one block over those in between
  abbrev pub coarsest_test : List (List ℕ) → List ℕ → Bool
  coarsest_test between last = eqb (length last) X.states && (first_use_test X.states (block_of last) && reaches between last)
