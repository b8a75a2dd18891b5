-- How many states are dirty.
use Prim.Native.Nat.{ℕ, zero, suc, ◌+◌, ◌≤◌, ◌<◌}
use mathlib.Core.Bool.{Bool, true, false}
use mathlib.Core.List.{List}
use mathlib.Core.Path.{◌≡◌, refl, ◌∙◌}
use native.Mathlib.Decide.{dec_lt}
use native.Mathlib.Numerals.{add-one}
use native.Mathlib.Omega.{arith}
use Rattle.partition.specs.Members.{flag, dirty_count}

module _ (dirty : List Bool) where
  pub counting_starts : dirty_count dirty 0 ≡ 0
  unfolding dirty_count
  counting_starts = refl

  pub counting_dirty : (q : ℕ) → flag dirty q ≡ true → dirty_count dirty (q + 1) ≡ dirty_count dirty q + 1
  unfolding dirty_count
  counting_dirty q f = rw (add-one q, f) (omega arith)

  pub counting_clean : (q : ℕ) → flag dirty q ≡ false → dirty_count dirty (q + 1) ≡ dirty_count dirty q
  unfolding dirty_count
  counting_clean q f = rw (add-one q, f)

  one_more : (q : ℕ) → (dirty_count dirty q ≤ dirty_count dirty (q + 1)) × (dirty_count dirty (q + 1) ≤ dirty_count dirty q + 1)
  one_more q = go (flag dirty q) refl
    where
      go : (f : Bool) → flag dirty q ≡ f → (dirty_count dirty q ≤ dirty_count dirty (q + 1)) × (dirty_count dirty (q + 1) ≤ dirty_count dirty q + 1)
      go true e = (omega (arith, counting_dirty q e), omega (arith, counting_dirty q e))
      go false e = (omega (arith, counting_clean q e), omega (arith, counting_clean q e))

  -- each state from p on counts at most once
  pub count_rises : (p n : ℕ) → p ≤ n → (dirty_count dirty p ≤ dirty_count dirty n) × (dirty_count dirty n + p ≤ dirty_count dirty p + n)
  count_rises p zero le = let e : p ≡ 0 = omega arith in rw e (omega arith, omega arith)
  count_rises p (suc n) le = go (dec_lt p (suc n)) (count_rises p n)
    where
      go : Dec (p < suc n) → (p ≤ n → (dirty_count dirty p ≤ dirty_count dirty n) × (dirty_count dirty n + p ≤ dirty_count dirty p + n))
          → (dirty_count dirty p ≤ dirty_count dirty (suc n)) × (dirty_count dirty (suc n) + p ≤ dirty_count dirty p + suc n)
      go (yes l) before =
          let b = before (omega arith) in
          let m = rw (add-one n) at (one_more n) in
          (omega (arith, b.0, m.0), omega (arith, b.1, m.1))
      go (no l) before = let e : p ≡ suc n = omega arith in rw e (omega arith, omega arith)

  pub count_few : (n : ℕ) → dirty_count dirty n ≤ n
  count_few n = omega (arith, (count_rises 0 n (omega arith)).1, counting_starts)

  -- a dirty state from p on is counted
  pub count_above : (p r n : ℕ) → p ≤ r → r < n → flag dirty r ≡ true → dirty_count dirty p < dirty_count dirty n
  count_above p r n low high f = omega (arith, (count_rises p r low).0, counting_dirty r f, (count_rises (r + 1) n (omega arith)).0)

  -- a clean state is not
  pub count_below : (r n : ℕ) → r < n → flag dirty r ≡ false → dirty_count dirty n < n
  count_below r n high f = omega (arith, count_few r, counting_clean r f, (count_rises (r + 1) n (omega arith)).1)

  -- where all states are clean there is nothing to count
  pub count_none : (n : ℕ) → ((q : ℕ) → q < n → flag dirty q ≡ false) → dirty_count dirty n ≡ 0
  count_none zero clean = counting_starts
  count_none (suc n) clean = (rw (add-one n) at (counting_clean n (clean n (omega arith)))) ∙ count_none n (λ q l. clean q (omega arith))
