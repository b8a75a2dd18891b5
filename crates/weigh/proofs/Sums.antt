-- Sums over the numbers from one number up to another.
use Prim.Native.Nat.{ℕ, zero, suc, ◌+◌, ◌-◌, ◌≤◌, ◌<◌}
use mathlib.Core.Path.{◌≡◌, refl, sym, ap, ap₂, ◌∙◌}
use native.Mathlib.Omega.{arith}
use native.Mathlib.Nat.{add-zero, zero-add}
use Rattle.theory.specs.Semiring.{Operations, Laws}
use Rattle.theory.specs.Sum.{sum, sum-zero, zero_plus}
use Rattle.theory.specs.Below.{up_from}

module _ (S : Operations) (L : Laws S) (f : ℕ → S.Carrier) where
  -- one number more, at the end
  pub sum_more : (i k : ℕ) → sum S (up_from i (suc k)) f ≡ S.plus (sum S (up_from i k) f) (f (i + k))
  sum_more i zero = rw (add-zero i) (L.plus_comm (f i) S.zero)
  sum_more i (suc k) =
      let next : suc i + k ≡ i + suc k = omega arith in
      ap (S.plus (f i)) (sum_more (suc i) k) ∙ sym (L.plus_assoc (f i) (sum S (up_from (suc i) k) f) (f (suc i + k)))
      ∙ ap (λ (j : ℕ). S.plus (sum S (up_from i (suc k)) f) (f j)) next

-- equal summands at each number of the range
pub sum_range : (S : Operations) (f g : ℕ → S.Carrier) (i k : ℕ) → ((j : ℕ) → i ≤ j → j < i + k → f j ≡ g j) → sum S (up_from i k) f ≡ sum S (up_from i k) g
sum_range S f g i zero same = refl
sum_range S f g i (suc k) same =
    ap₂ S.plus (same i (omega arith) (omega arith)) (sum_range S f g (suc i) k (λ j l m. same j (omega arith) (omega arith)))

-- a sum over a range is that over the part of it outside of which the summands are zero
module _ (S : Operations) (L : Laws S) (f : ℕ → S.Carrier) where
  sum_none : (i k : ℕ) → ((j : ℕ) → i ≤ j → j < i + k → f j ≡ S.zero) → sum S (up_from i k) f ≡ S.zero
  sum_none i k none = sum_range S f (λ j. S.zero) i k none ∙ sum-zero S L (up_from i k)

  sum_split : (i k l : ℕ) → sum S (up_from i (k + l)) f ≡ S.plus (sum S (up_from i k) f) (sum S (up_from (i + k) l) f)
  sum_split i zero l = rw (zero-add l, add-zero i) (sym (zero_plus S L _))
  sum_split i (suc k) l =
      let more : suc k + l ≡ suc (k + l) = omega arith in
      let next : i + suc k ≡ suc i + k = omega arith in
      rw (more, next) (ap (S.plus (f i)) (sum_split (suc i) k l) ∙ sym (L.plus_assoc (f i) (sum S (up_from (suc i) k) f) (sum S (up_from (suc i + k) l) f)))

  pub sum_part : (from to n : ℕ) → from ≤ to → to ≤ n → ((j : ℕ) → j < from → f j ≡ S.zero) → ((j : ℕ) → to ≤ j → j < n → f j ≡ S.zero)
      → sum S (up_from 0 n) f ≡ sum S (up_from from (to - from)) f
  sum_part from to n l m before after =
      let whole : n ≡ from + ((to - from) + (n - to)) = omega arith in
      let end : from + (to - from) ≡ to = omega arith in
      ap (λ (k : ℕ). sum S (up_from 0 k) f) whole ∙ sum_split 0 from ((to - from) + (n - to))
      ∙ ap₂ S.plus (sum_none 0 from (λ j p q. before j (omega arith))) (ap (λ (i : ℕ). sum S (up_from i ((to - from) + (n - to))) f) (zero-add from) ∙ sum_split from (to - from) (n - to)
      ∙ ap (S.plus (sum S (up_from from (to - from)) f)) (ap (λ (i : ℕ). sum S (up_from i (n - to)) f) end ∙ sum_none to (n - to) (λ j p q. after j p (omega arith))) ∙ L.plus_zero _)
      ∙ zero_plus S L _
