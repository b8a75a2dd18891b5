-- The numbers below a bound, in ascending order, and sums over them.
use Rattle.std.specs.Prelude.{◌≡◌, refl, ◌⊎◌, ◌≢◌, Bool, false, List, [], ◌∷◌, ℕ, zero, suc, ◌+◌, ◌<◌, ◌≤◌, eqb, length, get_or}
use Rattle.std.proofs.Common.{ap, ap₂, ◌∙◌, subst, inl, inr, arith}
use Rattle.model.specs.Table.{Each}
use Rattle.model.proofs.Each.{each_at}
use Rattle.theory.specs.Equality.{numbers, equal_or_not, same_true, same_false, false_differ}
use Rattle.theory.specs.Semiring.{Operations, Laws}
use Rattle.theory.specs.Sum.{only, sum, zero_plus}
use Rattle.theory.specs.Grouping.{Once}

-- k numbers, from i up
abbrev pub up_from : ℕ → ℕ → List ℕ
up_from i zero = []
up_from i (suc k) = i ∷ up_from (suc i) k

-- the numbers below n
abbrev pub below : ℕ → List ℕ
below n = up_from 0 n

pub length-up_from : (i k : ℕ) → length (up_from i k) ≡ k
length-up_from i zero = refl
length-up_from i (suc k) = ap suc (length-up_from (suc i) k)

pub each-up_from : (i k n : ℕ) → i + k ≤ n → Each (λ q. q < n) (up_from i k)
each-up_from i zero n h = tt
each-up_from i (suc k) n h = (omega arith, each-up_from (suc i) k n (omega arith))

pub each_below : (n : ℕ) → Each (λ q. q < n) (below n)
each_below n = each-up_from 0 n n (omega arith)

-- the number at a place
get_or-up_from : (i k q : ℕ) → q < k → get_or (up_from i k) q 0 ≡ i + q
get_or-up_from i zero q l = absurd (omega arith)
get_or-up_from i (suc k) zero l = omega arith
get_or-up_from i (suc k) (suc q) l = omega (arith, get_or-up_from (suc i) k q (omega arith))

pub get_or_below : (n q : ℕ) → q < n → get_or (below n) q 0 ≡ q
get_or_below n q l = omega (arith, get_or-up_from 0 n q l)

-- what holds of each number below n, as a list
pub below_each : (P : ℕ → Type 0) (n : ℕ) → Each P (below n) → (q : ℕ) → q < n → P q
below_each P n m q l = subst P (get_or_below n q l) (each_at P (below n) q 0 m (omega (arith, length-up_from 0 n)))

module _ (S : Operations) (L : Laws S) where
  open S use {Carrier, zero as 𝟘, plus as ◌⊕◌}
  open L use {plus_zero}

  infixl 6 ◌⊕◌
  sum_past : (i k q : ℕ) (h : ℕ → Carrier) → q < i → sum S (up_from i k) (λ u. only S (eqb q u) (h u)) ≡ 𝟘
  sum_past i zero q h l = refl
  sum_past i (suc k) q h l =
      let e : eqb q i ≡ false = same_false numbers q i (λ d. omega arith) in
      rw e (zero_plus S L _ ∙ sum_past (suc i) k q h (omega arith))

  up_from_once : (i k q : ℕ) → i ≤ q → q < i + k → Once S numbers (up_from i k) q
  up_from_once i zero q l m h = absurd (omega arith)
  up_from_once i (suc k) q l m h = go (equal_or_not numbers q i) (λ n. up_from_once (suc i) k q n (omega arith) h)
    where
      go : (q ≡ i) ⊎ (eqb q i ≡ false) → (suc i ≤ q → sum S (up_from (suc i) k) (λ u. only S (eqb q u) (h u)) ≡ h q)
          → sum S (up_from i (suc k)) (λ u. only S (eqb q u) (h u)) ≡ h q
      go (inl e) ih = subst (λ (x : ℕ). only S (eqb q x) (h x) ⊕ sum S (up_from (suc i) k) (λ u. only S (eqb q u) (h u)) ≡ h q) e
          (ap₂ ◌⊕◌ (ap (λ (c : Bool). only S c (h q)) (same_true numbers q)) (sum_past (suc i) k q h (omega arith)) ∙ plus_zero (h q))
      go (inr n) ih = let d : q ≢ i = false_differ numbers q i n in rw n (zero_plus S L _ ∙ ih (omega arith))

  -- each number below n stands there once
  pub below_once : (n q : ℕ) → q < n → Once S numbers (below n) q
  below_once n q l = up_from_once 0 n q (omega arith) (omega arith)
