-- A loop that fills a list of 256 places, from the first on.
use Rattle.std.specs.Prelude.{ℕ, ◌+◌, ◌≤◌, ◌<◌, ◌≡◌, List, length, get_or, set, replicate}
use Rattle.std.proofs.Common.{sym, subst, arith, below_more, length-set, get_or-set_same, get_or-set_other}
use Rattle.std.proofs.lemmas.List.{length-replicate}

-- what stands in the places below i is as it is to be
pub record Filling {A : Type 0} (z : A) (P : ℕ → A → Type 0) (number : ℕ) (list : List A) (i : ℕ) : Type 0 where
  pub some : i ≤ number
  pub long : length list ≡ 256
  pub filled : (k : ℕ) → k < i → P k (get_or list k z)

-- one more place
pub filled_more : {A : Type 0} (z : A) (P : ℕ → A → Type 0) (list : List A) (i : ℕ) → ((k : ℕ) → k < i → P k (get_or list k z)) → i < length list → (x : A) → P i x
    → (k : ℕ) → k < i + 1 → P k (get_or (set list i x) k z)
filled_more z P list i so_far inside x h = below_more _ i
    (λ k l. subst (P k) (sym (get_or-set_other list i k x z (λ e. omega arith))) (so_far k l))
    (subst (P i) (sym (get_or-set_same list i x z inside)) h)

module _ {A : Type 0} (z : A) (P : ℕ → A → Type 0) (number : ℕ) where
  pub filling_starts : Filling z P number (replicate 256 z) 0
  filling_starts = record { some = omega arith; long = length-replicate {A = A} 256 z; filled = λ k l. absurd (omega arith) }

  pub filling_goes_on : (list : List A) (i : ℕ) → Filling z P number list i → i < number → number ≤ 256 → (x : A) → P i x → Filling z P number (set list i x) (i + 1)
  filling_goes_on list i so_far more few x h = record {
    some = omega arith;
    long = subst (λ (n : ℕ). n ≡ 256) (sym (length-set list i x)) so_far.long;
    filled = filled_more z P list i so_far.filled (omega (arith, so_far.long)) x h;
  }

  pub filling_ends : (list : List A) (i : ℕ) → Filling z P number list i → number ≤ i → (length list ≡ 256) × ((k : ℕ) → k < number → P k (get_or list k z))
  filling_ends list i so_far done = (so_far.long, λ k l. so_far.filled k (omega arith))
