-- What the test of a number says of the number that was found.
use Rattle.std.proofs.Common.{ℕ, zero, suc, ◌+◌, ◌≤◌, ◌<◌, ◌≡◌, refl, sym, subst, Bool, true, false, ◌&&◌, T, leb, ltb, leb→le, ltb→lt, List, [], ◌∷◌, ◌++◌, drop, replicate, arith}
use Rattle.std.proofs.Math.Facts.{and_yes}
use Rattle.std.proofs.lemmas.List.{get_or-drop}
use Rattle.answers.specs.declared.Refusal.{Refusal}
use Rattle.tables.specs.Steps.{Small}
use Rattle.format.specs.Read.{Found, found, refused, after, provided, any, within, one_of}

-- a value that was found
abbrev Is : (ℕ → Type 0) → Found ℕ → Type 0
Is P (found n next) = P n
Is P (refused refusal) = Unit {0}

-- what was found passed its test
passed : (test : ℕ → Bool) (refusal : Refusal) (x : Found ℕ) → Is (λ n. T (test n)) (after x (λ n next. provided (test n) refusal (found n next)))
passed test refusal (found n next) = go (test n) refl
  where
    go : (b : Bool) → test n ≡ b → Is (λ n. T (test n)) (provided b refusal (found n next))
    go true e = subst T (sym e) tt
    go false e = tt
passed test refusal (refused other) = tt

module _ (s : List ℕ) (at : ℕ) {n next : ℕ} where
  pub one_of_below : (limit : ℕ) → one_of s limit at ≡ found n next → n < limit
  one_of_below limit e = ltb→lt n limit (subst (Is (λ n. T (ltb n limit))) e (passed (λ n. ltb n limit) _ (any s at)))

  pub within_bounds : (low high : ℕ) → within s low high at ≡ found n next → (low ≤ n) × (n ≤ high)
  within_bounds low high e =
      let (a, b) = and_yes (leb low n) (leb n high) (subst (Is (λ n. T (leb low n && leb n high))) e (passed (λ n. leb low n && leb n high) _ (any s at))) in
      (leb→le low n a, leb→le n high b)

-- an array of zeros, and one whose front was filled, are small
pub zeros_small : (n : ℕ) → Small (replicate n 0)
zeros_small zero i = omega arith
zeros_small (suc n) zero = omega arith
zeros_small (suc n) (suc i) = zeros_small n i

pub front_small : (front list : List ℕ) (k : ℕ) → Small front → Small list → Small (front ++ drop k list)
front_small [] list k h g i = rw (get_or-drop k list i 0) (g (k + i))
front_small (x ∷ front) list k h g zero = h 0
front_small (x ∷ front) list k h g (suc i) = front_small front list k (λ j. h (suc j)) g i
