-- Words of states, and sums over them.
use Rattle.std.specs.Prelude.{◌≡◌, ℕ, zero, suc, ◌<◌}
use Rattle.std.proofs.Common.{◌∙◌}
use mathlib.Core.List.{List, [], ◌∷◌, map, flat_map}
use Rattle.model.specs.Table.{Each}
use Rattle.model.proofs.Each.{each_implies, each_map, each-flat_map}
use Rattle.theory.specs.Semiring.{Operations, Laws}
use Rattle.theory.specs.Sum.{sum, sum_same, sum-map, sum-flat_map}
use Rattle.theory.specs.Below.{below, each_below}

-- the words of k numbers below n
abbrev pub words : ℕ → ℕ → List (List ℕ)
words n zero = [] ∷ []
words n (suc k) = flat_map (λ q. map (◌∷◌ q) (words n k)) (below n)

pub each_words : (n k : ℕ) → Each (λ qs. Each (λ q. q < n) qs) (words n k)
each_words n zero = (tt, tt)
each_words n (suc k) = each-flat_map (λ qs. Each (λ q. q < n) qs) (λ q. map (◌∷◌ q) (words n k)) (below n) (each_implies (λ q. q < n) _
    (λ q l. each_map (λ qs. Each (λ q. q < n) qs) (◌∷◌ q) (words n k) (each_implies (λ qs. Each (λ q. q < n) qs) _ (λ qs m. (l, m)) (words n k) (each_words n k))) (below n) (each_below n))

-- the first number, then the rest
pub sum_words : (S : Operations) (L : Laws S) (n k : ℕ) (f : List ℕ → S.Carrier) → sum S (words n (suc k)) f ≡ sum S (below n) (λ q. sum S (words n k) (λ qs. f (q ∷ qs)))
sum_words S L n k f = sum-flat_map S L (λ q. map (◌∷◌ q) (words n k)) (below n) f ∙ sum_same S (below n) _ _ (λ q. sum-map S (◌∷◌ q) (words n k) f)
