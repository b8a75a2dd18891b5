-- Keys packed into one number, digit by digit.
use Rattle.std.specs.Prelude.{ℕ, suc, ◌+◌, ◌-◌, ◌*◌, ◌≤◌, ◌<◌, cond, List, [], ◌∷◌, ◌≢◌, ◌≡◌, refl, eqb, length, get_or, take, drop}
use Rattle.std.proofs.Common.{ap, ◌∙◌, add-one, arith, eq-eqb, ne_eqb, length-take, length-drop, drop_of_length-le, drop-cons, get_or-take, get_or-drop, length-take-le}
use Rattle.std.proofs.lemmas.List.{at_drop_more}
use Rattle.std.proofs.Math.Decide.{ℕ_discrete}
use Rattle.std.proofs.Math.Nat.{sub-zero}
use Rattle.theory.specs.Uses.{others}
use Rattle.profiles.specs.Packing.{packed}

-- the children of a transition from place k on
pub children_next : (children : List ℕ) (j rank k : ℕ) → length children ≡ 16000 → j < 4000 → rank ≤ 4 → k < rank
    → drop k (take rank (drop (j * 4) children)) ≡ get_or children (j * 4 + k) 0 ∷ drop (k + 1) (take rank (drop (j * 4) children))
children_next children j rank k long inside few h =
    let whole : length (take rank (drop (j * 4) children)) ≡ rank = length-take-le rank (drop (j * 4) children) (simp length-drop (omega arith)) in
    rw add-one (drop-cons (take rank (drop (j * 4) children)) k 0 (omega arith)
    ∙ ap (λ (x : ℕ). x ∷ drop (suc k) (take rank (drop (j * 4) children))) (get_or-take rank (drop (j * 4) children) k 0 h ∙ get_or-drop (j * 4) children k 0))

pub children_end : (l : List ℕ) (rank k : ℕ) → rank ≤ k → drop k (take rank l) ≡ []
children_end l rank k h = let short : length (take rank l) ≤ k = simp length-take (omega arith) in drop_of_length-le (take rank l) short

-- qs are the children from place k on: those at another place than `place`
abbrev pub elsewhere : ℕ → ℕ → List ℕ → List ℕ
elsewhere place k [] = []
elsewhere place k (q ∷ qs) = cond (eqb k place) (elsewhere place (k + 1) qs) (q ∷ elsewhere place (k + 1) qs)

elsewhere_behind : (place k : ℕ) (qs : List ℕ) → place < k → elsewhere place k qs ≡ qs
elsewhere_behind place k [] h = refl
elsewhere_behind place k (q ∷ qs) h = rw (ne_eqb k place (λ e. omega arith)) (ap (◌∷◌ q) (elsewhere_behind place (k + 1) qs (omega arith)))

elsewhere_from : (place k : ℕ) (qs : List ℕ) → k ≤ place → elsewhere place k qs ≡ others (place - k) qs
elsewhere_from place k [] h = refl
elsewhere_from place k (q ∷ qs) h = go (ℕ_discrete k place) (elsewhere_from place (k + 1) qs)
  where
    go : Dec (k ≡ place) → (k + 1 ≤ place → elsewhere place (k + 1) qs ≡ others (place - (k + 1)) qs) → elsewhere place k (q ∷ qs) ≡ others (place - k) (q ∷ qs)
    go (yes e) ih =
        let z : place - k ≡ 0 = omega arith in
        rw (eq-eqb k place e, z) (elsewhere_behind place (k + 1) qs (omega arith))
    go (no d) ih =
        let z : place - k ≡ suc (place - (k + 1)) = omega arith in
        rw (ne_eqb k place d, z) (ap (◌∷◌ q) (ih (omega arith)))

pub elsewhere_others : (place : ℕ) (qs : List ℕ) → elsewhere place 0 qs ≡ others place qs
elsewhere_others place qs = elsewhere_from place 0 qs (omega arith) ∙ ap (λ (k : ℕ). others k qs) (sub-zero place)

pub elsewhere_here : (place : ℕ) (q : ℕ) (qs : List ℕ) (k : ℕ) → k ≡ place → elsewhere place k (q ∷ qs) ≡ elsewhere place (k + 1) qs
elsewhere_here place q qs k e = rw (eq-eqb k place e)

pub elsewhere_next : (place : ℕ) (q : ℕ) (qs : List ℕ) (k : ℕ) → k ≢ place → elsewhere place k (q ∷ qs) ≡ q ∷ elsewhere place (k + 1) qs
elsewhere_next place q qs k d = rw (ne_eqb k place d)

-- the next child goes behind the packed ones, unless it stands at the place
module _ (qs : List ℕ) (k place n : ℕ) (more : k < length qs) where
  pub packing_next : k ≢ place → packed n (elsewhere place k (drop k qs)) ≡ packed (n * 256 + get_or qs k 0) (elsewhere place (k + 1) (drop (k + 1) qs))
  packing_next d = at_drop_more (λ rest. packed n (elsewhere place k rest)) qs k 0 more ∙ ap (packed n) (elsewhere_next place (get_or qs k 0) (drop (k + 1) qs) k d)

  pub packing_skips : k ≡ place → packed n (elsewhere place k (drop k qs)) ≡ packed n (elsewhere place (k + 1) (drop (k + 1) qs))
  packing_skips e = at_drop_more (λ rest. packed n (elsewhere place k rest)) qs k 0 more ∙ ap (packed n) (elsewhere_here place (get_or qs k 0) (drop (k + 1) qs) k e)
