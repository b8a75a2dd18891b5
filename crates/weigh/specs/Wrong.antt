-- Programs that the promise rules out, each by its answer on document 01's table A and the tree g(a). (Others are must-fail edits.)
use Rattle.std.specs.Prelude.{Result, Err, ℕ, ◌≡◌, refl, false, List, [], ◌∷◌, ℤ, pos, nat_abs, length, get_or, replicate}
use Rattle.std.proofs.Common.{ap, ◌∙◌, arith}
use Rattle.answers.specs.declared.Refusal.{Refusal}
use Rattle.weigh.specs.declared.Weighing.{Weighing}
use Rattle.format.specs.Examples.{bytes_a}
use Rattle.weigh.specs.Asked.{Asked, refused, weighed, asked, answered, filled, weighed_asked}
use Rattle.weigh.specs.Promise.{weight_beside, weight_given, Weighed}
use Rattle.weigh.specs.Examples.{weighings}

-- a sheet lent full of nines
abbrev nines : ℕ → List ℤ
nines n = replicate n (pos 9)

-- one that refuses all tables or all trees
pub weigh_refuses : (refusal : Refusal) (after : List ℤ) → Weighed bytes_a (1 ∷ 0 ∷ []) (nines 6) (Err refusal) after → ⊥
weigh_refuses refusal after p = cc ((weighed_asked (1 ∷ 0 ∷ []) (nines 6) (Err refusal) after bytes_a p).0 ∙ weighings.0)

-- one that leaves the sheet untouched under code 0
pub weigh_leaves_sheet : (w : Result Weighing Refusal) → Weighed bytes_a (1 ∷ 0 ∷ []) (nines 7) w (nines 7) → ⊥
weigh_leaves_sheet w p =
    let same = (weighed_asked (1 ∷ 0 ∷ []) (nines 7) w (nines 7) bytes_a p).1 ∙ weighings.1 in
    let z : ◌≡◌ {A = ℕ} 9 0 = ap (λ (l : List ℤ). nat_abs (get_or l 0 (pos 0))) same in
    omega arith

-- one whose refusal has a weight, says that there is one, or touches the sheet
pub weigh_refusal : (table tree : List ℕ) (before : List ℤ) (refusal : Refusal) (after : List ℤ) → Weighed table tree before (Err refusal) after
    → (weight_beside (Err refusal) ≡ pos 0) × (weight_given (Err refusal) ≡ false) × (after ≡ before)
weigh_refusal table tree before refusal after p =
    let k = weighed_asked tree before (Err refusal) after table p in (refl, refl, go (asked table tree (length before)) k.0 k.1)
  where
    go : (x : Asked) → Err refusal ≡ answered x → after ≡ filled x before → after ≡ before
    go (refused other) f g = g
    go (weighed X t nodes) f g = cc
