-- States get their blocks one after the other. Those that share one are those that a relation puts together.
use Prim.Native.Nat.{ℕ, ◌+◌, ◌<◌}
use mathlib.Core.List.{List}
use mathlib.Core.Logic.{◌↔◌}
use mathlib.Core.Path.{◌≡◌, refl, sym, ◌∙◌}
use native.Mathlib.Omega.{arith}
use borrow.Author.Count.{below_more}
use lib.ListN.{length, get_or, set}
use lib.Seq.{get_or-set_same, get_or-set_other}

module _ (blocks : List ℕ) (q v : ℕ) (inside : q < length blocks) where
  pub older : (r : ℕ) → r < q → get_or (set blocks q v) r 0 ≡ get_or blocks r 0
  older r l = get_or-set_other blocks q r v 0 (λ e. omega arith)

  pub newest : get_or (set blocks q v) q 0 ≡ v
  newest = get_or-set_same blocks q v 0 inside

  module _ (R : ℕ → ℕ → Type 0) (R-self : (p : ℕ) → R p p) (R-sym : (p r : ℕ) → R p r → R r p)
      (so_far : (p r : ℕ) → p < q → r < q → (get_or blocks p 0 ≡ get_or blocks r 0) ↔ R p r) (new : (p : ℕ) → p < q → (get_or blocks p 0 ≡ v) ↔ R p q) where
    abbrev Shares : ℕ → ℕ → Type 0
    Shares p r = (get_or (set blocks q v) p 0 ≡ get_or (set blocks q v) r 0) ↔ R p r

    both_older : (p r : ℕ) → p < q → r < q → Shares p r
    both_older p r h k = (
      λ e. (so_far p r h k).0 (sym (older p h) ∙ e ∙ older r k),
      λ s. older p h ∙ (so_far p r h k).1 s ∙ sym (older r k),
    )

    with_newest : (p : ℕ) → p < q → Shares p q
    with_newest p h = (
      λ e. (new p h).0 (sym (older p h) ∙ e ∙ newest),
      λ s. older p h ∙ (new p h).1 s ∙ sym newest,
    )

    turned : (p r : ℕ) → Shares p r → Shares r p
    turned p r s = (λ e. R-sym p r (s.0 (sym e)), λ t. sym (s.1 (R-sym r p t)))

    pub sharing_goes_on : (p r : ℕ) → p < q + 1 → r < q + 1 → Shares p r
    sharing_goes_on p r l m =
        below_more (λ (x : ℕ). Shares x r) q (λ x h. below_more (Shares x) q (λ y k. both_older x y h k) (with_newest x h) r m)
        (below_more (Shares q) q (λ y k. turned y q (with_newest y k)) (λ e. R-self q, λ s. refl) r m) p l
