-- Only the blocks of the states matter: blocks that are equal there name the same members and make the same entries.
use Prim.Native.Nat.{ℕ, zero, suc, ◌<◌}
use mathlib.Core.Path.{◌≡◌, refl, ap, ap₂}
use mathlib.Core.List.{List, [], ◌∷◌, map}
use native.Mathlib.Omega.{arith}
use lib.Dec.{eqb}
use Rattle.model.specs.Table.{Transition, Each}
use Rattle.theory.specs.Blocks.{member}
use Rattle.theory.specs.declared.Direction.{Direction}
use Rattle.theory.specs.declared.Direction.TheVariants.{Backward as backward, Forward as forward}
use Rattle.model.proofs.Each.{map_each}
use Rattle.theory.specs.Entry.{key_at, Between}
use Rattle.theory.specs.Equality.{same_list}
use Rattle.adding.specs.Keys.{pack}
use Rattle.adding.specs.Named.{counted}
use Rattle.adding.specs.Rows.{entry_of, gathered}

pub member_same : (b c : ℕ → ℕ) (i : ℕ) → ((q : ℕ) → q < i → b q ≡ c q) → (D : ℕ) → member b i D ≡ member c i D
member_same b c zero h D = refl
member_same b c (suc i) h D = rw (h i (omega arith), member_same b c i (λ q l. h q (omega arith)) D)

module _ (b c r : ℕ → ℕ) (d : Direction) (n : ℕ) (same : (q : ℕ) → q < n → b q ≡ c q) where
  entry_same : (t : Transition) → Between n t → entry_of b t ≡ entry_of c t
  entry_same t (lqs, lq) =
      let e : pack (key_at t.symbol (map b t.children) (b t.target)) ≡ pack (key_at t.symbol (map c t.children) (c t.target)) =
      ap₂ (λ (Ds : List ℕ) (D : ℕ). pack (key_at t.symbol Ds D)) (map_each (λ q. q < n) b c same t.children lqs) (same t.target lq) in
      λ i. record { key = e i; code = t.code }

  counts_same : (s : Direction) (t : Transition) → Between n t → counted b r s t ≡ counted c r s t
  counts_same backward t (lqs, lq) = ap (λ (D : ℕ). eqb (r D) t.target) (same t.target lq)
  counts_same forward t (lqs, lq) = ap (λ (qs : List ℕ). same_list qs t.children) (map_each (λ q. q < n) (λ q. r (b q)) (λ q. r (c q)) (λ q l. ap r (same q l)) t.children lqs)

  pub gathered_same : (ts : List Transition) → Each (Between n) ts → gathered b r d ts ≡ gathered c r d ts
  gathered_same [] l = refl
  gathered_same (t ∷ ts) l = rw (counts_same d t l.0, entry_same t l.0, gathered_same ts l.1)
