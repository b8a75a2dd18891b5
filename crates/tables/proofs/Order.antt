-- How the keys of two neighbours compare, number by number.
use Prim.Native.Nat.{ℕ, suc, ◌*◌}
use mathlib.Core.Path.{◌≡◌, refl, sym, ◌∙◌}
use mathlib.Core.Bool.{Bool, true, false, cond}
use mathlib.Core.List.{List, [], ◌∷◌, ◌++◌}
use native.Mathlib.Omega.{arith}
use lib.ListN.{length, take, drop, get_or}
use lib.Dec.{ltb, eqb}
use borrow.Author.Tests.{eq-eqb, ne_eqb, le-ltb}
use Rattle.model.specs.Table.{lower}
use Rattle.tables.specs.Record.{key_at, key_before}

lower_one : (x y : ℕ) → lower (x ∷ []) (y ∷ []) ≡ ltb x y
lower_one x y = go (eqb x y) refl
  where
    go : (b : Bool) → eqb x y ≡ b → cond b false (ltb x y) ≡ ltb x y
    go true e = let h = borrow.Author.Tests.eqb-true x y e in sym (le-ltb x y (omega arith))
    go false e = refl

module _ (ranks symbol children target : List ℕ) (i j : ℕ) (next : j ≡ suc i) where
  before_is : key_before ranks symbol children target j ≡ key_at ranks symbol children target i
  before_is = rw next

  pub order_by_symbol : (x y : ℕ) → x ≡ get_or symbol i 0 → y ≡ get_or symbol j 0 → (x ≡ y → ⊥)
      → ltb x y ≡ lower (key_before ranks symbol children target j) (key_at ranks symbol children target j)
  order_by_symbol x y p q n =
      rw (p, q, before_is, ne_eqb (get_or symbol i 0) (get_or symbol j 0) (λ e. n (p ∙ e ∙ sym q)))

  pub order_by_children : (rank : ℕ) → get_or symbol i 0 ≡ get_or symbol j 0 → rank ≡ get_or ranks (get_or symbol j 0) 0
      → lower (take rank (drop (i * 4) children) ++ (get_or target i 0 ∷ [])) (take rank (drop (j * 4) children) ++ (get_or target j 0 ∷ []))
      ≡ lower (key_before ranks symbol children target j) (key_at ranks symbol children target j)
  order_by_children rank e r =
      rw (before_is, e, eq-eqb (get_or symbol j 0) (get_or symbol j 0) refl, ← r)

-- what is left of the two keys decides: the children from here on, and then the targets
pub record Left (above own : List ℕ) (last mine : ℕ) (whole : Bool) : Type 0 where
  pub as_many : length above ≡ length own
  pub decides : lower (above ++ (last ∷ [])) (own ++ (mine ∷ [])) ≡ whole

pub left_starts : (ranks symbol children target : List ℕ) (i j : ℕ) → j ≡ suc i → get_or symbol i 0 ≡ get_or symbol j 0 → {above own : List ℕ}
    → above ≡ take (get_or ranks (get_or symbol i 0) 0) (drop (i * 4) children)
    → own ≡ take (get_or ranks (get_or symbol j 0) 0) (drop (j * 4) children)
    → length above ≡ length own
    → Left above own (get_or target i 0) (get_or target j 0) (lower (key_before ranks symbol children target j) (key_at ranks symbol children target j))
left_starts ranks symbol children target i j next e a b as_many =
    record { as_many = as_many; decides = rw (a, b, e) (order_by_children ranks symbol children target i j next (get_or ranks (get_or symbol j 0) 0) e refl) }

module _ {above own : List ℕ} {last mine : ℕ} {whole : Bool} (left : Left above own last mine whole) where
  module _ {x y : ℕ} {xs ys : List ℕ} (a : above ≡ x ∷ xs) (b : own ≡ y ∷ ys) where
    opened : lower (x ∷ (xs ++ (last ∷ []))) (y ∷ (ys ++ (mine ∷ []))) ≡ whole
    opened = rw (a, b) at left.decides

    pub left_differs : (x ≡ y → ⊥) → ltb x y ≡ whole
    left_differs n = rw (ne_eqb x y n) at opened

    pub left_agrees : x ≡ y → Left xs ys last mine whole
    left_agrees e = let as_many = rw (a, b) at left.as_many in record { as_many = omega arith; decides = rw (eq-eqb x y e) at opened }

  pub left_ends : length above ≡ 0 → ltb last mine ≡ whole
  left_ends h = go above own h left.as_many left.decides
    where
      go : (xs ys : List ℕ) → length xs ≡ 0 → length xs ≡ length ys → lower (xs ++ (last ∷ [])) (ys ++ (mine ∷ [])) ≡ whole → ltb last mine ≡ whole
      go [] [] h e d = sym (lower_one last mine) ∙ d
      go [] (y ∷ ys) h e d = absurd (omega arith)
      go (x ∷ xs) ys h e d = absurd (omega arith)
