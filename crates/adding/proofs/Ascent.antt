-- The order of packed keys is document 01's order of transitions.
use Prim.Native.Nat.{ℕ, ◌+◌, ◌*◌, ◌<◌}
use mathlib.Core.Path.{◌≡◌, sym, ap, ◌∙◌, subst}
use mathlib.Core.Logic.{◌⊎◌, inl, inr}
use mathlib.Core.List.{List, [], ◌∷◌, ◌++◌}
use native.Mathlib.Omega.{arith}
use lib.Dec.{T, ltb, ltb→lt, lt→ltb}
use lib.ListN.{length, get_or, length-append}
use Rattle.model.specs.Table.{Transition, Each, key, lower}
use Rattle.model.proofs.Each.{each_append}
use Rattle.theory.specs.Equality.{numbers, same_true, same_false}
use Rattle.theory.specs.Order.{ltb_total}
use Rattle.profiles.specs.Packing.{packed}
use Rattle.adding.specs.Keys.{pack}
use Rattle.adding.proofs.Packing.{Packable, pack_symbol}

lower_first : (x y : ℕ) (xs ys : List ℕ) → x < y → T (lower (x ∷ xs) (y ∷ ys))
lower_first x y xs ys l = rw (same_false numbers x y (λ e. omega arith)) (lt→ltb x y l)

lower_later : (x y : ℕ) (xs ys : List ℕ) → x ≡ y → T (lower xs ys) → T (lower (x ∷ xs) (y ∷ ys))
lower_later x y xs ys e t = subst (λ (z : ℕ). T (lower (x ∷ xs) (z ∷ ys))) e (rw (same_true numbers x) t)

-- a higher number in front decides
packed_less : (m n : ℕ) (xs ys : List ℕ) → length xs ≡ length ys → Each (λ x. x < 256) xs → m < n → packed m xs < packed n ys
packed_less m n [] [] e b l = l
packed_less m n [] (y ∷ ys) e b l = absurd (omega arith)
packed_less m n (x ∷ xs) [] e b l = absurd (omega arith)
packed_less m n (x ∷ xs) (y ∷ ys) e b l = let small = b.0 in packed_less (m * 256 + x) (n * 256 + y) xs ys (omega arith) b.1 (omega arith)

packed_lower : (n : ℕ) (xs ys : List ℕ) → length xs ≡ length ys → Each (λ x. x < 256) ys → packed n xs < packed n ys → T (lower xs ys)
packed_lower n [] [] e b l = absurd (omega arith)
packed_lower n [] (y ∷ ys) e b l = tt
packed_lower n (x ∷ xs) [] e b l = absurd (omega arith)
packed_lower n (x ∷ xs) (y ∷ ys) e b l = go (ltb_total x y) (packed_lower (n * 256 + x) xs ys (omega arith) b.1)
  where
    go : T (ltb x y) ⊎ ((x ≡ y) ⊎ T (ltb y x)) → (packed (n * 256 + x) xs < packed (n * 256 + x) ys → T (lower xs ys)) → T (lower (x ∷ xs) (y ∷ ys))
    go (inl h) ih = lower_first x y xs ys (ltb→lt x y h)
    go (inr (inl h)) ih = lower_later x y xs ys h (ih (subst (λ (z : ℕ). packed (n * 256 + x) xs < packed (n * 256 + z) ys) (sym h) l))
    go (inr (inr h)) ih =
        let less : packed (n * 256 + y) ys < packed (n * 256 + x) xs = packed_less (n * 256 + y) (n * 256 + x) ys xs (omega arith) b.1 (omega (arith, ltb→lt y x h)) in
        absurd (omega arith)

module _ (ranks : List ℕ) (t u : Transition) (ft : Packable ranks t) (fu : Packable ranks u) where
  same_many : t.symbol ≡ u.symbol → length (t.children ++ (t.target ∷ [])) ≡ length (u.children ++ (u.target ∷ []))
  same_many e =
      let many : length t.children ≡ length u.children = ft.children_many ∙ ap (λ (σ : ℕ). get_or ranks σ 0) e ∙ sym fu.children_many in
      simp length-append (omega arith)

  pub pack_lower : pack (key t) < pack (key u) → T (lower (key t) (key u))
  pack_lower l = go (ltb_total t.symbol u.symbol)
    where
      go : T (ltb t.symbol u.symbol) ⊎ ((t.symbol ≡ u.symbol) ⊎ T (ltb u.symbol t.symbol)) → T (lower (key t) (key u))
      go (inl h) = lower_first t.symbol u.symbol (t.children ++ (t.target ∷ [])) (u.children ++ (u.target ∷ [])) (ltb→lt t.symbol u.symbol h)
      go (inr (inl h)) = lower_later t.symbol u.symbol (t.children ++ (t.target ∷ [])) (u.children ++ (u.target ∷ [])) h
          (packed_lower 0 (t.children ++ (t.target ∷ [])) (u.children ++ (u.target ∷ [])) (same_many h) (each_append (λ D. D < 256) u.children (u.target ∷ []) fu.children_bytes (fu.target_byte, tt)) (omega arith))
      go (inr (inr h)) = absurd (omega (arith, pack_symbol ranks t ft, pack_symbol ranks u fu, ltb→lt u.symbol t.symbol h))
