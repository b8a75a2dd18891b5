-- Packing tells the keys of uses apart.
use Prim.Native.Nat.{ℕ, ◌+◌, ◌*◌, ◌≤◌, ◌<◌}
use mathlib.Core.List.{List, [], ◌∷◌, ◌++◌}
use mathlib.Core.Path.{◌≡◌, refl, sym, ap, ap₂, ◌∙◌}
use native.Mathlib.Omega.{arith}
use lib.ListN.{length, length-append}
use Rattle.model.specs.Table.{Each}
use Rattle.profiles.specs.Packing.{packed, packed_append, packed_few}

packed_same : (n m : ℕ) (xs ys : List ℕ) → length xs ≡ length ys → Each (λ x. x < 256) xs → Each (λ x. x < 256) ys → packed n xs ≡ packed m ys → (n ≡ m) × (xs ≡ ys)
packed_same n m [] [] l h k e = (e, refl)
packed_same n m [] (y ∷ ys) l h k e = absurd (omega arith)
packed_same n m (x ∷ xs) [] l h k e = absurd (omega arith)
packed_same n m (x ∷ xs) (y ∷ ys) l h k e =
    let r = packed_same (n * 256 + x) (m * 256 + y) xs ys (omega arith) h.1 k.1 e in
    (omega (arith, r.0, h.0, k.0), ap₂ ◌∷◌ (omega (arith, r.0, h.0, k.0)) r.1)

append_same : (xs ys us vs : List ℕ) → length xs ≡ length ys → xs ++ us ≡ ys ++ vs → (xs ≡ ys) × (us ≡ vs)
append_same [] [] us vs l e = (refl, e)
append_same [] (y ∷ ys) us vs l e = absurd (omega arith)
append_same (x ∷ xs) [] us vs l e = absurd (omega arith)
append_same (x ∷ xs) (y ∷ ys) us vs l e =
    let first : x ≡ y = cc in
    let rest : xs ++ us ≡ ys ++ vs = cc in
    let r = append_same xs ys us vs (omega arith) rest in
    (ap₂ ◌∷◌ first r.0, r.1)

-- a symbol and the place above it
pub top_same : (k l σ τ : ℕ) → σ < 128 → τ < 128 → k * 128 + σ ≡ l * 128 + τ → (k ≡ l) × (σ ≡ τ)
top_same k l σ τ m n e = (omega arith, omega arith)

-- at most five digits below a number by which their lengths go
pub pack_same : (σ τ : ℕ) (fs gs Ds Es : List ℕ) → Each (λ x. x < 256) (fs ++ Ds) → Each (λ x. x < 256) (gs ++ Es) → length fs + length Ds ≤ 5 → length gs + length Es ≤ 5
    → (σ ≡ τ → (length fs ≡ length gs) × (length Ds ≡ length Es))
    → σ * 1099511627776 + packed (packed 0 fs) Ds ≡ τ * 1099511627776 + packed (packed 0 gs) Es → (σ ≡ τ) × (fs ≡ gs) × (Ds ≡ Es)
pack_same σ τ fs gs Ds Es m k l h lengths e =
    let x = low fs Ds m l in
    let y = low gs Es k h in
    let whole : σ * 1099511627776 + packed 0 (fs ++ Ds) ≡ τ * 1099511627776 + packed 0 (gs ++ Es) =
    ap (λ (n : ℕ). σ * 1099511627776 + n) (packed_append 0 fs Ds) ∙ e ∙ sym (ap (λ (n : ℕ). τ * 1099511627776 + n) (packed_append 0 gs Es)) in
    let tops : σ ≡ τ = omega arith in
    let long = lengths tops in
    let digits = packed_same 0 0 (fs ++ Ds) (gs ++ Es) (length-append fs Ds ∙ ap₂ ◌+◌ long.0 long.1 ∙ sym (length-append gs Es)) m k (omega arith) in
    let r = append_same fs gs Ds Es long.0 digits.1 in
    (tops, r.0, r.1)
  where
    low : (fs Ds : List ℕ) → Each (λ x. x < 256) (fs ++ Ds) → length fs + length Ds ≤ 5 → packed 0 (fs ++ Ds) < 1099511627776
    low fs Ds m l = packed_few 5 (fs ++ Ds) m (omega (arith, length-append fs Ds))
