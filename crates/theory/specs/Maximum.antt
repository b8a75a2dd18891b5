-- The greater of two whole numbers.
use Rattle.std.specs.Prelude.{◌≡◌, refl, Bool, true, false, cond, ◌⊎◌, ℕ, zero, suc, ◌≤◌, T, leb, ℤ, pos, negsuc, ◌+ℤ◌}
use Rattle.std.proofs.Common.{sym, ap, ap₂, ◌∙◌, subst, inl, inr, arith, leb→le, le→leb}
use Rattle.std.proofs.Math.Decide.{dec_le}
use Rattle.std.proofs.Math.Dec.{leb-suc-suc, leb-zero, leb-suc-zero}
use Rattle.std.proofs.Math.IntN.{+ℤ_idl, suc_ℤ, pred_ℤ, suc_ℤ-+ℤ, pred_ℤ-+ℤ, suc-pred}
use Rattle.std.specs.Int.Signed.{le_z}

-- `le_z` is a total order
pub le_z_refl : (a : ℤ) → T (le_z a a)
le_z_refl (pos a) = le→leb a a (omega arith)
le_z_refl (negsuc a) = le→leb a a (omega arith)

leb_total : (a b : ℕ) → T (leb a b) ⊎ T (leb b a)
leb_total a b = go (dec_le a b)
  where
    go : Dec (a ≤ b) → T (leb a b) ⊎ T (leb b a)
    go (yes l) = inl (le→leb a b l)
    go (no h) = inr (le→leb b a (omega arith))

pub le_z_total : (a b : ℤ) → T (le_z a b) ⊎ T (le_z b a)
le_z_total (pos a) (pos b) = leb_total a b
le_z_total (pos a) (negsuc b) = inr tt
le_z_total (negsuc a) (pos b) = inl tt
le_z_total (negsuc a) (negsuc b) = leb_total b a

pub le_z_trans : (a b c : ℤ) → T (le_z a b) → T (le_z b c) → T (le_z a c)
le_z_trans (pos a) (pos b) (pos c) h k = le→leb a c (omega (arith, leb→le a b h, leb→le b c k))
le_z_trans (pos a) (pos b) (negsuc c) h k = k
le_z_trans (pos a) (negsuc b) c h k = absurd h
le_z_trans (negsuc a) (pos b) (pos c) h k = tt
le_z_trans (negsuc a) (pos b) (negsuc c) h k = absurd k
le_z_trans (negsuc a) (negsuc b) (pos c) h k = tt
le_z_trans (negsuc a) (negsuc b) (negsuc c) h k = le→leb c a (omega (arith, leb→le b a h, leb→le c b k))

pub le_z_antisym : (a b : ℤ) → T (le_z a b) → T (le_z b a) → a ≡ b
le_z_antisym (pos a) (pos b) h k = let e : a ≡ b = omega (arith, leb→le a b h, leb→le b a k) in ap pos e
le_z_antisym (pos a) (negsuc b) h k = absurd h
le_z_antisym (negsuc a) (pos b) h k = absurd k
le_z_antisym (negsuc a) (negsuc b) h k = let e : a ≡ b = omega (arith, leb→le b a h, leb→le a b k) in ap negsuc e

-- adding one number to both sides keeps the order
le_z_suc : (a b : ℤ) → le_z (suc_ℤ a) (suc_ℤ b) ≡ le_z a b
le_z_suc (pos a) (pos b) = leb-suc-suc a b
le_z_suc (pos a) (negsuc zero) = leb-suc-zero a
le_z_suc (pos a) (negsuc (suc b)) = refl
le_z_suc (negsuc zero) (pos b) = leb-zero (suc b)
le_z_suc (negsuc zero) (negsuc zero) = refl
le_z_suc (negsuc zero) (negsuc (suc b)) = sym (leb-suc-zero b)
le_z_suc (negsuc (suc a)) (pos b) = refl
le_z_suc (negsuc (suc a)) (negsuc zero) = sym (leb-zero (suc a))
le_z_suc (negsuc (suc a)) (negsuc (suc b)) = sym (leb-suc-suc b a)

le_z_pred : (a b : ℤ) → le_z (pred_ℤ a) (pred_ℤ b) ≡ le_z a b
le_z_pred a b = sym (le_z_suc (pred_ℤ a) (pred_ℤ b)) ∙ ap₂ le_z (suc-pred a) (suc-pred b)

pub le_z_plus : (k a b : ℤ) → le_z (k +ℤ a) (k +ℤ b) ≡ le_z a b
le_z_plus (pos zero) a b = ap₂ le_z (+ℤ_idl a) (+ℤ_idl b)
le_z_plus (pos (suc n)) a b =
    ap₂ le_z (suc_ℤ-+ℤ (pos n) a) (suc_ℤ-+ℤ (pos n) b) ∙ le_z_suc (pos n +ℤ a) (pos n +ℤ b) ∙ le_z_plus (pos n) a b
le_z_plus (negsuc zero) a b =
    ap₂ le_z (pred_ℤ-+ℤ (pos zero) a) (pred_ℤ-+ℤ (pos zero) b) ∙ le_z_pred (pos zero +ℤ a) (pos zero +ℤ b) ∙ ap₂ le_z (+ℤ_idl a) (+ℤ_idl b)
le_z_plus (negsuc (suc n)) a b =
    ap₂ le_z (pred_ℤ-+ℤ (negsuc n) a) (pred_ℤ-+ℤ (negsuc n) b) ∙ le_z_pred (negsuc n +ℤ a) (negsuc n +ℤ b) ∙ le_z_plus (negsuc n) a b

-- the greater of a and b
abbrev pub max_z : ℤ → ℤ → ℤ
max_z a b = cond (le_z a b) b a

-- what holds of both holds of the greater
pub max_z_both : (P : ℤ → Type 0) (a b : ℤ) → P a → P b → P (max_z a b)
max_z_both P a b x y = go (le_z a b)
  where
    go : (c : Bool) → P (cond c b a)
    go true = y
    go false = x

max_z_cases : (P : ℤ → Type 0) (a b : ℤ) → (T (le_z a b) → P b) → (T (le_z b a) → P a) → P (max_z a b)
max_z_cases P a b f g = go (le_z a b) refl
  where
    go : (c : Bool) → le_z a b ≡ c → P (cond c b a)
    go true e = f (subst T (sym e) tt)
    go false e = g (elim (le_z_total a b) [ inl t ↦ absurd (subst T e t) | inr t ↦ t ])

-- it is the least number that is at least both
pub max_z_left : (a b : ℤ) → T (le_z a (max_z a b))
max_z_left a b = max_z_cases (λ x. T (le_z a x)) a b (λ t. t) (λ t. le_z_refl a)

pub max_z_right : (a b : ℤ) → T (le_z b (max_z a b))
max_z_right a b = max_z_cases (λ x. T (le_z b x)) a b (λ t. le_z_refl b) (λ t. t)

pub max_z_least : (a b c : ℤ) → T (le_z a c) → T (le_z b c) → T (le_z (max_z a b) c)
max_z_least a b c h k = max_z_both (λ x. T (le_z x c)) a b h k

pub max_z_comm : (a b : ℤ) → max_z a b ≡ max_z b a
max_z_comm a b = le_z_antisym _ _ (max_z_least a b _ (max_z_right b a) (max_z_left b a)) (max_z_least b a _ (max_z_right a b) (max_z_left a b))

pub max_z_assoc : (a b c : ℤ) → max_z (max_z a b) c ≡ max_z a (max_z b c)
max_z_assoc a b c = le_z_antisym l r
    (max_z_least (max_z a b) c r
    (max_z_least a b r (max_z_left a (max_z b c)) (le_z_trans b (max_z b c) r (max_z_left b c) (max_z_right a (max_z b c))))
    (le_z_trans c (max_z b c) r (max_z_right b c) (max_z_right a (max_z b c))))
    (max_z_least a (max_z b c) l
    (le_z_trans a (max_z a b) l (max_z_left a b) (max_z_left (max_z a b) c))
    (max_z_least b c l (le_z_trans b (max_z a b) l (max_z_right a b) (max_z_left (max_z a b) c)) (max_z_right (max_z a b) c)))
  where
    l : ℤ
    l = max_z (max_z a b) c

    r : ℤ
    r = max_z a (max_z b c)

pub plus_max_z : (k a b : ℤ) → k +ℤ max_z a b ≡ max_z (k +ℤ a) (k +ℤ b)
plus_max_z k a b = go (le_z a b) ∙ ap (λ (c : Bool). cond c (k +ℤ b) (k +ℤ a)) (sym (le_z_plus k a b))
  where
    go : (c : Bool) → k +ℤ cond c b a ≡ cond c (k +ℤ b) (k +ℤ a)
    go true = refl
    go false = refl
