-- What holds of each member of a list.
use Rattle.std.specs.Prelude.{◌≡◌, refl, ℕ, zero, suc, ◌<◌, length, get_or, take, drop}
use Rattle.std.proofs.Common.{sym, ap₂, subst, arith}
use mathlib.Core.List.{List, [], ◌∷◌, ◌++◌, map, flat_map, Memᴰ}
use Rattle.model.specs.Table.{Each}

pub each_implies : {A : Type 0} (P Q : A → Type 0) → ((x : A) → P x → Q x) → (xs : List A) → Each P xs → Each Q xs
each_implies P Q h [] m = tt
each_implies P Q h (x ∷ xs) m = (h x m.0, each_implies P Q h xs m.1)

pub each_all : {A : Type 0} (P : A → Type 0) → ((x : A) → P x) → (xs : List A) → Each P xs
each_all P h [] = tt
each_all P h (x ∷ xs) = (h x, each_all P h xs)

pub each_members : {A : Type 0} (P : A → Type 0) (xs : List A) → ((x : A) → Memᴰ x xs → P x) → Each P xs
each_members P [] h = tt
each_members P (x ∷ xs) h = (h x (Memᴰ.head refl), each_members P xs (λ y m. h y (Memᴰ.tail m)))

pub each_member : {A : Type 0} (P : A → Type 0) (xs : List A) → Each P xs → {x : A} → Memᴰ x xs → P x
each_member P [] m x4 = elim x4 [ ]
each_member P (x ∷ xs) m (Memᴰ.head e) = subst P (sym e) m.0
each_member P (x ∷ xs) m (Memᴰ.tail n) = each_member P xs m.1 n

pub each_append : {A : Type 0} (P : A → Type 0) (xs ys : List A) → Each P xs → Each P ys → Each P (xs ++ ys)
each_append P [] ys m n = n
each_append P (x ∷ xs) ys m n = (m.0, each_append P xs ys m.1 n)

pub each_map : {A B : Type 0} (P : B → Type 0) (f : A → B) (xs : List A) → Each (λ x. P (f x)) xs → Each P (map f xs)
each_map P f [] m = tt
each_map P f (x ∷ xs) m = (m.0, each_map P f xs m.1)

pub each-flat_map : {A B : Type 0} (P : B → Type 0) (f : A → List B) (xs : List A) → Each (λ x. Each P (f x)) xs → Each P (flat_map f xs)
unfolding flat_map
each-flat_map P f [] m = tt
each-flat_map P f (x ∷ xs) m = each_append P (f x) (flat_map f xs) m.0 (each-flat_map P f xs m.1)

pub each_take : {A : Type 0} (P : A → Type 0) (i : ℕ) (xs : List A) → Each P xs → Each P (take i xs)
each_take P zero xs m = tt
each_take P (suc i) [] m = tt
each_take P (suc i) (x ∷ xs) m = (m.0, each_take P i xs m.1)

pub each-drop : {A : Type 0} (P : A → Type 0) (i : ℕ) (xs : List A) → Each P xs → Each P (drop i xs)
each-drop P zero xs m = m
each-drop P (suc i) [] m = tt
each-drop P (suc i) (x ∷ xs) m = each-drop P i xs m.1

-- the entry at any place, if what stands for a missing entry will do
pub each-get_or : {A : Type 0} (P : A → Type 0) (xs : List A) (i : ℕ) (d : A) → Each P xs → P d → P (get_or xs i d)
each-get_or P [] i d m h = h
each-get_or P (x ∷ xs) zero d m h = m.0
each-get_or P (x ∷ xs) (suc i) d m h = each-get_or P xs i d m.1 h

pub each_at : {A : Type 0} (P : A → Type 0) (xs : List A) (i : ℕ) (d : A) → Each P xs → i < length xs → P (get_or xs i d)
each_at P [] i d m l = absurd (omega arith)
each_at P (x ∷ xs) zero d m l = m.0
each_at P (x ∷ xs) (suc i) d m l = each_at P xs i d m.1 (omega arith)

pub each_places : {A : Type 0} (P : A → Type 0) (xs : List A) (d : A) → ((i : ℕ) → i < length xs → P (get_or xs i d)) → Each P xs
each_places P [] d h = tt
each_places P (x ∷ xs) d h = (h 0 (omega arith), each_places P xs d (λ i l. h (suc i) (omega arith)))

-- functions that are equal at the members
pub map_each : {A B : Type 0} (P : A → Type 0) (f g : A → B) → ((x : A) → P x → f x ≡ g x) → (xs : List A) → Each P xs → map f xs ≡ map g xs
map_each P f g h [] m = refl
map_each P f g h (x ∷ xs) m = ap₂ ◌∷◌ (h x m.0) (map_each P f g h xs m.1)

-- an entry is a member
pub member_at : {A : Type 0} (xs : List A) (i : ℕ) (d : A) → i < length xs → Memᴰ (get_or xs i d) xs
member_at [] i d l = absurd (omega arith)
member_at (x ∷ xs) zero d l = Memᴰ.head refl
member_at (x ∷ xs) (suc i) d l = Memᴰ.tail (member_at xs i d (omega arith))
