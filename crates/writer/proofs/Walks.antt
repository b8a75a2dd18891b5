-- A walk over numbers: what a sink took so far, and the numbers that are left.
use Rattle.std.proofs.Common.{◌≡◌, ℕ, ◌+◌, ◌<◌, ◌≤◌, List, [], ◌∷◌, ◌++◌, length, get_or, drop, refl, sym, ◌∙◌, subst, append_assoc, append-nil, add-one, drop-cons, drop_of_length-le}
use Rattle.writer.specs.Sinks.{SinkLaws}

-- from its start on, the sink took numbers which, with those that are left, are all
pub record Walked {S : Type 0} (took : S → List ℕ → S → Type 0) (all : List ℕ) (start now : S) (left : List ℕ) : Type 0 where
  pub done : List ℕ
  pub taken : took start done now
  pub whole : done ++ left ≡ all

module _ {S : Type 0} {took : S → List ℕ → S → Type 0} {fits : S → List ℕ → Type 0} (laws : SinkLaws took fits) where
  pub walk_starts : (all : List ℕ) (start : S) → Walked took all start start all
  walk_starts all start = record { done = []; taken = laws.none start; whole = refl }

  module _ {all : List ℕ} {start now : S} where
    -- the next numbers find room
    pub walk_fits : (some left : List ℕ) → Walked took all start now (some ++ left) → fits start all → fits now some
    walk_fits some left w h =
        laws.first now some left (laws.others start now w.done (some ++ left) w.taken (subst (fits start) (sym w.whole) h))

    -- and are taken
    pub walk_goes_on : (some left : List ℕ) → Walked took all start now (some ++ left) → {next : S} → took now some next → Walked took all start next left
    walk_goes_on some left w {next} t =
        record {
          done = w.done ++ some;
          taken = laws.both start now next w.done some w.taken t;
          whole = append_assoc w.done some left ∙ w.whole;
        }

    -- one number
    pub next_fits : {n : ℕ} {left : List ℕ} → Walked took all start now (n ∷ left) → fits start all → fits now (n ∷ [])
    next_fits {n} {left} w h = walk_fits (n ∷ []) left w h

    pub next_taken : {n : ℕ} {left : List ℕ} → Walked took all start now (n ∷ left) → {next : S} → took now (n ∷ []) next → Walked took all start next left
    next_taken {n} {left} w t = walk_goes_on (n ∷ []) left w t

    -- the next of the items of a loop
    pub items_open : (items left : List ℕ) (i : ℕ) → i < length items → Walked took all start now (drop i items ++ left)
        → Walked took all start now (get_or items i 0 ∷ (drop (i + 1) items ++ left))
    items_open items left i h w =
        let e : drop i items ≡ get_or items i 0 ∷ drop (i + 1) items = rw (add-one, drop-cons items i 0) in
        subst (λ (l : List ℕ). Walked took all start now (l ++ left)) e w

    -- none is left
    pub items_close : (items left : List ℕ) (i : ℕ) → length items ≤ i → Walked took all start now (drop i items ++ left) → Walked took all start now left
    items_close items left i h w =
        let e : drop i items ≡ [] = drop_of_length-le items {i = i} h in
        subst (λ (l : List ℕ). Walked took all start now (l ++ left)) e w

    pub walk_ends : Walked took all start now [] → took start all now
    walk_ends w = subst (λ (l : List ℕ). took start l now) (sym (append-nil w.done) ∙ w.whole) w.taken
