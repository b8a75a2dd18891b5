-- What a table lists for a symbol, children and a target.
use Rattle.std.specs.Prelude.{◌≡◌, refl, ◌≢◌, Bool, true, false, cond, ◌&&◌, ℕ, ◌<◌, eqb}
use Rattle.std.proofs.Common.{sym, ap, ◌∙◌, arith, eqb→eq}
use Rattle.std.proofs.Math.Bool.{and_comm}
use mathlib.Core.List.{List, [], ◌∷◌, ◌++◌, map, Memᴰ}
use Rattle.std.proofs.Math.Facts.{and_yes}
use Rattle.model.specs.Table.{Transition, Each, key, Ascending}
use Rattle.model.proofs.Each.{each_implies}
use Rattle.theory.specs.Equality.{numbers, lists, same_list, same_list_equal, same_list_last, equal_same}
use Rattle.theory.specs.Sum.{only, sum_same, only_zero}
use Rattle.theory.specs.Grouping.{key_sum}
use Rattle.theory.specs.Arithmetic.{arithmetic, Weight, meaning}
use Rattle.theory.specs.Weight.{entering, leaving}
use Rattle.theory.specs.Order.{list_order}
use Rattle.theory.specs.Listing.{Rising, listed, listed_member, listed_holds, listings_met, listing_unique}

-- the key of a transition of σ with children qs and target q
abbrev pub key_at : ℕ → List ℕ → ℕ → List ℕ
key_at σ qs q = σ ∷ qs ++ (q ∷ [])

-- the key of a transition's blocks
abbrev pub block_key : (ℕ → ℕ) → Transition → List ℕ
block_key b t = key_at t.symbol (map b t.children) (b t.target)

-- the transition goes between the first n states
abbrev pub Between : ℕ → Transition → Type 0
Between n t = Each (λ q. q < n) t.children × (t.target < n)

-- the code that is listed for a key; 0 where none is
abbrev pub code_at : List Transition → List ℕ → ℕ
code_at [] k = 0
code_at (t ∷ ts) k = cond (same_list (key t) k) t.code (code_at ts k)

pub code_at_listed : (ts : List Transition) (k : List ℕ) → code_at ts k ≡ listed lists list_order key (λ t. t.code) 0 ts k
code_at_listed [] k = refl
code_at_listed (t ∷ ts) k = ap (cond (same_list (key t) k) t.code) (code_at_listed ts k)

-- two keys are the same if their symbols, children and targets are
pub same_key_at : (σ τ : ℕ) (qs rs : List ℕ) (q r : ℕ) → same_list (key_at σ qs q) (key_at τ rs r) ≡ (eqb σ τ && (same_list qs rs && eqb q r))
same_key_at σ τ qs rs q r = ap (◌&&◌ (eqb σ τ)) (same_list_last qs rs q r)

pub key_at_parts : (σ τ : ℕ) (qs rs : List ℕ) (q r : ℕ) → key_at σ qs q ≡ key_at τ rs r → (σ ≡ τ) × (qs ≡ rs) × (q ≡ r)
key_at_parts σ τ qs rs q r e =
    let (s, m) = and_yes (eqb σ τ) (same_list qs rs && eqb q r) (rw (same_key_at σ τ qs rs q r) at (equal_same lists (key_at σ qs q) (key_at τ rs r) e)) in
    let (l, f) = and_yes (same_list qs rs) (eqb q r) m in
    (eqb→eq σ τ s, same_list_equal qs rs l, eqb→eq q r f)

-- the key and the code decide a transition
pub transition_decided : (t u : Transition) → key t ≡ key u → t.code ≡ u.code → t ≡ u
transition_decided t u e f = let p = key_at_parts t.symbol u.symbol t.children u.children t.target u.target e in λ i. record { symbol = p.0 i; children = p.1 i; target = p.2 i; code = f i }

-- ascending transitions have rising keys
pub ascending_rising : (k : List ℕ) (ts : List Transition) → Ascending k ts → Rising lists list_order key (λ t. t.code) 0 k ts
ascending_rising k [] up = tt
ascending_rising k (t ∷ ts) up = (up.0, ascending_rising (key t) ts up.1)

-- a transition's code is listed for its key
pub code_at_own : (ts : List Transition) → Ascending [] ts → {t : Transition} → Memᴰ t ts → code_at ts (key t) ≡ t.code
code_at_own ts up {t} m = code_at_listed ts (key t) ∙ listed_member lists list_order key (λ t. t.code) 0 [] ts (ascending_rising [] ts up) m

-- what holds of each code, and of 0, holds of what is listed
pub code_at_holds : (P : ℕ → Type 0) → P 0 → (ts : List Transition) → Each (λ t. P t.code) ts → (k : List ℕ) → P (code_at ts k)
code_at_holds P z ts m k = rw (code_at_listed ts k) (listed_holds lists list_order key (λ t. t.code) 0 P z ts m k)

-- ascending transitions without the code 0 are decided by what they list for the keys that either list has
pub transitions_unique : (ts us : List Transition) → Ascending [] ts → Ascending [] us → Each (λ t. 0 < t.code) ts → Each (λ t. 0 < t.code) us
    → ((t : Transition) → Memᴰ t ts → code_at ts (key t) ≡ code_at us (key t)) → ((u : Transition) → Memᴰ u us → code_at ts (key u) ≡ code_at us (key u)) → ts ≡ us
transitions_unique ts us up vp m n ht hu = listing_unique lists list_order key (λ t. t.code) 0 transition_decided [] ts us
    (ascending_rising [] ts up) (ascending_rising [] us vp) (nonzero ts m) (nonzero us n) (listings_met lists list_order key (λ t. t.code) 0 ts us (λ t m. as_listed t (ht t m)) (λ u m. as_listed u (hu u m)))
  where
    as_listed : (t : Transition) → code_at ts (key t) ≡ code_at us (key t) → listed lists list_order key (λ t. t.code) 0 ts (key t) ≡ listed lists list_order key (λ t. t.code) 0 us (key t)
    as_listed t e = sym (code_at_listed ts (key t)) ∙ e ∙ code_at_listed us (key t)

    nonzero : (vs : List Transition) → Each (λ t. 0 < t.code) vs → Each (λ t. t.code ≢ 0) vs
    nonzero vs h = each_implies (λ t. 0 < t.code) (λ t. t.code ≢ 0) (λ t l e. omega arith) vs h

-- The codes, read in arithmetic a.
module _ (a : ℕ) where
  -- the summed weights of the transitions with a key
  abbrev pub weight_at_key : List Transition → List ℕ → Weight a
  weight_at_key ts k = key_sum (arithmetic a) lists ts key (λ t. meaning a t.code) k

  only_three : (s l e : Bool) (w : Weight a) → only (arithmetic a) l (only (arithmetic a) (s && e) w) ≡ only (arithmetic a) (s && (l && e)) w
  only_three true true e w = refl
  only_three true false e w = refl
  only_three false l e w = only_zero (arithmetic a) l

  -- the summed weights of σ's transitions with target q for the children qs
  pub entering_key_sum : (ts : List Transition) (σ : ℕ) (qs : List ℕ) (q : ℕ) → key_sum (arithmetic a) lists ts (λ t. t.children) (entering a σ q) qs ≡ weight_at_key ts (key_at σ qs q)
  entering_key_sum ts σ qs q = sum_same (arithmetic a) ts _ _ (λ t. only_three (eqb t.symbol σ) (same_list t.children qs) (eqb t.target q) (meaning a t.code)
      ∙ ap (λ (c : Bool). only (arithmetic a) c (meaning a t.code)) (sym (same_key_at t.symbol σ t.children qs t.target q)))

  -- the summed weights of σ's transitions with children qs for the target q
  pub leaving_key_sum : (ts : List Transition) (σ : ℕ) (qs : List ℕ) (q : ℕ) → key_sum (arithmetic a) numbers ts (λ t. t.target) (leaving a σ qs) q ≡ weight_at_key ts (key_at σ qs q)
  leaving_key_sum ts σ qs q = sum_same (arithmetic a) ts _ _ (λ t. only_three (eqb t.symbol σ) (eqb t.target q) (same_list t.children qs) (meaning a t.code)
      ∙ ap (λ (c : Bool). only (arithmetic a) (eqb t.symbol σ && c) (meaning a t.code)) (and_comm (eqb t.target q) (same_list t.children qs))
      ∙ ap (λ (c : Bool). only (arithmetic a) c (meaning a t.code)) (sym (same_key_at t.symbol σ t.children qs t.target q)))
