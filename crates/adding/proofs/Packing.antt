-- Keys packed into one number, and taken apart again.
use Prim.Native.Nat.{ℕ, suc, ◌+◌, ◌*◌, ◌/◌, ◌%◌, ◌≤◌, ◌<◌}
use mathlib.Core.Path.{◌≡◌, sym, ap, ◌∙◌}
use mathlib.Core.List.{List, [], ◌∷◌, ◌++◌, append_assoc, append-nil}
use native.Mathlib.Omega.{arith}
use native.Mathlib.Nat.{add-zero, zero-add}
use lib.ListN.{length, get_or}
use Rattle.model.specs.Table.{Transition, Each, key}
use Rattle.profiles.specs.Packing.{packed, packed_append, packed_few}
use Rattle.adding.specs.Keys.{pack, digits, transition_of}

-- what stands above four numbers of eight bits can stand right before fewer
packed_above : (σ : ℕ) (xs : List ℕ) → length xs ≤ 4 → (m : ℕ) × (σ * 4294967296 + packed 0 xs ≡ packed m xs)
packed_above σ [] h = (σ * 4294967296, omega arith)
packed_above σ (a ∷ []) h = (σ * 16777216, omega arith)
packed_above σ (a ∷ b ∷ []) h = (σ * 65536, omega arith)
packed_above σ (a ∷ b ∷ c ∷ []) h = (σ * 256, omega arith)
packed_above σ (a ∷ b ∷ c ∷ d ∷ []) h = (σ, omega arith)
packed_above σ (a ∷ b ∷ c ∷ d ∷ e ∷ xs) h = absurd (omega arith)

digits_behind : (k n : ℕ) (xs : List ℕ) → Each (λ x. x < 256) xs → digits (k + length xs) (packed n xs) ≡ digits k n ++ xs
digits_behind k n [] b = rw (add-zero k, append-nil)
digits_behind k n (x ∷ xs) b =
    let small = b.0 in
    let e : k + suc (length xs) ≡ suc k + length xs = omega arith in
    let whole : (n * 256 + x) / 256 ≡ n = omega arith in
    let last : (n * 256 + x) % 256 ≡ x = omega arith in
    rw e (digits_behind (suc k) (n * 256 + x) xs b.1 ∙ rw (whole, last) (append_assoc (digits k n) (x ∷ []) xs))

digits_packed : (σ : ℕ) (xs : List ℕ) → Each (λ x. x < 256) xs → length xs ≤ 4 → digits (length xs) (σ * 4294967296 + packed 0 xs) ≡ xs
digits_packed σ xs b few =
    let (m, e) = packed_above σ xs few in
    rw e (ap (λ (k : ℕ). digits k (packed m xs)) (sym (zero-add (length xs))) ∙ digits_behind 0 m xs b)

-- the transition's key has a place for each of its numbers
pub record Packable (ranks : List ℕ) (t : Transition) : Type 0 where
  pub symbol_known : t.symbol < 128
  pub children_many : length t.children ≡ get_or ranks t.symbol 0
  pub rank_small : get_or ranks t.symbol 0 ≤ 4
  pub children_bytes : Each (λ D. D < 256) t.children
  pub target_byte : t.target < 256

module _ (ranks : List ℕ) (t : Transition) (fits : Packable ranks t) where
  few_children : length t.children ≤ 4
  few_children = omega (arith, fits.children_many, fits.rank_small)

  pack_parts : pack (key t) ≡ t.symbol * 1099511627776 + (packed 0 t.children * 256 + t.target)
  pack_parts = ap (λ (n : ℕ). t.symbol * 1099511627776 + n) (packed_append 0 t.children (t.target ∷ []))

  pub pack_symbol : pack (key t) / 1099511627776 ≡ t.symbol
  pack_symbol = omega (arith, pack_parts, packed_few 4 t.children fits.children_bytes few_children, fits.target_byte)

  pack_children : pack (key t) / 256 ≡ t.symbol * 4294967296 + packed 0 t.children
  pack_children = omega (arith, pack_parts, fits.target_byte)

  pack_target : pack (key t) % 256 ≡ t.target
  pack_target = omega (arith, pack_parts, fits.target_byte)

  -- a packed key, taken apart, is the key
  pub pack_unpacked : (code : ℕ) → transition_of ranks (record { key = pack (key t); code = code })
      ≡ record { symbol = t.symbol; children = t.children; target = t.target; code = code }
  pack_unpacked code =
      let children : digits (get_or ranks (pack (key t) / 1099511627776) 0) (pack (key t) / 256) ≡ t.children =
      rw (pack_symbol, ← fits.children_many, pack_children) (digits_packed t.symbol t.children fits.children_bytes few_children) in
      λ i. record { symbol = pack_symbol i; children = children i; target = pack_target i; code = code }
