-- A region of entries, filled from a list of uses.
use Prim.Native.Nat.{ℕ, zero, suc, ◌+◌, ◌-◌, ◌≤◌, ◌<◌}
use mathlib.Core.List.{List, ◌∷◌, map}
use mathlib.Core.Path.{◌≡◌, sym, ap, ap₂, ◌∙◌, subst}
use native.Mathlib.Decide.{ℕ_discrete}
use native.Mathlib.Omega.{arith}
use lib.ListN.{length, get_or, set}
use lib.Seq.{get_or-set_same, get_or-set_other, slice, slice_empty, slice-cons}
use Rattle.profiles.specs.Entries.{Entry, entry_at, entries_from, entries}
use Rattle.profiles.specs.Kept.{Kept, kept_self, kept_trans, kept_set}
use Rattle.grouping.specs.Steps.{Filled}

module _ (lo hi : ℕ) (entry : ℕ → Entry) (list keys₀ codes₀ : List ℕ) where
  -- the entries from lo to i stand in their places
  pub record Filling (keys codes : List ℕ) (i : ℕ) : Type 0 where
    pub begin : lo ≤ i
    pub some : i ≤ hi
    pub done : (k : ℕ) → lo ≤ k → k < i → entry_at keys codes k ≡ entry (get_or list k 0)
    pub keys_kept : Kept lo hi keys₀ keys
    pub codes_kept : Kept lo hi codes₀ codes

  pub filling_starts : lo ≤ hi → Filling keys₀ codes₀ lo
  filling_starts ordered = record {
    begin = omega arith;
    some = ordered;
    done = λ k l h. absurd (omega arith);
    keys_kept = kept_self lo hi keys₀;
    codes_kept = kept_self lo hi codes₀;
  }

  module _ (keys_long : length keys₀ ≡ 16000) (codes_long : length codes₀ ≡ 16000) (inside : hi ≤ 16000) (keys codes : List ℕ) (i : ℕ) (so_far : Filling keys codes i) (more : i < hi) where
    long_keys : length keys ≡ 16000
    long_keys = so_far.keys_kept.long ∙ keys_long

    long_codes : length codes ≡ 16000
    long_codes = so_far.codes_kept.long ∙ codes_long

    pub filling_goes_on : (key code : ℕ) → key ≡ (entry (get_or list i 0)).key → code ≡ (entry (get_or list i 0)).code → Filling (set keys i key) (set codes i code) (i + 1)
    filling_goes_on key code k c = record {
      begin = omega (arith, so_far.begin);
      some = omega arith;
      done = λ n l h. done n l h (ℕ_discrete n i);
      keys_kept = kept_trans so_far.keys_kept (kept_set lo hi i key keys so_far.begin more);
      codes_kept = kept_trans so_far.codes_kept (kept_set lo hi i code codes so_far.begin more);
    }
      where
        here : entry_at (set keys i key) (set codes i code) i ≡ entry (get_or list i 0)
        here = λ x. record {
          key = (get_or-set_same keys i key 0 (omega (arith, long_keys, inside)) ∙ k) x;
          code = (get_or-set_same codes i code 0 (omega (arith, long_codes, inside)) ∙ c) x;
        }

        done : (n : ℕ) → lo ≤ n → n < i + 1 → Dec (n ≡ i) → entry_at (set keys i key) (set codes i code) n ≡ entry (get_or list n 0)
        done n l h (yes e) = subst (λ (m : ℕ). entry_at (set keys i key) (set codes i code) m ≡ entry (get_or list m 0)) (sym e) here
        done n l h (no d) = ap₂ (λ (x y : ℕ). entry_of_parts x y) (get_or-set_other keys i n key 0 d) (get_or-set_other codes i n code 0 d) ∙ so_far.done n l (omega arith)
          where
            entry_of_parts : ℕ → ℕ → Entry
            entry_of_parts x y = record { key = x; code = y }

  entries-of : (keys codes : List ℕ) (n f : ℕ) → f + n ≡ hi → hi ≤ length list → ((k : ℕ) → f ≤ k → k < hi → entry_at keys codes k ≡ entry (get_or list k 0))
      → entries_from keys codes f n ≡ map entry (slice f hi list)
  unfolding entries_from
  entries-of keys codes zero f e l h = let z : f ≡ hi = omega arith in rw (z, slice_empty hi list)
  entries-of keys codes (suc n) f e l h =
      ap₂ ◌∷◌ (h f (omega arith) (omega arith)) (entries-of keys codes n (suc f) (omega arith) l (λ k m b. h k (omega arith) b))
      ∙ ap (map entry) (sym (slice-cons f hi list 0 (omega arith) l))

  pub filling_ends : lo ≤ hi → hi ≤ 16000 → length list ≡ 16000 → (keys codes : List ℕ) (i : ℕ) → Filling keys codes i → hi ≤ i → Filled lo hi (map entry (slice lo hi list)) keys₀ codes₀ keys codes
  unfolding entries
  filling_ends ordered inside long keys codes i so_far h = record {
    there = entries-of keys codes (hi - lo) lo (omega arith) (omega arith) (λ k l m. so_far.done k l (omega arith));
    keys_kept = so_far.keys_kept;
    codes_kept = so_far.codes_kept;
  }
