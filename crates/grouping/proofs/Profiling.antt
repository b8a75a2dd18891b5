-- Profiles in the regions of their states: filled, added up, and kept while other regions are filled.
use Prim.Native.Nat.{ℕ, suc, ◌+◌, ◌≤◌, ◌<◌}
use mathlib.Core.List.{List, map}
use mathlib.Core.Logic.{◌⊎◌, inl, inr, ◌≢◌}
use mathlib.Core.Path.{◌≡◌, sym, ap, ◌∙◌, subst}
use native.Mathlib.Decide.{ℕ_discrete, dec_lt}
use native.Mathlib.Omega.{arith}
use lib.ListN.{length, get_or, set}
use lib.Seq.{get_or-set_same, get_or-set_other}
use Rattle.theory.specs.declared.Direction.{Direction}
use Rattle.tables.specs.Rows.{Row}
use Rattle.profiles.specs.Entries.{Entry, entries}
use Rattle.profiles.specs.Kept.{Kept, entries_front, entries_back}
use Rattle.profiles.specs.Sums.{sum_at, SummedUp}
use Rattle.profiles.specs.declared.Entries.{Entries}
use Rattle.tables.specs.declared.TableRecord.{TableRecord}
use Rattle.uses.specs.declared.Uses.{Uses}
use Rattle.uses.specs.Lists.{start, starts_ascend}
use Rattle.uses.specs.Tables.{listed_in, ListsUses}
use Rattle.uses.specs.Theory.{row_for}
use Rattle.grouping.specs.Steps.{Filled, Profiled, ProfiledIn, AllProfiledIn, KeptBeside}

-- a filled region that is added up holds a profile
pub profiled : (a lo hi end : ℕ) (es : List Entry) (keys codes keys₁ codes₁ keys₂ codes₂ : List ℕ) → Filled lo hi es keys codes keys₁ codes₁ → SummedUp a lo hi end keys₁ codes₁ keys₂ codes₂
    → Profiled a lo hi end es keys₂ codes₂
profiled a lo hi end es keys codes keys₁ codes₁ keys₂ codes₂ filled up = record {
  above = up.above;
  within = up.within;
  summed = up.summed;
  sums = λ j. up.sums j ∙ ap (λ (fs : List Entry). sum_at a fs j) filled.there;
}

-- a profile stays while a region apart from its own is filled
profiled_kept : (a lo hi f t end : ℕ) (es : List Entry) (keys codes keys' codes' : List ℕ) → Kept lo hi keys keys' → Kept lo hi codes codes' → (t ≤ lo) ⊎ (hi ≤ f)
    → Profiled a f t end es keys codes → Profiled a f t end es keys' codes'
profiled_kept a lo hi f t end es keys codes keys' codes' k c away p = record {
  above = p.above;
  within = p.within;
  summed = rw (same away) p.summed;
  sums = λ j. ap (λ (fs : List Entry). sum_at a fs j) (same away) ∙ p.sums j;
}
  where
    same : (t ≤ lo) ⊎ (hi ≤ f) → entries keys' codes' f end ≡ entries keys codes f end
    same (inl l) = entries_front lo hi keys codes keys' codes' k c f end (omega (arith, p.within))
    same (inr l) = entries_back lo hi keys codes keys' codes' k c f end l

module _ (d : Direction) (t : TableRecord) (u : Uses) (readable : ListsUses d t u) where
  -- the uses of p stand before the end of all lists
  pub starts_inside : (p : ℕ) → p < 256 → (start u.starts p ≤ start u.starts (suc p)) × (start u.starts (suc p) ≤ start u.starts 256) × (start u.starts 256 ≤ 16000)
  starts_inside p l = (readable.ascend p l, starts_ascend d t.ranks t.symbol u.starts u.list readable (suc p) 256 l (omega arith), readable.few)

  pub rows_of : (p : ℕ) → p < 256 → (i : ℕ) → i < start u.starts (suc p) → Row t.ranks t.symbol (row_for d (get_or u.list i 0))
  rows_of p l i h = readable.rows i (omega (arith, (starts_inside p l).1))

  -- regions of different states are apart
  apart : (p q : ℕ) → p < 256 → q < 256 → q ≢ p → (start u.starts (suc q) ≤ start u.starts p) ⊎ (start u.starts (suc p) ≤ start u.starts q)
  apart p q lp lq e = go (dec_lt q p)
    where
      go : Dec (q < p) → (start u.starts (suc q) ≤ start u.starts p) ⊎ (start u.starts (suc p) ≤ start u.starts q)
      go (yes h) = inl (starts_ascend d t.ranks t.symbol u.starts u.list readable (suc q) p h (omega arith))
      go (no h) = inr (starts_ascend d t.ranks t.symbol u.starts u.list readable (suc p) q (omega arith) (omega arith))

  -- one more profile is there, and those before it are still there
  module _ (entry : ℕ → Entry) (a : ℕ) (found : List ℕ) (bytes : (n : ℕ) → get_or found n 0 < 256) (ends : List ℕ) (e e' : Entries) (i end : ℕ)
      (long : length ends ≡ 256) (so_far : AllProfiledIn entry a u i found ends e) where
    abbrev p : ℕ
    p = get_or found i 0

    abbrev At : ℕ → Type 0
    At q = ProfiledIn a u q (get_or (set ends p end) q 0) (map entry (listed_in u q)) e'

    pub profiling_goes_on : ProfiledIn a u p end (map entry (listed_in u p)) e' → KeptBeside u p e.keys e'.keys → KeptBeside u p e.codes e'.codes
        → AllProfiledIn entry a u (i + 1) found (set ends p end) e'
    profiling_goes_on new k c n l = there (ℕ_discrete (get_or found n 0) p) (dec_lt n i)
      where
        here : At p
        here = rw (get_or-set_same ends p end 0 (omega (arith, bytes i))) new

        there : Dec (get_or found n 0 ≡ p) → Dec (n < i) → At (get_or found n 0)
        there (yes same) m = subst At (sym same) here
        there (no other) (yes h) = rw (get_or-set_other ends p (get_or found n 0) end 0 other)
            (profiled_kept a (start u.starts p) (start u.starts (suc p)) _ _ _ _ e.keys e.codes e'.keys e'.codes k c (apart p (get_or found n 0) (bytes i) (bytes n) other) (so_far n h))
        there (no other) (no h) = let last : i ≡ n = omega arith in absurd (other (ap (λ (x : ℕ). get_or found x 0) (sym last)))
