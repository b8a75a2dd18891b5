-- What each step of the grouping leaves in the arrays.
use Rattle.std.specs.Prelude.{ℕ, suc, ◌≤◌, ◌<◌, List, map, ◌≡◌, get_or}
use Rattle.profiles.specs.Entries.{Entry, entries}
use Rattle.profiles.specs.Kept.{Kept}
use Rattle.profiles.specs.Sums.{sum_at, Summed}
use Rattle.profiles.specs.declared.Entries.{Entries}
use Rattle.uses.specs.declared.Uses.{Uses}
use Rattle.uses.specs.Lists.{start, listed}

-- the entries stand in the region lo..hi, and all else is as it was
pub record Filled (lo hi : ℕ) (es : List Entry) (keys codes keys' codes' : List ℕ) : Type 0 where
  pub there : entries keys' codes' lo hi ≡ es
  pub keys_kept : Kept lo hi keys keys'
  pub codes_kept : Kept lo hi codes codes'

-- the entries es, added up, stand from lo to end
pub record Profiled (a lo hi end : ℕ) (es : List Entry) (keys codes : List ℕ) : Type 0 where
  pub above : lo ≤ end
  pub within : end ≤ hi
  pub summed : Summed (entries keys codes lo end)
  pub sums : (j : ℕ) → sum_at a (entries keys codes lo end) j ≡ sum_at a es j

-- the profile of each of the states found is there
abbrev pub AllProfiled : (ℕ → Entry) → ℕ → ℕ → List ℕ → List ℕ → List ℕ → List ℕ → List ℕ → List ℕ → Type 0
AllProfiled entry a many found starts list ends keys codes =
    (i : ℕ) → i < many → Profiled a (start starts (get_or found i 0)) (start starts (suc (get_or found i 0))) (get_or ends (get_or found i 0) 0) (map entry (listed starts list (get_or found i 0))) keys codes

-- the same, said of an index of uses and of lent entries
abbrev pub FilledIn : (lo hi : ℕ) (es : List Entry) (before after : Entries) → Type 0
FilledIn lo hi es before after = Filled lo hi es before.keys before.codes after.keys after.codes

abbrev pub ProfiledIn : (a : ℕ) (u : Uses) (p end : ℕ) (es : List Entry) (e : Entries) → Type 0
ProfiledIn a u p end es e = Profiled a (start u.starts p) (start u.starts (suc p)) end es e.keys e.codes

abbrev pub AllProfiledIn : (entry : ℕ → Entry) (a : ℕ) (u : Uses) (many : ℕ) (found ends : List ℕ) (e : Entries) → Type 0
AllProfiledIn entry a u many found ends e = AllProfiled entry a many found u.starts u.list ends e.keys e.codes

-- an array is as it was outside p's region
abbrev pub KeptBeside : (u : Uses) (p : ℕ) (before after : List ℕ) → Type 0
KeptBeside u p before after = Kept (start u.starts p) (start u.starts (suc p)) before after
