-- Members put into parts by their profiles.
use Rattle.std.specs.Prelude.{ℕ, ◌≤◌, ◌<◌, List, ◌≡◌, get_or, Option, Some, None}
use Rattle.profiles.specs.Entries.{Entry, entries}
use Rattle.profiles.specs.Sums.{sum_at, Summed}
use Rattle.profiles.specs.declared.Entries.{Entries}
use Rattle.uses.specs.declared.Uses.{Uses}
use Rattle.uses.specs.Lists.{start}

-- the entries of p's profile
abbrev pub entries_of : List ℕ → List ℕ → List ℕ → List ℕ → ℕ → List Entry
entries_of starts ends keys codes p = entries keys codes (start starts p) (get_or ends p 0)

-- the same, said of an index of uses and of lent entries
abbrev pub profile_in : Uses → List ℕ → Entries → ℕ → List Entry
profile_in u ends e p = entries_of u.starts ends e.keys e.codes p

-- the profile of p is there, added up
pub record Ready (u : Uses) (ends : List ℕ) (e : Entries) (p : ℕ) : Type 0 where
  pub ordered : start u.starts p ≤ get_or ends p 0
  pub inside : get_or ends p 0 ≤ 16000
  pub summed : Summed (profile_in u ends e p)

-- entries with the same sum for each key
abbrev pub Same : ℕ → List Entry → List Entry → Type 0
Same a es fs = (j : ℕ) → sum_at a es j ≡ sum_at a fs j

-- m is the first of the parts whose leader has p's profile, or their number if there is none
pub record FirstSame (a : ℕ) (profile : ℕ → List Entry) (p parts : ℕ) (leaders : List ℕ) (m : ℕ) : Type 0 where
  pub some : m ≤ parts
  pub same : m < parts → Same a (profile (get_or leaders m 0)) (profile p)
  pub differ : (k : ℕ) → k < m → Same a (profile (get_or leaders k 0)) (profile p) → ⊥

-- the first of the parts whose leader has p's profile, if there is one
abbrev pub PartFound : (a : ℕ) (profile : ℕ → List Entry) (p parts : ℕ) (leaders : List ℕ) → Option ℕ → Type 0
PartFound a profile p parts leaders None = FirstSame a profile p parts leaders parts
PartFound a profile p parts leaders (Some m) = (m < parts) × FirstSame a profile p parts leaders m

-- each of the states found is in one of the parts; two are in the same part exactly if their profiles are the same
pub record Grouped (a : ℕ) (profile : ℕ → List Entry) (many : ℕ) (found : List ℕ) (parts : ℕ) (part : List ℕ) : Type 0 where
  pub few : parts ≤ many
  pub within : (i : ℕ) → i < many → get_or part i 0 < parts
  pub met : (m : ℕ) → m < parts → (i : ℕ) × (i < many) × (get_or part i 0 ≡ m)
  pub together : (i k : ℕ) → i < many → k < many → get_or part i 0 ≡ get_or part k 0 → Same a (profile (get_or found i 0)) (profile (get_or found k 0))
  pub apart : (i k : ℕ) → i < many → k < many → Same a (profile (get_or found i 0)) (profile (get_or found k 0)) → get_or part i 0 ≡ get_or part k 0
