-- Which states and transitions stand for their blocks.
use Rattle.std.specs.Prelude.{ℕ, ◌<◌, ◌≡◌, Bool, false, List, map, eqb, get_or}
use Rattle.model.specs.Table.{Transition}
use Rattle.theory.specs.Equality.{same_list}
use Rattle.theory.specs.Blocks.{member}
use Rattle.theory.specs.declared.Direction.{Direction}
use Rattle.theory.specs.declared.Direction.TheVariants.{Backward as backward, Forward as forward}

-- the member that stands for a block, from a list with one for each block
abbrev pub name_of : List ℕ → ℕ → ℕ
name_of names D = get_or names D 0

-- the greatest member of each block of n states is named
abbrev pub Greatest : (ℕ → ℕ) → ℕ → List ℕ → Type 0
Greatest b n names = (D : ℕ) → D < 256 → name_of names D ≡ member b n D

-- the list tells of each of 256 states whether it is the named member of its block
abbrev pub NamedBy : (ℕ → ℕ) → (ℕ → ℕ) → List Bool → Type 0
NamedBy b r named = (q : ℕ) → q < 256 → get_or named q false ≡ eqb (r (b q)) q

-- each of the states is the named member of its block
abbrev pub all_named : (ℕ → ℕ) → (ℕ → ℕ) → List ℕ → Bool
all_named b r qs = same_list (map (λ q. r (b q)) qs) qs

-- the transition counts: backward its target is named, forward its children are
abbrev pub counted : (ℕ → ℕ) → (ℕ → ℕ) → Direction → Transition → Bool
counted b r backward t = eqb (r (b t.target)) t.target
counted b r forward t = all_named b r t.children
