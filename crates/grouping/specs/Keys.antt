-- The key of a use under blocks, packed into one number.
use Rattle.std.specs.Prelude.{ℕ, ◌+◌, ◌*◌, ◌/◌, ◌%◌, List, [], ◌∷◌, map, get_or, take, drop}
use Rattle.theory.specs.declared.Direction.{Direction}
use Rattle.theory.specs.declared.Direction.TheVariants.{Backward as backward, Forward as forward}
use Rattle.theory.specs.Profile.{Key}
use Rattle.theory.specs.Uses.{others}
use Rattle.profiles.specs.Entries.{Entry}
use Rattle.profiles.specs.Packing.{packed}
use Rattle.tables.specs.declared.TableRecord.{TableRecord}
use Rattle.uses.specs.Theory.{row_for}

-- the first fixed number, a symbol (there are at most 128), stands above 40 bits for what follows; the second, a place, above the symbol
abbrev pub pack_all : List ℕ → List ℕ → ℕ
pack_all [] Ds = 0
pack_all (σ ∷ []) Ds = σ * 1099511627776 + packed 0 Ds
pack_all (σ ∷ k ∷ fixed) Ds = (k * 128 + σ) * 1099511627776 + packed (packed 0 fixed) Ds

abbrev pub pack : Key → ℕ
pack k = pack_all k.0 k.1

-- the children of transition j
abbrev pub children_of : List ℕ → List ℕ → List ℕ → ℕ → List ℕ
children_of ranks symbol children j = take (get_or ranks (get_or symbol j 0) 0) (drop (j * 4) children)

-- the key of the use u under the blocks b: backward the symbol and the children's blocks; forward the symbol, the place, the other
-- children and the target's block
abbrev pub key_in : Direction → List ℕ → List ℕ → List ℕ → List ℕ → (ℕ → ℕ) → ℕ → Key
key_in backward ranks symbol children target b u = (get_or symbol u 0 ∷ [], map b (children_of ranks symbol children u))
key_in forward ranks symbol children target b u =
    (get_or symbol (u / 4) 0 ∷ u % 4 ∷ others (u % 4) (children_of ranks symbol children (u / 4)), b (get_or target (u / 4) 0) ∷ [])

-- the entry of the use u: its key under the blocks b and its transition's code
abbrev pub entry_of : Direction → List ℕ → List ℕ → List ℕ → List ℕ → List ℕ → (ℕ → ℕ) → ℕ → Entry
entry_of d ranks symbol children target code b u =
    record { key = pack (key_in d ranks symbol children target b u); code = get_or code (row_for d u) 0 }

-- the packed key, and the entry, of a use of a table's transitions
abbrev pub key_under : Direction → TableRecord → (ℕ → ℕ) → ℕ → ℕ
key_under d t b u = pack (key_in d t.ranks t.symbol t.children t.target b u)

abbrev pub entry_in : Direction → TableRecord → (ℕ → ℕ) → ℕ → Entry
entry_in d t b u = entry_of d t.ranks t.symbol t.children t.target t.code b u
