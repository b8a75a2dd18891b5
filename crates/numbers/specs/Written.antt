-- How a number is written (document 01, "Bytes").
use Rattle.std.specs.Prelude.{ℕ, zero, suc, ◌+◌, ◌/◌, ◌%◌, true, false, List, [], ◌∷◌, ◌++◌, ltb}

-- groups of seven bits, lowest first, the top bit set on every byte but the last; at most g more bytes after this one
unfoldable pub groups : ℕ → ℕ → List ℕ
groups zero n = n ∷ []
groups (suc g) n = elim (ltb n 128) [ true ↦ n ∷ [] | false ↦ (128 + n % 128) ∷ groups g (n / 128) ]

-- a number up to 4,294,967,295 in the fewest bytes
abbrev pub written : ℕ → List ℕ
written n = groups 4 n

-- numbers, one after another
abbrev pub written_all : List ℕ → List ℕ
written_all [] = []
written_all (n ∷ ns) = written n ++ written_all ns
