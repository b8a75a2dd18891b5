-- Keys as numbers: the symbol and the blocks of a transition, packed into one.
use Rattle.std.specs.Prelude.{ℕ, zero, suc, ◌+◌, ◌*◌, ◌/◌, ◌%◌, List, [], ◌∷◌, ◌++◌, get_or}
use Rattle.model.specs.Table.{Transition}
use Rattle.profiles.specs.Entries.{Entry}
use Rattle.profiles.specs.Packing.{packed}

-- a key as one number: the symbol stands above 40 bits for the children's blocks and the target's
abbrev pub pack : List ℕ → ℕ
pack [] = 0
pack (σ ∷ Ds) = σ * 1099511627776 + packed 0 Ds

-- the last k numbers of eight bits
abbrev pub digits : ℕ → ℕ → List ℕ
digits zero n = []
digits (suc k) n = digits k (n / 256) ++ (n % 256 ∷ [])

-- the transition that an entry is, over these ranks
abbrev pub transition_of : List ℕ → Entry → Transition
transition_of ranks e =
    record {
      symbol = e.key / 1099511627776;
      children = digits (get_or ranks (e.key / 1099511627776) 0) (e.key / 256);
      target = e.key % 256;
      code = e.code;
    }
