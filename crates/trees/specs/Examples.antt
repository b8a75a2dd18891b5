-- The definition on small trees and at its limit, over 01's two symbols: a = 0 of rank 0, g = 1 of rank 1.
use Rattle.std.specs.Prelude.{Ok, Err, ℕ, ◌≡◌, refl, List, [], ◌∷◌, ◌++◌, replicate}
use Rattle.answers.specs.declared.Refusal.TheVariants.{TreeEnds, UnknownSymbol, TreeGoesOn, TreeTooLong}
use Rattle.trees.specs.Read.{TreeRead, nodes_from, tree_read}

-- so many g, one below the other, and then these bytes
abbrev below : ℕ → List ℕ → List ℕ
below k bytes = replicate k 1 ++ bytes

abbrev reads : List ℕ → TreeRead
reads bytes = tree_read (0 ∷ 1 ∷ []) bytes

trees_read : (reads (1 ∷ 0 ∷ []) ≡ Ok 2)
    × (reads [] ≡ Err (TreeEnds 0))
    × (reads (1 ∷ []) ≡ Err (TreeEnds 1))
    × (reads (1 ∷ 2 ∷ []) ≡ Err (UnknownSymbol 1))
    × (reads (1 ∷ 0 ∷ 2 ∷ []) ≡ Err (TreeGoesOn 2))
    × (reads (below 4095 (0 ∷ [])) ≡ Ok 4096)
    × (reads (below 4095 (0 ∷ 0 ∷ [])) ≡ Err (TreeGoesOn 4096))
    × (reads (below 4096 []) ≡ Err (TreeEnds 4096))
    × (reads (below 4096 (2 ∷ [])) ≡ Err TreeTooLong)
unfolding nodes_from
trees_read = (refl, refl, refl, refl, refl, refl, refl, refl, refl)
