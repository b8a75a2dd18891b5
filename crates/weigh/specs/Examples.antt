-- The promise on document 01's table A and the tree g(a): P4, and what is refused.
use Rattle.std.specs.Prelude.{Result, Ok, ◌≡◌, refl, [], ◌∷◌, pos}
use Rattle.answers.specs.declared.Refusal.TheVariants.{TableEnds, UnknownSymbol, RoomTooShort}
use Rattle.answers.specs.declared.Refusal.{Refusal}
use Rattle.numbers.specs.Read.{number_at, more_from}
use Rattle.format.specs.Examples.{bytes_a}
use Rattle.format.specs.Read.{many, transition_at, transitions_at, table_read}
use Rattle.trees.specs.Read.{nodes_from}
use Rattle.trees.specs.Finished.{finished}
use Rattle.theory.specs.Weight.{weight_at, weight, value}
use Rattle.theory.specs.Sheet.{sheet}
use Rattle.weigh.specs.declared.Weighing.{Weighing}
use Rattle.weigh.specs.Asked.{refused, asked, answered, filled}

abbrev weighed_a : Result Weighing Refusal
weighed_a = Ok (record { nodes = 2; weight = pos 36 })

pub weighings : (answered (asked bytes_a (1 ∷ 0 ∷ []) 6) ≡ weighed_a)
    × (filled (asked bytes_a (1 ∷ 0 ∷ []) 7) (pos 9 ∷ pos 9 ∷ pos 9 ∷ pos 9 ∷ pos 9 ∷ pos 9 ∷ pos 9 ∷ []) ≡ pos 0 ∷ pos 0 ∷ pos 36 ∷ pos 3 ∷ pos 3 ∷ pos 0 ∷ pos 9 ∷ [])
    × (asked bytes_a (1 ∷ 0 ∷ []) 5 ≡ refused (RoomTooShort 6))
    × (asked bytes_a (1 ∷ 2 ∷ []) 0 ≡ refused (UnknownSymbol 1))
    × (asked [] (1 ∷ 2 ∷ []) 0 ≡ refused (TableEnds 0))
unfolding number_at more_from many transition_at transitions_at table_read nodes_from finished weight_at weight value sheet
weighings = (refl, refl, refl, refl, refl)
