-- What the steps of the calls answer.
use Rattle.std.specs.Prelude.{ℕ, ◌≤◌, ◌<◌, ◌≡◌, Result, MatchResult, Option, MatchOption}
use Rattle.answers.specs.declared.Refusal.{Refusal}
use Rattle.answers.specs.declared.Refusal.TheVariants.{NoDirection}
use Rattle.theory.specs.declared.Direction.{Direction}
use Rattle.theory.specs.Direction.{direction}

-- a direction's number is 0 or 1, and no other is one
abbrev pub DirectionAsked : ℕ → Result Direction Refusal → Type 0
DirectionAsked number r = MatchResult r (λ d. (d ≡ direction number) × (number ≤ 1)) (λ refusal. (refusal ≡ NoDirection) × (1 < number))

-- the length needed, if the room is shorter
abbrev pub LengthLacking : ℕ → ℕ → Option ℕ → Type 0
LengthLacking needed room r = MatchOption r (needed ≤ room) (λ n. (n ≡ needed) × (room < needed))
