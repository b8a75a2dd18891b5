-- Going on behind what was found, in two steps or in one.
use Rattle.std.specs.Prelude.{ℕ, Bool, true, false, ◌≡◌, refl}
use Rattle.answers.specs.declared.Refusal.{Refusal}
use Rattle.format.specs.Read.{Found, found, refused, after, provided}

pub after_after : {A B C : Type 0} (x : Found A) (f : A → ℕ → Found B) (g : B → ℕ → Found C) → after (after x f) g ≡ after x (λ a next. after (f a next) g)
after_after (found a next) f g = refl
after_after (refused refusal) f g = refl

pub after_provided : {A B : Type 0} (test : Bool) (refusal : Refusal) (x : Found A) (g : A → ℕ → Found B) → after (provided test refusal x) g ≡ provided test refusal (after x g)
after_provided true refusal x g = refl
after_provided false refusal x g = refl
