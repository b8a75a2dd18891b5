-- Transitions: what is found are the proper transitions, ascending, whose numbers stand there.
use Prim.Native.Nat.{ℕ, zero, suc, ◌≤◌, ◌<◌, ◌^◌}
use Rattle.std.specs.Prelude.{◌≡◌, refl, length, get_or}
use Rattle.std.proofs.Math.Path.{ap}
use mathlib.Core.List.{List, [], ◌∷◌, ◌++◌}
use Rattle.std.proofs.Common.{arith}
use Rattle.answers.specs.declared.Refusal.TheVariants.{NotAbove}
use Rattle.model.specs.Table.{Transition, Each, key, lower, Ascending, ProperTransition}
use Rattle.format.specs.Read.{found, one_of, listed, many, transition_at, transitions_at}
use Rattle.format.specs.Written.{transition_numbers, transitions_numbers}
use Rattle.roundtrip.specs.Sequences.{Reads, reads_append, reads_split}
use Rattle.roundtrip.specs.Readers.{Reader, itself, found_same, found_behind, found_under, go_on, go_on_under, one_of_reader, listed_reader, many_reader}

-- so many proper transitions, each above the one before, the first above `before`
abbrev pub Ascent : List ℕ → ℕ → ℕ → List ℕ → List Transition → Type 0
Ascent ranks states k before ts = (length ts ≡ k) × Each (ProperTransition ranks states) ts × Ascending before ts

module _ (s : List ℕ) (small : (i : ℕ) → get_or s i 0 < 256) (ranks : List ℕ) (states : ℕ) (symbols_few : length ranks ≤ 2 ^ 32) (states_few : states ≤ 2 ^ 32) where
  symbol_reader : Reader s (λ n. n < length ranks) itself (one_of s (length ranks))
  symbol_reader = one_of_reader s small (length ranks) symbols_few

  state_reader : Reader s (λ n. n < states) itself (one_of s states)
  state_reader = one_of_reader s small states states_few

  children_reader : (k : ℕ) → Reader s (λ ns. (length ns ≡ k) × Each (λ n. n < states) ns) (λ ns. ns) (many (one_of s states) k)
  children_reader k = many_reader s (λ n. n < states) (one_of s states) state_reader k

  transition_sound : (at : ℕ) (t : Transition) (p : ℕ) → transition_at s ranks states at ≡ found t p → ProperTransition ranks states t × Reads s at (transition_numbers t) p
  unfolding transition_at
  transition_sound at t p e =
      found_behind (one_of s (length ranks) at) _ e λ symbol at₁ e₁ r₁.
      found_behind (many (one_of s states) (get_or ranks symbol 0) at₁) _ r₁ λ children at₂ e₂ r₂.
      found_behind (one_of s states at₂) _ r₂ λ target at₃ e₃ r₃.
      found_behind (listed s at₃) _ r₃ λ code next e₄ r₄.
      found_same (λ t end. ProperTransition ranks states t × Reads s at (transition_numbers t) end) r₄
      (let (symbol_known, reads₁) = symbol_reader.sound at symbol at₁ e₁ in
      let (children_known, reads₂) = (children_reader (get_or ranks symbol 0)).sound at₁ children at₂ e₂ in
      let (target_known, reads₃) = state_reader.sound at₂ target at₃ e₃ in
      let (code-known, reads₄) = (listed_reader s small).sound at₃ code next e₄ in (
        record {
          symbol_known = symbol_known;
          children_many = children_known.0;
          children_known = children_known.1;
          target_known = target_known;
          code_positive = code-known.0;
          code_fits = code-known.1;
        },
        reads_append s (itself symbol) (children ++ (target ∷ code ∷ [])) at at₁ next reads₁
            (reads_append s children (target ∷ code ∷ []) at₁ at₂ next reads₂
            (reads_append s (itself target) (itself code) at₂ at₃ next reads₃ reads₄)),
      ))

  transition_complete : (at : ℕ) (t : Transition) (p : ℕ) → ProperTransition ranks states t → Reads s at (transition_numbers t) p → transition_at s ranks states at ≡ found t p
  unfolding transition_at
  transition_complete at t p h reads =
      reads_split s (itself t.symbol) (t.children ++ (t.target ∷ t.code ∷ [])) at p reads λ at₁ reads₁ behind₁.
      reads_split s t.children (t.target ∷ t.code ∷ []) at₁ p behind₁ λ at₂ reads₂ behind₂.
      reads_split s (itself t.target) (itself t.code) at₂ p behind₂ λ at₃ reads₃ reads₄.
      go_on (one_of s (length ranks) at) _ (symbol_reader.complete at t.symbol at₁ h.symbol_known reads₁)
      (go_on (many (one_of s states) (get_or ranks t.symbol 0) at₁) _
      ((children_reader (get_or ranks t.symbol 0)).complete at₁ t.children at₂ (h.children_many, h.children_known) reads₂)
      (go_on (one_of s states at₂) _ (state_reader.complete at₂ t.target at₃ h.target_known reads₃)
      (go_on (listed s at₃) _ ((listed_reader s small).complete at₃ t.code p (h.code_positive, h.code_fits) reads₄) refl)))

  -- a proper transition
  pub transition_reader : Reader s (ProperTransition ranks states) transition_numbers (transition_at s ranks states)
  transition_reader = record { sound = transition_sound; complete = transition_complete }

  transitions_sound : (k : ℕ) (before : List ℕ) (at : ℕ) (ts : List Transition) (p : ℕ) → transitions_at s ranks states k before at ≡ found ts p
      → Ascent ranks states k before ts × Reads s at (transitions_numbers ts) p
  unfolding transitions_at
  transitions_sound zero before at ts p e = found_same (λ ts end. Ascent ranks states 0 before ts × Reads s at (transitions_numbers ts) end) e ((refl, tt, tt), refl)
  transitions_sound (suc k) before at ts p e =
      found_behind (transition_at s ranks states at) _ e λ t next e₁ r₁.
      found_under (lower before (key t)) (NotAbove at) _ r₁ λ above r₂.
      found_behind (transitions_at s ranks states k (key t) next) _ r₂ λ us end e₂ r₃.
      found_same (λ ts end. Ascent ranks states (suc k) before ts × Reads s at (transitions_numbers ts) end) r₃
      (let (proper, here) = transition_sound at t next e₁ in
      let (ascent, there) = transitions_sound k (key t) next us end e₂ in
      ((ap suc ascent.0, (proper, ascent.1), (above, ascent.2)), reads_append s (transition_numbers t) (transitions_numbers us) at next end here there))

  transitions_complete : (k : ℕ) (before : List ℕ) (at : ℕ) (ts : List Transition) (p : ℕ) → Ascent ranks states k before ts → Reads s at (transitions_numbers ts) p
      → transitions_at s ranks states k before at ≡ found ts p
  unfolding transitions_at
  transitions_complete zero before at [] p h reads = ap (found []) reads
  transitions_complete zero before at (t ∷ ts) p h reads = absurd (omega (arith, h.0))
  transitions_complete (suc k) before at [] p h reads = absurd (omega (arith, h.0))
  transitions_complete (suc k) before at (t ∷ ts) p h reads =
      reads_split s (transition_numbers t) (transitions_numbers ts) at p reads λ next here there.
      go_on (transition_at s ranks states at) _ (transition_complete at t next h.1.0 here)
      (go_on_under (lower before (key t)) (NotAbove at) _ h.2.0
      (go_on (transitions_at s ranks states k (key t) next) _ (transitions_complete k (key t) next ts p (omega (arith, h.0), h.1.1, h.2.1) there) refl))

  -- so many proper transitions, ascending
  pub transitions_reader : (k : ℕ) (before : List ℕ) → Reader s (Ascent ranks states k before) transitions_numbers (transitions_at s ranks states k before)
  transitions_reader k before = record { sound = transitions_sound k before; complete = transitions_complete k before }
