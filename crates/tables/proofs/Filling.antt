-- The invariant of the loop that reads values into a slice, and what its promise says of the definition of a table.
use Rattle.std.proofs.Common.{ℕ, zero, suc, get_or, arith, ◌+◌, ◌≤◌, ◌<◌, ◌≡◌, refl, sym, ⊎_elim, inl, inr, List, [], ◌∷◌, ◌++◌, length, take, drop, set, append_assoc, append-nil, Result, Ok, Err}
use Rattle.std.proofs.lemmas.List.{take_more_set, take_all, set_split}
use Rattle.answers.specs.declared.Refusal.{Refusal}
use Rattle.numbers.specs.declared.Cursor.{Cursor}
use Rattle.format.specs.Read.{Found, found, after, as_found, many}
use Rattle.tables.specs.Steps.{Finds, ReadEach, ReadAll}

-- i values are read into the slice, one after another: what is read from here on continues them
pub record SoFar {A : Type 0} (read : Cursor → Result (A × Cursor) Refusal → Type 0) (start : Cursor) (slice : List A) (i : ℕ) (at : Cursor) : Type 0 where
  pub continued : (rest : List A) (result : Result Cursor Refusal) → ReadEach read rest at result → ReadEach read (take i slice ++ rest) start result

module _ {A : Type 0} (read : Cursor → Result (A × Cursor) Refusal → Type 0) (start : Cursor) where
  pub so_far_starts : (slice : List A) → SoFar read start slice 0 start
  so_far_starts slice = record { continued = λ rest result h. h }

  module _ (slice : List A) (i : ℕ) (at : Cursor) (f : SoFar read start slice i at) where
    pub so_far_goes_on : (a : A) (next : Cursor) → i < length slice → read at (Ok (a, next)) → SoFar read start (set slice i a) (i + 1) next
    so_far_goes_on a next h e = record {
      continued = λ rest result more. rw (take_more_set slice i a h, append_assoc) (f.continued (a ∷ rest) result (inl (next, e, more)));
    }

    pub so_far_ends : length slice ≤ i → ReadEach read slice start (Ok at)
    so_far_ends h = rw (take_all i slice h, append-nil) at (f.continued [] (Ok at) refl)

    -- what is stored at place i meanwhile does not matter
    pub so_far_refused : (a : A) (refusal : Refusal) (result : Result Cursor Refusal) → i < length slice → read at (Err refusal) → result ≡ Err refusal
        → ReadEach read (set slice i a) start result
    so_far_refused a refusal result h e r = rw (set_split slice i a h) (f.continued (a ∷ drop (suc i) slice) result (inr (refusal, e, r)))

-- numbers read one after another are those that the definition finds, if one number is
module _ (item : ℕ → Found ℕ) (read : Cursor → Result (ℕ × Cursor) Refusal → Type 0) (one : (at : Cursor) (result : Result (ℕ × Cursor) Refusal) → read at result → as_found result ≡ item at.at) where
  behind_one : (n : ℕ) (ns : List ℕ) (x : Found (List ℕ)) (result : Result Cursor Refusal) → Finds x ns result → Finds (after x (λ ms end. found (n ∷ ms) end)) (n ∷ ns) result
  behind_one n ns x (Ok next) e = rw e
  behind_one n ns x (Err refusal) e = rw e

  all_many : (ns : List ℕ) (at : Cursor) (result : Result Cursor Refusal) → ReadEach read ns at result → Finds (many item (length ns) at.at) ns result
  unfolding many
  all_many [] at result e = rw e refl
  all_many (n ∷ ns) at result h =
      ⊎_elim
      (λ (next, e, more). rw (← one at (Ok (n, next)) e) (behind_one n ns (many item (length ns) next.at) result (all_many ns next result more)))
      (λ (refusal, e, r). rw (r, ← one at (Err refusal) e) refl)
      h

  alls_small : (bound : ℕ) → ((at n next : ℕ) → item at ≡ found n next → n ≤ bound) → (ns : List ℕ) (at next : Cursor) → ReadEach read ns at (Ok next)
      → (i : ℕ) → get_or ns i 0 ≤ bound
  alls_small bound small [] at next h i = omega arith
  alls_small bound small (n ∷ ns) at next h zero = ⊎_elim (λ (mid, e, more). small at.at n mid.at (sym (one at (Ok (n, mid)) e))) (λ (refusal, e, r). cc) h
  alls_small bound small (n ∷ ns) at next h (suc i) = ⊎_elim (λ (mid, e, more). alls_small bound small ns mid next more i) (λ (refusal, e, r). cc) h

-- the same, with what is known of one number last
module _ (item : ℕ → Found ℕ) {read : Cursor → Result (ℕ × Cursor) Refusal → Type 0} {ns : List ℕ} {at : Cursor} {result : Result Cursor Refusal} where
  pub all_found : (k : ℕ) → ReadAll read ns at result → length ns ≡ k
      → ((at : Cursor) (result : Result (ℕ × Cursor) Refusal) → read at result → as_found result ≡ item at.at) → Finds (many item k at.at) ns result
  all_found k h long one = rw (← long) (all_many item read one ns at result h.each)

pub all_small : (item : ℕ → Found ℕ) (bound : ℕ) {read : Cursor → Result (ℕ × Cursor) Refusal → Type 0} {ns : List ℕ} {at next : Cursor} → ReadAll read ns at (Ok next)
    → ((at n next : ℕ) → item at ≡ found n next → n ≤ bound) → ((at : Cursor) (result : Result (ℕ × Cursor) Refusal) → read at result → as_found result ≡ item at.at)
    → (i : ℕ) → get_or ns i 0 ≤ bound
all_small item bound {read} {ns} {at} {next} h small one = alls_small item read one bound small ns at next h.each
