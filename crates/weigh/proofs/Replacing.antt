-- The invariant of loops that store one entry a turn: so many entries are stored, and the others are as they were.
use Prim.Native.Nat.{ℕ, ◌+◌, ◌-◌, ◌≤◌, ◌<◌}
use mathlib.Core.Path.{◌≡◌, refl, sym, ap, ◌∙◌, subst}
use mathlib.Core.Logic.{◌⊎◌, inl, inr, ◌≢◌}
use mathlib.Core.List.{List, ◌++◌}
use native.Mathlib.Omega.{arith}
use native.Mathlib.Nat.{zero-add}
use native.Mathlib.Decide.{dec_lt}
use lib.ListN.{length, get_or, set, take, drop, replicate, length-set, length-append, length-drop, get_or-append}
use lib.Seq.{get_or-set_same, get_or-set_other, length-take-le, get_or-take, get_or-drop, get_or-append-add, ext_get_or}
use borrow.Rule.Slice.PartMut.{put_mid}
use borrow.Author.Rules.{rules}
use Rattle.std.proofs.lemmas.List.{places}
use Rattle.weigh.specs.Steps.{Replaced}

module _ {A : Type 0} (missing : A) (from : ℕ) (P : ℕ → A → Type 0) (before : List A) where
  pub replaced_none : Replaced missing from 0 P before before
  replaced_none = record { same_length = refl; new = λ q l. absurd (omega arith); others = λ p o. refl }

  pub replaced_more : (k place : ℕ) (x : A) (now : List A) → Replaced missing from k P before now → place ≡ from + k → place < length now → P k x
      → Replaced missing from (k + 1) P before (set now place x)
  replaced_more k place x now so_far here inside h = record {
    same_length = length-set now place x ∙ so_far.same_length;
    new = λ q l. go q l (dec_lt q k);
    others = λ p o. get_or-set_other now place p x missing (outside p o) ∙ so_far.others p (wider p o);
  }
    where
      go : (q : ℕ) → q < k + 1 → Dec (q < k) → P q (get_or (set now place x) (from + q) missing)
      go q l (yes earlier) = rw (get_or-set_other now place (from + q) x missing (λ e. omega arith)) (so_far.new q earlier)
      go q l (no later) =
          let same : k ≡ q = omega arith in
          let there : place ≡ from + q = omega arith in
          subst (λ (i : ℕ). P q (get_or (set now place x) i missing)) there
          (rw (get_or-set_same now place x missing inside) (subst (λ (i : ℕ). P i x) same h))

      outside : (p : ℕ) → (p < from) ⊎ (from + (k + 1) ≤ p) → p ≢ place
      outside p (inl l) e = omega arith
      outside p (inr l) e = omega arith

      wider : (p : ℕ) → (p < from) ⊎ (from + (k + 1) ≤ p) → (p < from) ⊎ (from + k ≤ p)
      wider p (inl l) = inl l
      wider p (inr l) = inr (omega arith)

-- a part that is filled with one value
pub replaced_fill : {A : Type 0} (missing : A) (from n : ℕ) (P : ℕ → A → Type 0) (before filled : List A) (x : A) → from + n ≤ length before
    → filled ≡ replicate (length (take (from + n - from) (drop from before))) x → ((q : ℕ) → q < n → P q x)
    → Replaced missing from n P before (put_mid from (from + n - from) before filled)
replaced_fill missing from n P before filled x fits e h =
    let many : from + n - from ≡ n = omega arith in
    let long : length (take (from + n - from) (drop from before)) ≡ n = rw many (length-take-le n (drop from before) (simp length-drop (omega arith))) in
    rw (e, long, many) record {
      same_length = search (rules, places);
      new = λ q l. let same : get_or (put_mid from n before (replicate n x)) (from + q) missing ≡ x = grind (arith, places) in rw same (h q l);
      others = λ p o. elim o [ inl l ↦ grind (arith, places) | inr l ↦ grind (arith, places) ];
    }

-- entries from the first on
pub replaced_first : {A : Type 0} (missing : A) (count : ℕ) (P : ℕ → A → Type 0) (before after : List A) → Replaced missing 0 count P before after
    → (q : ℕ) → q < count → P q (get_or after q missing)
replaced_first missing count P before after replaced q l = subst (λ (i : ℕ). P q (get_or after i missing)) (zero-add q) (replaced.new q l)

-- one of the entries is stored once more
pub replaced_one : {A : Type 0} (missing : A) (from count : ℕ) (P Q : ℕ → A → Type 0) (before now : List A) (q place : ℕ) (x : A)
    → Replaced missing from count P before now → place ≡ from + q → q < count → place < length now → Q q x
    → ((r : ℕ) (y : A) → r < count → r ≢ q → P r y → Q r y) → Replaced missing from count Q before (set now place x)
replaced_one missing from count P Q before now q place x so_far here l inside h keeps = record {
  same_length = length-set now place x ∙ so_far.same_length;
  new = λ r m. go r m (dec_lt r q) (dec_lt q r);
  others = λ p o. get_or-set_other now place p x missing (outside p o) ∙ so_far.others p o;
}
  where
    apart : (r : ℕ) → r < count → r ≢ q → Q r (get_or (set now place x) (from + r) missing)
    apart r m differ =
        rw (get_or-set_other now place (from + r) x missing (λ e. differ (omega arith))) (keeps r (get_or now (from + r) missing) m differ (so_far.new r m))

    go : (r : ℕ) → r < count → Dec (r < q) → Dec (q < r) → Q r (get_or (set now place x) (from + r) missing)
    go r m (yes less) d = apart r m (λ e. omega arith)
    go r m (no least) (yes more) = apart r m (λ e. omega arith)
    go r m (no least) (no most) =
        let same : q ≡ r = omega arith in
        let there : place ≡ from + r = omega arith in
        subst (λ (i : ℕ). Q r (get_or (set now place x) i missing)) there
        (rw (get_or-set_same now place x missing inside) (subst (λ (i : ℕ). Q i x) same h))

    outside : (p : ℕ) → (p < from) ⊎ (from + count ≤ p) → p ≢ place
    outside p (inl m) e = omega arith
    outside p (inr m) e = omega arith

-- as a list: what stood before the new entries, the new entries, what stood behind them
module _ {A : Type 0} (missing : A) (from count : ℕ) (P : ℕ → A → Type 0) (before after row : List A) (replaced : Replaced missing from count P before after)
    (long : length row ≡ count) (fits : from + count ≤ length before) (same : (q : ℕ) (x : A) → q < count → P q x → x ≡ get_or row q missing) where
  front : length (take from before) ≡ from
  front = length-take-le from before (omega arith)

  new_place : (p : ℕ) → from ≤ p → get_or (take from before ++ (row ++ drop (from + count) before)) p missing ≡ get_or (row ++ drop (from + count) before) (p - from) missing
  new_place p l =
      let here : p ≡ length (take from before) + (p - from) = let e = front in omega arith in
      ap (λ (i : ℕ). get_or (take from before ++ (row ++ drop (from + count) before)) i missing) here ∙ get_or-append-add (take from before) (row ++ drop (from + count) before) (p - from) missing

  pub replaced_list : after ≡ take from before ++ (row ++ drop (from + count) before)
  replaced_list = ext_get_or missing after (take from before ++ (row ++ drop (from + count) before)) lengths (λ p inside. go p inside (dec_lt p from) (dec_lt p (from + count)))
    where
      lengths : length after ≡ length (take from before ++ (row ++ drop (from + count) before))
      lengths =
          let kept = replaced.same_length in
          let e = front in
          simp (length-append, length-drop) (omega arith)

      go : (p : ℕ) → p < length after → Dec (p < from) → Dec (p < from + count)
          → get_or after p missing ≡ get_or (take from before ++ (row ++ drop (from + count) before)) p missing
      go p inside (yes l) d =
          let e = front in
          replaced.others p (inl l) ∙ sym (get_or-append (take from before) (row ++ drop (from + count) before) missing p (omega arith) ∙ get_or-take from before p missing l)
      go p inside (no l) (yes m) =
          let here : p ≡ from + (p - from) = omega arith in
          ap (λ (i : ℕ). get_or after i missing) here ∙ same (p - from) _ (omega arith) (replaced.new (p - from) (omega arith))
          ∙ sym (new_place p (omega arith) ∙ get_or-append row (drop (from + count) before) missing (p - from) (omega arith))
      go p inside (no l) (no m) =
          let here : p - from ≡ length row + (p - (from + count)) = omega arith in
          let there : from + count + (p - (from + count)) ≡ p = omega arith in
          replaced.others p (inr (omega arith))
          ∙ sym (new_place p (omega arith) ∙ ap (λ (i : ℕ). get_or (row ++ drop (from + count) before) i missing) here
          ∙ get_or-append-add row (drop (from + count) before) (p - (from + count)) missing ∙ get_or-drop (from + count) before (p - (from + count)) missing
          ∙ ap (λ (i : ℕ). get_or before i missing) there)
