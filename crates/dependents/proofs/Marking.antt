-- Marks on states: nothing that is marked is cleared.
use Prim.Native.Nat.{ℕ, ◌+◌, ◌-◌, ◌≤◌, ◌<◌}
use mathlib.Core.Bool.{Bool, true, false}
use mathlib.Core.List.{List}
use mathlib.Core.Logic.{◌⊎◌, inl, inr}
use mathlib.Core.Path.{◌≡◌, sym, ◌∙◌, subst}
use native.Mathlib.Decide.{ℕ_discrete, dec_lt}
use native.Mathlib.Omega.{arith}
use lib.ListN.{length, get_or, set, take, drop, length-set}
use Rattle.std.proofs.lemmas.List.{get_or-take, get_or-drop}
use lib.Seq.{get_or-set_same, get_or-set_other}
use Rattle.dependents.specs.Marks.{Marked, SomeIn, marking_starts}
use Rattle.partition.specs.Members.{flag}

-- one state is marked
pub marking_one : (dirty : List Bool) (x : ℕ) → length dirty ≡ 256 → x < 256 → Marked (λ q. x ≡ q) dirty (set dirty x true)
marking_one dirty x long l = record {
  kept = λ q e. kept q e (ℕ_discrete q x);
  marked = λ q e. subst (λ (y : ℕ). flag (set dirty x true) y ≡ true) e here;
  long = length-set dirty x true ∙ long;
}
  where
    here : flag (set dirty x true) x ≡ true
    here = get_or-set_same dirty x true false (omega arith)

    kept : (q : ℕ) → flag dirty q ≡ true → Dec (q ≡ x) → flag (set dirty x true) q ≡ true
    kept q e (yes d) = subst (λ (y : ℕ). flag (set dirty x true) y ≡ true) (sym d) here
    kept q e (no d) = get_or-set_other dirty x q true false d ∙ e

-- one step behind the other
pub marking_then : (Q P R : ℕ → Type 0) (before middle after : List Bool) → Marked Q before middle → Marked P middle after → ((q : ℕ) → R q → Q q ⊎ P q) → Marked R before after
marking_then Q P R before middle after first second either = record {
  kept = λ q e. second.kept q (first.kept q e);
  marked = λ q r. elim (either q r) [ inl h ↦ second.kept q (first.marked q h) | inr h ↦ second.marked q h ];
  long = second.long;
}

-- less is asked
pub marking_less : (Q R : ℕ → Type 0) (before after : List Bool) → Marked Q before after → ((q : ℕ) → R q → Q q) → Marked R before after
marking_less Q R before after m h = record { kept = m.kept; marked = λ q r. m.marked q (h q r); long = m.long }

-- an index below k + 1 is below k or is k
pub below_or_last : (P : ℕ → Type 0) (i k : ℕ) → i < k + 1 → P i → (i < k) ⊎ P k
below_or_last P i k l h = go (dec_lt i k)
  where
    go : Dec (i < k) → (i < k) ⊎ P k
    go (yes m) = inl m
    go (no m) = let e : i ≡ k = omega arith in inr (subst P e h)

-- what the numbers from lo to i lead to, and then i
module _ (lo i : ℕ) (L : ℕ → ℕ → Type 0) (before : List Bool) where
  pub marking_none : length before ≡ 256 → i ≤ lo → Marked (λ q. SomeIn lo i (λ x. L x q)) before before
  marking_none long l = marking_starts _ before (λ q h. omega (arith, h.1, h.2)) long

  pub marking_next : (middle after : List Bool) → Marked (λ q. SomeIn lo i (λ x. L x q)) before middle → Marked (L i) middle after → Marked (λ q. SomeIn lo (i + 1) (λ x. L x q)) before after
  marking_next middle after first second =
      marking_then (λ q. SomeIn lo i (λ x. L x q)) (L i) (λ q. SomeIn lo (i + 1) (λ x. L x q)) before middle after first second
      (λ q h. go q h (below_or_last (λ x. L x q) h.0 i h.2 h.3))
    where
      go : (q : ℕ) (h : SomeIn lo (i + 1) (λ x. L x q)) → (h.0 < i) ⊎ L i q → SomeIn lo i (λ x. L x q) ⊎ L i q
      go q h (inl m) = inl (h.0, h.1, m, h.3)
      go q h (inr l) = inr l

  pub marking_skips : (dirty : List Bool) → Marked (λ q. SomeIn lo i (λ x. L x q)) before dirty → ((q : ℕ) → L i q → ⊥) → Marked (λ q. SomeIn lo (i + 1) (λ x. L x q)) before dirty
  marking_skips dirty m none = marking_next dirty dirty m (marking_starts (L i) dirty none m.long)

-- place i of a part is place a + i of the whole
pub item_of_part : (a n i : ℕ) (l : List ℕ) → i < n → get_or (take n (drop a l)) i 0 ≡ get_or l (a + i) 0
item_of_part a n i l h = get_or-take n (drop a l) i 0 h ∙ get_or-drop a l i 0

-- what the numbers of a part of a list lead to
pub marking_part : (a n i : ℕ) (l : List ℕ) (L : ℕ → ℕ → Type 0) (before dirty : List Bool) → length (take n (drop a l)) ≡ n → length (take n (drop a l)) ≤ i
    → Marked (λ q. SomeIn 0 i (λ k. L (get_or (take n (drop a l)) k 0) q)) before dirty → Marked (λ q. SomeIn a (a + n) (λ k. L (get_or l k 0) q)) before dirty
marking_part a n i l L before dirty many all so_far = marking_less _ _ before dirty so_far (λ q h. found q h.0 h.1 h.2 h.3)
  where
    found : (q k : ℕ) → a ≤ k → k < a + n → L (get_or l k 0) q → SomeIn 0 i (λ j. L (get_or (take n (drop a l)) j 0) q)
    found q k g m h =
        let e : a + (k - a) ≡ k = omega arith in
        (k - a, omega arith, omega (arith, many), rw (item_of_part a n (k - a) l (omega arith), e) h)
