-- Splits, one after the other: what holds after each, and that they come to an end.
use Prim.Native.Nat.{ℕ, zero, suc, ◌+◌, ◌-◌, ◌*◌, ◌≤◌, ◌<◌}
use mathlib.Core.Bool.{Bool, true, false, cond}
use mathlib.Core.List.{List}
use mathlib.Core.Logic.{◌⊎◌, inl, inr}
use mathlib.Core.Path.{◌≡◌, subst}
use native.Mathlib.Nat.{mul-le-mul_right, suc-mul}
use native.Mathlib.Omega.{arith}
use lib.ListN.{length, length-replicate}
use Rattle.theory.specs.Blocks.{block_of, blocks_few}
use Rattle.profiles.specs.Entries.{Entry}
use Rattle.partition.specs.Members.{flag, dirty_count}
use Rattle.partition.specs.Numbering.{Numbered}
use Rattle.refine.specs.Splits.{SplitUp, Splits, none, another}

module _ {a n number : ℕ} {profile : (ℕ → ℕ) → ℕ → List Entry} {Depend : ℕ → ℕ → Type 0} {start : List ℕ} where
  pub splits_numbered : {blocks : List ℕ} {dirty : List Bool} {total : ℕ} → Numbered n start number → Splits a profile Depend n start number blocks dirty total → Numbered n blocks total
  splits_numbered begun none = begun
  splits_numbered begun (another splits split) = split.numbered

  pub splits_long : {blocks : List ℕ} {dirty : List Bool} {total : ℕ} → Splits a profile Depend n start number blocks dirty total → length dirty ≡ 256
  splits_long none = length-replicate {A = Bool} 256 true
  splits_long (another splits split) = split.dirty_long

dirty_few : (dirty : List Bool) (n : ℕ) → dirty_count dirty n ≤ n
unfolding dirty_count
dirty_few dirty zero = omega arith
dirty_few dirty (suc n) = go (flag dirty n) (dirty_few dirty n)
  where
    go : (c : Bool) → dirty_count dirty n ≤ n → cond c (suc (dirty_count dirty n)) (dirty_count dirty n) ≤ suc n
    go true h = omega arith
    go false h = omega arith

-- what falls with each split
abbrev pub measure : ℕ → ℕ → List Bool → ℕ
measure n total dirty = (n - total) * (n + 1) + dirty_count dirty n

fewer : (n t t' : ℕ) → t < t' → t' ≤ n → (n - t') * (n + 1) + (n + 1) ≤ (n - t) * (n + 1)
fewer n t t' l h =
    let more : suc (n - t') ≤ n - t = omega arith in
    let e : suc (n - t') * (n + 1) ≡ (n - t') * (n + 1) + (n + 1) = suc-mul (n - t') (n + 1) in
    subst (λ (x : ℕ). x ≤ (n - t) * (n + 1)) e (mul-le-mul_right (n + 1) more)

pub split_less : {a n D total total' : ℕ} {profile : ℕ → List Entry} {Depend : ℕ → ℕ → Type 0} {blocks blocks' : List ℕ} {dirty dirty' : List Bool}
    → SplitUp a profile Depend n D blocks dirty total blocks' dirty' total' → measure n total' dirty' < measure n total dirty
split_less {n = n} {total = total} {total' = total'} {blocks' = blocks'} {dirty = dirty} {dirty' = dirty'} split = go split.progress
  where
    few : total' ≤ n
    few = blocks_few n (block_of blocks') total' split.numbered.used

    go : (total < total') ⊎ ((total' ≡ total) × (dirty_count dirty' n < dirty_count dirty n)) → measure n total' dirty' < measure n total dirty
    go (inl l) = omega (arith, fewer n total total' l few, dirty_few dirty' n)
    go (inr e) = rw e.0 (omega (arith, e.1))
