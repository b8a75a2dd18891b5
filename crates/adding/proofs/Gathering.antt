-- The loop that makes an entry of each transition that counts.
use Prim.Native.Nat.{ℕ, suc, ◌+◌, ◌-◌, ◌≤◌, ◌<◌}
use mathlib.Core.Path.{◌≡◌, sym, ap, ap₂, ◌∙◌}
use mathlib.Core.Bool.{Bool, true, false, cond}
use mathlib.Core.List.{List, [], ◌∷◌, ◌++◌, append-nil}
use native.Mathlib.Omega.{arith}
use native.Mathlib.Nat.{sub-zero}
use native.Mathlib.Numerals.{add-one}
use lib.ListN.{length, set, length-set}
use lib.Seq.{append_snoc}
use Rattle.theory.specs.declared.Direction.{Direction}
use Rattle.tables.specs.Record.{Columns, row_at, rows_from}
use Rattle.profiles.specs.Entries.{Entry, entries, entries_none}
use Rattle.profiles.specs.Kept.{entries_put}
use Rattle.adding.specs.Named.{counted}
use Rattle.adding.specs.Rows.{entry_of, gathered, Gathered}

module _ (b r : ℕ → ℕ) (d : Direction) (c : Columns) (count : ℕ) where
  -- the transitions before transition j are gathered, and those from there on make up the rest
  pub record Gathering (keys codes : List ℕ) (many j : ℕ) : Type 0 where
    pub few : many ≤ j
    pub rest : entries keys codes 0 many ++ gathered b r d (rows_from c j (count - j)) ≡ gathered b r d (rows_from c 0 count)
    pub keys_long : length keys ≡ 16000
    pub codes_long : length codes ≡ 16000

  pub gathering_starts : (keys codes : List ℕ) → length keys ≡ 16000 → length codes ≡ 16000 → Gathering keys codes 0 0
  gathering_starts keys codes keys_long codes_long = record {
    few = omega arith;
    rest = rw (entries_none keys codes 0 0 (omega arith), sub-zero count);
    keys_long = keys_long;
    codes_long = codes_long;
  }

  module _ (keys codes : List ℕ) (many j : ℕ) (so_far : Gathering keys codes many j) where
    left : List Entry
    left = gathered b r d (rows_from c (j + 1) (count - (j + 1)))

    opened : j < count → (here : Bool) → counted b r d (row_at c j) ≡ here
        → entries keys codes 0 many ++ cond here (entry_of b (row_at c j) ∷ left) left ≡ gathered b r d (rows_from c 0 count)
    unfolding rows_from left
    opened more here e =
        let one_less : count - j ≡ suc (count - (j + 1)) = omega arith in
        ap (λ (c' : Bool). entries keys codes 0 many ++ cond c' (entry_of b (row_at c j) ∷ left) left) (sym e)
        ∙ ap (λ (i : ℕ). entries keys codes 0 many ++ gathered b r d (row_at c j ∷ rows_from c i (count - (j + 1)))) (add-one j)
        ∙ ap (λ (k : ℕ). entries keys codes 0 many ++ gathered b r d (rows_from c j k)) (sym one_less)
        ∙ so_far.rest

    pub gathering_takes : j < count → count ≤ 4000 → counted b r d (row_at c j) ≡ true → (key code : ℕ) → key ≡ (entry_of b (row_at c j)).key → code ≡ (row_at c j).code
        → Gathering (set keys many key) (set codes many code) (many + 1) (j + 1)
    unfolding left
    gathering_takes more fits e key code k w =
        let few = so_far.few in
        let put : entries (set keys many key) (set codes many code) 0 (many + 1) ≡ entries keys codes 0 many ++ (entry_of b (row_at c j) ∷ []) =
        entries_put keys codes many key code 0 (omega arith) (omega (arith, so_far.keys_long)) (omega (arith, so_far.codes_long))
        ∙ ap₂ (λ (x y : ℕ). entries keys codes 0 many ++ (record { key = x; code = y } ∷ [])) k w in
        record {
          few = omega arith;
          rest = ap (λ (es : List Entry). es ++ left) put ∙ append_snoc (entries keys codes 0 many) (entry_of b (row_at c j)) left ∙ opened more true e;
          keys_long = length-set keys many key ∙ so_far.keys_long;
          codes_long = length-set codes many code ∙ so_far.codes_long;
        }

    pub gathering_skips : j < count → counted b r d (row_at c j) ≡ false → Gathering keys codes many (j + 1)
    unfolding left
    gathering_skips more e =
        record { few = omega (arith, so_far.few); rest = opened more false e; keys_long = so_far.keys_long; codes_long = so_far.codes_long }

    pub gathering_ends : j ≤ count → count ≤ j → Gathered (gathered b r d (rows_from c 0 count)) count keys codes many
    unfolding rows_from
    gathering_ends some done =
        let none : count - j ≡ 0 = omega arith in
        record {
          few = omega (arith, so_far.few);
          held = sym (append-nil (entries keys codes 0 many)) ∙ ap (λ (k : ℕ). entries keys codes 0 many ++ gathered b r d (rows_from c j k)) (sym none) ∙ so_far.rest;
          keys_long = so_far.keys_long;
          codes_long = so_far.codes_long;
        }
