-- Readers: what is found at a place is exactly the value whose numbers stand there. Numbers, lists, tests.
use Prim.Native.Nat.{ℕ, zero, suc, ◌≤◌, ◌<◌, ◌^◌}
use Rattle.std.specs.Prelude.{◌≡◌, refl, Bool, true, false, ◌&&◌, length, get_or, T, leb, ltb, Ok, Err}
use Rattle.std.proofs.Math.Path.{ap}
use Rattle.std.proofs.Common.{◌∙◌, subst₂, arith, leb→le, le→leb, ltb→lt, lt→ltb}
use mathlib.Core.List.{List, [], ◌∷◌}
use Rattle.std.proofs.Math.Facts.{and_yes, yes_and}
use Rattle.answers.specs.declared.Refusal.{Refusal}
use Rattle.answers.specs.declared.Refusal.TheVariants.{OutOfRange, NotInTable, ZeroCode}
use Rattle.numbers.specs.Read.{NumberRead, number, number_at}
use Rattle.model.specs.Table.{Each}
use Rattle.format.specs.Read.{Found, found, refused, after, provided, as_found, any, within, one_of, listed, many}
use Rattle.roundtrip.specs.Numbers.{number_sound}
use Rattle.roundtrip.specs.Sequences.{Reads, reads_append, reads_split}

-- a reader finds a value exactly if the value is admitted and its numbers are read from the place
pub record Reader (s : List ℕ) {A : Type 0} (Admitted : A → Type 0) (numbers : A → List ℕ) (item : ℕ → Found A) : Type 0 where
  pub sound : (at : ℕ) (a : A) (p : ℕ) → item at ≡ found a p → Admitted a × Reads s at (numbers a) p
  pub complete : (at : ℕ) (a : A) (p : ℕ) → Admitted a → Reads s at (numbers a) p → item at ≡ found a p

-- what is found has one value and one end
pub found_same : {A : Type 0} (Q : A → ℕ → Type 0) {a b : A} {p q : ℕ} → found a p ≡ found b q → Q a p → Q b q
found_same {A} Q {a} {b} {p} {q} e h = let e₁ : a ≡ b = cc in let e₂ : p ≡ q = cc in subst₂ Q e₁ e₂ h

never : {A C : Type 0} (refusal : Refusal) (a : A) (p : ℕ) → refused refusal ≡ found a p → C
never refusal a p e = let z : ◌≡◌ {A = ℕ} 0 1 = cc in absurd (omega arith)

-- what is found behind a reading was found behind what the reading found
pub found_behind : {A B C : Type 0} (x : Found A) (f : A → ℕ → Found B) {b : B} {p : ℕ} → after x f ≡ found b p
    → ((a : A) (next : ℕ) → x ≡ found a next → f a next ≡ found b p → C) → C
found_behind (found a next) f e k = k a next refl e
found_behind (refused refusal) f {b} {p} e k = never refusal b p e

-- what is found under a test was found, and the test holds
pub found_under : {A C : Type 0} (test : Bool) (refusal : Refusal) (x : Found A) {a : A} {p : ℕ} → provided test refusal x ≡ found a p
    → (T test → x ≡ found a p → C) → C
found_under true refusal x e k = k tt e
found_under false refusal x {a} {p} e k = never refusal a p e

-- how to go on behind what is found
pub go_on : {A B : Type 0} (x : Found A) (f : A → ℕ → Found B) {a : A} {next : ℕ} {y : Found B} → x ≡ found a next → f a next ≡ y → after x f ≡ y
go_on x f e e₁ = rw e e₁

-- how to go on where a test holds
pub go_on_under : {A : Type 0} (test : Bool) (refusal : Refusal) (x : Found A) {y : Found A} → T test → x ≡ y → provided test refusal x ≡ y
go_on_under true refusal x h e = e
go_on_under false refusal x h e = absurd h

module _ (s : List ℕ) {A : Type 0} (numbers : A → List ℕ) (item : ℕ → Found A) where
  -- the same reader, its condition said in other words
  pub reader_said : (P Q : A → Type 0) → ((a : A) → P a → Q a) → ((a : A) → Q a → P a) → Reader s P numbers item → Reader s Q numbers item
  reader_said P Q there back r = record {
    sound = λ at a p e. let (h, reads) = r.sound at a p e in (there a h, reads);
    complete = λ at a p h reads. r.complete at a p (back a h) reads;
  }

  -- with a test on what was read
  pub tested : (P : A → Type 0) (test : A → Bool) (refusal : ℕ → Refusal) → Reader s P numbers item
      → Reader s (λ a. P a × T (test a)) numbers (λ at. after (item at) (λ a next. provided (test a) (refusal at) (found a next)))
  tested P test refusal r = record {
    sound = λ at a p e. found_behind (item at) _ e λ b next e₁ e₂. found_under (test b) (refusal at) _ e₂ λ h e₃.
        found_same (λ c end. (P c × T (test c)) × Reads s at (numbers c) end) e₃ (let (admitted, reads) = r.sound at b next e₁ in ((admitted, h), reads));
    complete = λ at a p h reads. go_on (item at) _ (r.complete at a p h.0 reads) (go_on_under (test a) (refusal at) _ h.1 refl);
  }

number_found : (r : NumberRead) (n p : ℕ) → as_found r ≡ found n p → r ≡ number n p
number_found (Ok (m, next)) n p e = let e₁ : m ≡ n = cc in let e₂ : next.at ≡ p = cc in λ i. Ok (e₁ i, record { at = e₂ i })
number_found (Err refusal) n p e = let z : ◌≡◌ {A = ℕ} 0 1 = cc in absurd (omega arith)

-- a number is read alone
abbrev pub itself : ℕ → List ℕ
itself n = n ∷ []

module _ (s : List ℕ) (small : (i : ℕ) → get_or s i 0 < 256) where
  -- a number of at most five bytes
  pub any_reader : Reader s (λ n. n < 2 ^ 32) itself (any s)
  any_reader = record {
    sound = λ at n p e. let e₁ = number_found (number_at s at) n p e in ((number_sound s small at n p e₁).1, (p, e₁, refl));
    complete = λ at n p h reads. ap as_found reads.1 ∙ ap (found n) reads.2;
  }

  -- a number with a test, its condition said in other words
  tested_number : (Q : ℕ → Type 0) (test : ℕ → Bool) (refusal : ℕ → Refusal) → ((n : ℕ) → (n < 2 ^ 32) × T (test n) → Q n)
      → ((n : ℕ) → Q n → (n < 2 ^ 32) × T (test n)) → Reader s Q itself (λ at. after (any s at) (λ n next. provided (test n) (refusal at) (found n next)))
  tested_number Q test refusal there back =
      reader_said s itself _ (λ n. (n < 2 ^ 32) × T (test n)) Q there back (tested s itself (any s) (λ n. n < 2 ^ 32) test refusal any_reader)

  -- a number from low to high
  pub within_reader : (low high : ℕ) → high < 2 ^ 32 → Reader s (λ n. (low ≤ n) × (n ≤ high)) itself (within s low high)
  within_reader low high h =
      tested_number (λ n. (low ≤ n) × (n ≤ high)) (λ n. leb low n && leb n high) OutOfRange
      (λ n k. let (a, b) = and_yes (leb low n) (leb n high) k.1 in (leb→le low n a, leb→le n high b))
      (λ n k. (omega arith, yes_and (leb low n) (leb n high) (le→leb low n k.0) (le→leb n high k.1)))

  -- the number of one of `limit` symbols or states
  pub one_of_reader : (limit : ℕ) → limit ≤ 2 ^ 32 → Reader s (λ n. n < limit) itself (one_of s limit)
  one_of_reader limit h = tested_number (λ n. n < limit) (λ n. ltb n limit) NotInTable (λ n k. ltb→lt n limit k.1) (λ n k. (omega arith, lt→ltb n limit k))

  -- the code of a listed weight
  pub listed_reader : Reader s (λ n. (0 < n) × (n < 2 ^ 32)) itself (listed s)
  listed_reader = tested_number (λ n. (0 < n) × (n < 2 ^ 32)) (λ n. ltb 0 n) ZeroCode (λ n k. (ltb→lt 0 n k.1, k.0)) (λ n k. (k.1, lt→ltb 0 n k.0))

module _ (s : List ℕ) (P : ℕ → Type 0) (item : ℕ → Found ℕ) (r : Reader s P itself item) where
  many_sound : (k at : ℕ) (ns : List ℕ) (p : ℕ) → many item k at ≡ found ns p → ((length ns ≡ k) × Each P ns) × Reads s at ns p
  unfolding many
  many_sound zero at ns p e = found_same (λ ns end. ((length ns ≡ 0) × Each P ns) × Reads s at ns end) e ((refl, tt), refl)
  many_sound (suc k) at ns p e =
      found_behind (item at) _ e λ n next e₁ e₂. found_behind (many item k next) _ e₂ λ ms end e₃ e₄.
      found_same (λ ns end. ((length ns ≡ suc k) × Each P ns) × Reads s at ns end) e₄
      (let (h, here) = r.sound at n next e₁ in
      let (hs, there) = many_sound k next ms end e₃ in
      ((ap suc hs.0, (h, hs.1)), reads_append s (itself n) ms at next end here there))

  many_complete : (k at : ℕ) (ns : List ℕ) (p : ℕ) → (length ns ≡ k) × Each P ns → Reads s at ns p → many item k at ≡ found ns p
  unfolding many
  many_complete zero at [] p h reads = ap (found []) reads
  many_complete zero at (n ∷ ns) p h reads = absurd (omega (arith, h.0))
  many_complete (suc k) at [] p h reads = absurd (omega (arith, h.0))
  many_complete (suc k) at (n ∷ ns) p h reads =
      reads_split s (itself n) ns at p reads λ next here there.
      go_on (item at) _ (r.complete at n next h.1.0 here) (go_on (many item k next) _ (many_complete k next ns p (omega (arith, h.0), h.1.1) there) refl)

  -- so many, one after another
  pub many_reader : (k : ℕ) → Reader s (λ ns. (length ns ≡ k) × Each P ns) (λ ns. ns) (many item k)
  many_reader k = record { sound = many_sound k; complete = many_complete k }
