-- How far a reading of a table reaches: what it means that it is decided by so many bytes, and that the steps of a reading are.
use Prim.Native.Nat.{ℕ, zero, suc, ◌+◌, ◌*◌, ◌-◌, ◌≤◌, ◌<◌, ◌^◌}
use Rattle.std.specs.Prelude.{◌≡◌, refl, Bool, true, false, cond, ◌&&◌, take, T, leb, ltb, eqb, Ok, Err}
use Rattle.std.proofs.Common.{sym, ap, ◌∙◌, subst, arith, get_or-take, length-take-le}
use mathlib.Core.List.{List, [], ◌∷◌}
use Rattle.std.proofs.Math.ListN.{length, get_or}
use borrow.Author.Tests.{lt-leb, leb-true}
use Rattle.answers.specs.declared.Refusal.{Refusal}
use Rattle.answers.specs.declared.Refusal.TheVariants.{OutOfRange, NotInTable, ZeroCode, NotAbove, TableGoesOn}
use Rattle.answers.specs.Numbers.{refusal_figure}
use Rattle.numbers.specs.Read.{NumberRead, with_lowest, more_from, number_at}
use Rattle.numbers.specs.Written.{written}
use Rattle.model.proofs.Each.{each_implies, each-get_or}
use Rattle.model.specs.Table.{Table, Transition, Each, key, lower}
use Rattle.format.specs.Written.{transition_numbers, transitions_numbers}
use Rattle.roundtrip.specs.Numbers.{written_one, written_two, written_few}
use Rattle.roundtrip.specs.Sequences.{reads_end}
use Rattle.roundtrip.specs.Readers.{Reader, itself, found_same, found_behind, any_reader, within_reader, one_of_reader}
use Rattle.roundtrip.specs.Tables.{ranks_reader}
use Rattle.roundtrip.specs.Transitions.{transition_reader, transitions_reader}
use Rattle.roundtrip.specs.Length.{length_one, transition_length, transitions_length}
use Rattle.format.specs.Read.{Found, found, refused, after, provided, as_found, any, within, one_of, listed, many, transition_at, transitions_at, table_read}

-- a reading of a number that has no figure above the limit
abbrev Figured : ℕ → NumberRead → Type 0
Figured limit (Ok (n, next)) = Unit {0}
Figured limit (Err refusal) = refusal_figure refusal ≤ limit

figured_choice : (limit : ℕ) (test : Bool) (r r₁ : NumberRead) → (test ≡ true → Figured limit r) → Figured limit r₁ → Figured limit (cond test r r₁)
figured_choice limit true r r₁ h h₁ = h refl
figured_choice limit false r r₁ h h₁ = h₁

figured_below : (limit low : ℕ) (r : NumberRead) → Figured limit r → Figured limit (with_lowest low r)
figured_below limit low (Ok (n, next)) h = tt
figured_below limit low (Err refusal) h = h

module _ (s : List ℕ) where
  more_figured : (g first at limit : ℕ) → first ≤ limit → at + g ≤ limit → Figured limit (more_from g s first at)
  unfolding more_from
  more_figured zero first at limit h l =
      figured_choice limit (leb (length s) at) _ _ (λ e. omega (arith, leb-true (length s) at e))
      (figured_choice limit (eqb (get_or s at 0) 0) _ _ (λ e. h)
      (figured_choice limit (leb 16 (get_or s at 0)) _ _ (λ e. h) tt))
  more_figured (suc g) first at limit h l =
      figured_choice limit (leb (length s) at) _ _ (λ e. omega (arith, leb-true (length s) at e))
      (figured_choice limit (eqb (get_or s at 0) 0) _ _ (λ e. h)
      (figured_choice limit (ltb (get_or s at 0) 128) _ _ (λ e. tt)
      (figured_below limit (get_or s at 0 - 128) (more_from g s first (at + 1)) (more_figured g first (at + 1) limit h (omega arith)))))

  number_figured : (at limit : ℕ) → at + 4 ≤ limit → Figured limit (number_at s at)
  unfolding number_at
  number_figured at limit l =
      figured_choice limit (leb (length s) at) _ _ (λ e. omega (arith, leb-true (length s) at e))
      (figured_choice limit (ltb (get_or s at 0) 128) _ _ (λ e. tt)
      (figured_below limit (get_or s at 0 - 128) (more_from 3 s at (at + 1)) (more_figured 3 at (at + 1) limit (omega arith) (omega arith))))

  -- what is read is read from the first `size` bytes, if the five bytes from the place on are among them
  module _ (size : ℕ) (enough : size ≤ length s) where
    byte_among : (at : ℕ) → at < size → get_or (take size s) at 0 ≡ get_or s at 0
    byte_among at h = get_or-take size s at 0 h

    inside : (at : ℕ) → at < size → leb (length s) at ≡ false
    inside at h = lt-leb (length s) at (omega arith)

    inside_cut : (at : ℕ) → at < size → leb (length (take size s)) at ≡ false
    inside_cut at h = lt-leb (length (take size s)) at (rw (length-take-le size s enough) h)

    more_among : (g first at : ℕ) → at + g < size → more_from g (take size s) first at ≡ more_from g s first at
    unfolding more_from
    more_among zero first at h = simp (inside at (omega arith), inside_cut at (omega arith), byte_among at (omega arith))
    more_among (suc g) first at h = simp (inside at (omega arith), inside_cut at (omega arith), byte_among at (omega arith), more_among g first (at + 1) (omega arith))

    number_among : (at : ℕ) → at + 4 < size → number_at (take size s) at ≡ number_at s at
    unfolding number_at
    number_among at h = simp (inside at (omega arith), inside_cut at (omega arith), byte_among at (omega arith), more_among 3 at (at + 1) (omega arith))

-- A reading of s beside the same reading of the first `size` bytes: it has no figure above `size`, and if s has so many bytes then the two find the same.
pub record Early (s : List ℕ) (size : ℕ) {A : Type 0} (x cut : Found A) : Type 0 where
  pub figure : (refusal : Refusal) → x ≡ refused refusal → refusal_figure refusal ≤ size
  pub same : size ≤ length s → cut ≡ x

module _ (s : List ℕ) (size : ℕ) where
  -- a value is no refusal
  early_found : {A : Type 0} (a : A) (p : ℕ) → Early s size (found a p) (found a p)
  early_found a p = record { figure = λ refusal e. let z : ◌≡◌ {A = ℕ} 0 1 = cc in absurd (omega arith); same = λ l. refl }

  -- a reading and what is read behind it
  early_behind : {A B : Type 0} (x cut : Found A) (f g : A → ℕ → Found B) → Early s size x cut
      → ((a : A) (next : ℕ) → x ≡ found a next → Early s size (f a next) (g a next)) → Early s size (after x f) (after cut g)
  early_behind (found a next) cut f g h k =
      record { figure = (k a next refl).figure; same = λ l. ap (λ c. after c g) (h.same l) ∙ (k a next refl).same l }
  early_behind {A} {B} (refused refusal) cut f g h k =
      record {
        figure = λ refusal₁ e. let same : refusal ≡ refusal₁ = cc in h.figure refusal₁ (ap refused same);
        same = λ l. ap (λ c. after c g) (h.same l);
      }

  -- a reading under a test
  early_under : {A : Type 0} (test : Bool) (refusal : Refusal) (x cut : Found A) → refusal_figure refusal ≤ size → (T test → Early s size x cut)
      → Early s size (provided test refusal x) (provided test refusal cut)
  early_under true refusal x cut h k = k tt
  early_under false refusal x cut h k =
      record { figure = λ refusal₁ e. let same : refusal ≡ refusal₁ = cc in subst (λ r. refusal_figure r ≤ size) same h; same = λ l. refl }

  -- a number whose five bytes are among the first `size`
  early_any : (at : ℕ) → at + 5 ≤ size → Early s size (any s at) (any (take size s) at)
  early_any at h = record {
    figure = λ refusal e. figured (number_at s at) refusal (number_figured s at size (omega arith)) e;
    same = λ l. ap as_found (number_among s size l at (omega arith));
  }
    where
      figured : (r : NumberRead) (refusal : Refusal) → Figured size r → as_found r ≡ refused refusal → refusal_figure refusal ≤ size
      figured (Ok (n, next)) refusal h e = let z : ◌≡◌ {A = ℕ} 0 1 = cc in absurd (omega arith)
      figured (Err refusal₁) refusal h e = let same : refusal₁ ≡ refusal = cc in subst (λ r. refusal_figure r ≤ size) same h

  -- a number with a test that names its place
  early_tested : (test : ℕ → Bool) (refusal : ℕ → Refusal) → ((at : ℕ) → refusal_figure (refusal at) ≡ at) → (at : ℕ) → at + 5 ≤ size
      → Early s size (after (any s at) (λ n next. provided (test n) (refusal at) (found n next)))
      (after (any (take size s) at) (λ n next. provided (test n) (refusal at) (found n next)))
  early_tested test refusal figure at h =
      early_behind (any s at) (any (take size s) at) _ _ (early_any at h)
      (λ n next e. early_under (test n) (refusal at) (found n next) (found n next) (omega (arith, figure at)) (λ holds. early_found n next))

  -- items of at most `width` bytes, one after another
  early_many : (item cut : ℕ → Found ℕ) (width : ℕ) → 1 ≤ width → ((at : ℕ) → at + 5 ≤ size → Early s size (item at) (cut at))
      → ((at n p : ℕ) → item at ≡ found n p → p ≤ at + width) → (k at : ℕ) → at + width * k + 4 ≤ size → Early s size (many item k at) (many cut k at)
  unfolding many
  early_many item cut width some one narrow zero at h = early_found [] at
  early_many item cut width some one narrow (suc k) at h =
      early_behind (item at) (cut at) _ _ (one at (omega arith))
      (λ n next e. early_behind (many item k next) (many cut k next) _ _
      (early_many item cut width some one narrow k next (omega (arith, narrow at n next e)))
      (λ ns end e₁. early_found (n ∷ ns) end))

-- where a list's reading ends, if each item has at most `width` bytes
many_narrow : (item : ℕ → Found ℕ) (width : ℕ) → ((at n p : ℕ) → item at ≡ found n p → p ≤ at + width)
    → (k at : ℕ) (ns : List ℕ) (p : ℕ) → many item k at ≡ found ns p → p ≤ at + width * k
unfolding many
many_narrow item width one zero at ns p e = found_same (λ (ns : List ℕ) end. end ≤ at + width * 0) e (omega arith)
many_narrow item width one (suc k) at ns p e =
    found_behind (item at) _ e λ n next e₁ r₁. found_behind (many item k next) _ r₁ λ ms end e₂ r₂.
    found_same (λ (ns : List ℕ) end. end ≤ at + width * suc k) r₂ (omega (arith, one at n next e₁, many_narrow item width one k next ms end e₂))

module _ (s : List ℕ) (small : (i : ℕ) → get_or s i 0 < 256) (size : ℕ) where
  -- where a number's reading ends, if what is admitted has at most `width` bytes
  narrow : (P : ℕ → Type 0) (item : ℕ → Found ℕ) → Reader s P itself item → (width : ℕ) → ((n : ℕ) → P n → length (written n) ≤ width)
      → (at n p : ℕ) → item at ≡ found n p → p ≤ at + width
  narrow P item r width few at n p e =
      let (admitted, reads) = r.sound at n p e in omega (arith, reads_end s small (itself n) at p reads, length_one n, few n admitted)

  early_within : (low high at : ℕ) → at + 5 ≤ size → Early s size (within s low high at) (within (take size s) low high at)
  early_within low high = early_tested s size (λ n. leb low n && leb n high) OutOfRange (λ at. refl)

  early_one_of : (limit at : ℕ) → at + 5 ≤ size → Early s size (one_of s limit at) (one_of (take size s) limit at)
  early_one_of limit = early_tested s size (λ n. ltb n limit) NotInTable (λ at. refl)

  early_listed : (at : ℕ) → at + 5 ≤ size → Early s size (listed s at) (listed (take size s) at)
  early_listed = early_tested s size (λ n. ltb 0 n) ZeroCode (λ at. refl)

  module _ (ranks : List ℕ) (states : ℕ) (symbols_few : length ranks ≤ 128) (states_few : states ≤ 256) (ranks_small : Each (λ k. k ≤ 4) ranks) where
    symbol_narrow : (at n p : ℕ) → one_of s (length ranks) at ≡ found n p → p ≤ at + 1
    symbol_narrow = narrow (λ n. n < length ranks) (one_of s (length ranks)) (one_of_reader s small (length ranks) (omega arith)) 1 (λ n l. omega (arith, written_one n (omega arith)))

    state_narrow : (at n p : ℕ) → one_of s states at ≡ found n p → p ≤ at + 2
    state_narrow = narrow (λ n. n < states) (one_of s states) (one_of_reader s small states (omega arith)) 2 (λ n l. written_two n (omega arith))

    transition_narrow : (at : ℕ) (t : Transition) (p : ℕ) → transition_at s ranks states at ≡ found t p → p ≤ at + 16
    transition_narrow at t p e =
        let (proper, reads) = (transition_reader s small ranks states (omega arith) (omega arith)).sound at t p e in
        omega (arith, reads_end s small (transition_numbers t) at p reads, transition_length ranks states symbols_few states_few ranks_small t proper)

    -- a transition has at most 16 bytes, and its last number may have five: none is looked at behind the sixteenth
    early_transition : (at : ℕ) → at + 16 ≤ size → Early s size (transition_at s ranks states at) (transition_at (take size s) ranks states at)
    unfolding transition_at
    early_transition at h =
        early_behind s size (one_of s (length ranks) at) _ _ _ (early_one_of (length ranks) at (omega arith)) λ symbol at₁ e₁.
        let l₁ : at₁ ≤ at + 1 = symbol_narrow at symbol at₁ e₁ in
        let rank : get_or ranks symbol 0 ≤ 4 = each-get_or (λ k. k ≤ 4) ranks symbol 0 ranks_small (omega arith) in
        early_behind s size (many (one_of s states) (get_or ranks symbol 0) at₁) _ _ _
        (early_many s size (one_of s states) (one_of (take size s) states) 2 (omega arith) (early_one_of states) state_narrow (get_or ranks symbol 0) at₁ (omega arith)) λ children at₂ e₂.
        let l₂ : at₂ ≤ at₁ + 2 * get_or ranks symbol 0 = many_narrow (one_of s states) 2 state_narrow (get_or ranks symbol 0) at₁ children at₂ e₂ in
        early_behind s size (one_of s states at₂) _ _ _ (early_one_of states at₂ (omega arith)) λ target at₃ e₃.
        early_behind s size (listed s at₃) _ _ _ (early_listed at₃ (omega (arith, state_narrow at₂ target at₃ e₃))) λ code next e₄.
        early_found s size _ next

    early_transitions : (k : ℕ) (before : List ℕ) (at : ℕ) → at + 16 * k ≤ size
        → Early s size (transitions_at s ranks states k before at) (transitions_at (take size s) ranks states k before at)
    unfolding transitions_at
    early_transitions zero before at h = early_found s size [] at
    early_transitions (suc k) before at h =
        early_behind s size (transition_at s ranks states at) _ _ _ (early_transition at (omega arith)) λ t next e₁.
        early_under s size (lower before (key t)) (NotAbove at) _ _ (omega arith) λ above.
        early_behind s size (transitions_at s ranks states k (key t) next) _ _ _ (early_transitions k (key t) next (omega (arith, transition_narrow at t next e₁))) λ ts end e₂.
        early_found s size (t ∷ ts) end

    transitions_narrow : (k : ℕ) (before : List ℕ) (at : ℕ) (ts : List Transition) (p : ℕ) → transitions_at s ranks states k before at ≡ found ts p → p ≤ at + 16 * k
    transitions_narrow k before at ts p e =
        let (ascent, reads) = (transitions_reader s small ranks states (omega arith) (omega arith) k before).sound at ts p e in
        omega (arith, reads_end s small (transitions_numbers ts) at p reads, ascent.0, transitions_length ranks states symbols_few states_few ranks_small ts ascent.1)

  -- the last test: no byte follows
  early_end : (X : Table) (end : ℕ) → end < size
      → Early s size (provided (leb (length s) end) (TableGoesOn end) (found X end)) (provided (leb (length (take size s)) end) (TableGoesOn end) (found X end))
  early_end X end h = record {
    figure = (early_under s size (leb (length s) end) (TableGoesOn end) (found X end) (found X end) (omega arith) (λ ends. early_found s size X end)).figure;
    same = λ l. ap (λ (test : Bool). provided test (TableGoesOn end) (found X end)) (inside_cut s size l end h ∙ sym (inside s size l end h));
  }

  -- a number within its range, and where its reading ends
  range : (low high width : ℕ) → high < 2 ^ 32 → ((n : ℕ) → n ≤ high → length (written n) ≤ width) → (at n p : ℕ) → within s low high at ≡ found n p
      → (n ≤ high) × (p ≤ at + width)
  range low high width fits few at n p e =
      let r : Reader s (λ n. (low ≤ n) × (n ≤ high)) itself (within s low high) = within_reader s small low high fits in
      ((r.sound at n p e).0.1, narrow (λ n. (low ≤ n) × (n ≤ high)) (within s low high) r width (λ n h. few n h.1) at n p e)

  rank_narrow : (at n p : ℕ) → within s 0 4 at ≡ found n p → p ≤ at + 1
  rank_narrow at n p e = (range 0 4 1 (omega arith) (λ n l. omega (arith, written_one n (omega arith))) at n p e).1

  final_narrow : (at n p : ℕ) → any s at ≡ found n p → p ≤ at + 5
  final_narrow = narrow (λ n. n < 2 ^ 32) (any s) (any_reader s small) 5 (λ n h. written_few n)

  -- the whole table
  pub early_table : 65416 ≤ size → Early s size (table_read s) (table_read (take size s))
  unfolding table_read
  early_table h =
      early_behind s size (within s 0 1 0) _ _ _ (early_within 0 1 0 (omega arith)) λ arithmetic at₁ e₁.
      let (arithmetic_known, l₁) = range 0 1 1 (omega arith) (λ n l. omega (arith, written_one n (omega arith))) 0 arithmetic at₁ e₁ in
      early_behind s size (within s 1 256 at₁) _ _ _ (early_within 1 256 at₁ (omega arith)) λ states at₂ e₂.
      let (states_few, l₂) = range 1 256 2 (omega arith) (λ n l. written_two n (omega arith)) at₁ states at₂ e₂ in
      early_behind s size (within s 1 128 at₂) _ _ _ (early_within 1 128 at₂ (omega arith)) λ symbols at₃ e₃.
      let (symbols_few, l₃) = range 1 128 2 (omega arith) (λ n l. written_two n (omega arith)) at₂ symbols at₃ e₃ in
      early_behind s size (many (within s 0 4) symbols at₃) _ _ _
      (early_many s size (within s 0 4) (within (take size s) 0 4) 1 (omega arith) (early_within 0 4) rank_narrow symbols at₃ (omega arith)) λ ranks at₄ e₄.
      let l₄ : at₄ ≤ at₃ + 1 * symbols = many_narrow (within s 0 4) 1 rank_narrow symbols at₃ ranks at₄ e₄ in
      early_behind s size (many (any s) states at₄) _ _ _
      (early_many s size (any s) (any (take size s)) 5 (omega arith) (early_any s size) final_narrow states at₄ (omega arith)) λ finals at₅ e₅.
      let l₅ : at₅ ≤ at₄ + 5 * states = many_narrow (any s) 5 final_narrow states at₄ finals at₅ e₅ in
      early_behind s size (within s 0 4000 at₅) _ _ _ (early_within 0 4000 at₅ (omega arith)) λ transitions at₆ e₆.
      let (transitions_few, l₆) = range 0 4000 2 (omega arith) (λ n l. written_two n (omega arith)) at₅ transitions at₆ e₆ in
      let (ranks-known, reads) = (ranks_reader s small symbols).sound at₃ ranks at₄ e₄ in
      let ranks_small : Each (λ k. k ≤ 4) ranks = each_implies (λ n. (0 ≤ n) × (n ≤ 4)) (λ n. n ≤ 4) (λ n h. h.1) ranks ranks-known.1 in
      let ranks_few : length ranks ≤ 128 = omega (arith, ranks-known.0) in
      early_behind s size (transitions_at s ranks states transitions [] at₆) _ _ _
      (early_transitions ranks states ranks_few states_few ranks_small transitions [] at₆ (omega arith)) λ ts end e₇.
      early_end _ end (omega (arith, transitions_narrow ranks states ranks_few states_few ranks_small transitions [] at₆ ts end e₇))
