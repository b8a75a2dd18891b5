-- Each table within document 01's bounds has exactly one written form, which reads back as that table ("Bytes").
use Prim.Native.Nat.{ℕ, ◌+◌, ◌≤◌, ◌<◌, ◌^◌}
use Rattle.std.specs.Prelude.{◌≡◌, refl, ◌↔◌, get_or, leb}
use Rattle.std.proofs.Common.{sym, ap, ◌∙◌, subst, zero-add, drop_of_length-le, le→leb}
use mathlib.Core.List.{List, [], ◌∷◌, ◌++◌, append-nil}
use native.Mathlib.Omega.{arith}
use Rattle.std.proofs.Math.ListN.{length}
use Rattle.std.proofs.Math.Dec.{leb→le}
use Rattle.answers.specs.declared.Refusal.TheVariants.{TableGoesOn}
use Rattle.model.proofs.Each.{each_append, each_implies, each-get_or}
use Rattle.model.specs.Table.{Table, Transition, Each, Proper, ProperTransition}
use Rattle.format.specs.Read.{found, any, within, many, transitions_at, table_read}
use Rattle.format.specs.Written.{transition_numbers, transitions_numbers, table_numbers, bytes_of}
use Rattle.roundtrip.specs.Numbers.{Stands}
use Rattle.roundtrip.specs.Sequences.{Reads, reads_append, reads_split, reads_stand, written_reads, written_all_bytes}
use Rattle.roundtrip.specs.Readers.{Reader, itself, found_same, found_behind, found_under, go_on, go_on_under, any_reader, within_reader, many_reader}
use Rattle.roundtrip.specs.Transitions.{transitions_reader}

-- what the reading of a table in s up to `p` says
abbrev Told : List ℕ → Table → ℕ → Type 0
Told s X p = Proper X × Reads s 0 (table_numbers X) p × (length s ≤ p)

module _ (s : List ℕ) (small : (i : ℕ) → get_or s i 0 < 256) where
  pub ranks_reader : (k : ℕ) → Reader s (λ ns. (length ns ≡ k) × Each (λ n. (0 ≤ n) × (n ≤ 4)) ns) (λ ns. ns) (many (within s 0 4) k)
  ranks_reader k = many_reader s (λ n. (0 ≤ n) × (n ≤ 4)) (within s 0 4) (within_reader s small 0 4 (omega arith)) k

  finals_reader : (k : ℕ) → Reader s (λ ns. (length ns ≡ k) × Each (λ n. n < 2 ^ 32) ns) (λ ns. ns) (many (any s) k)
  finals_reader k = many_reader s (λ n. n < 2 ^ 32) (any s) (any_reader s small) k

  table_told : (X : Table) (p : ℕ) → table_read s ≡ found X p → Told s X p
  unfolding table_read
  table_told X p e =
      found_behind (within s 0 1 0) _ e λ arithmetic at₁ e₁ r₁.
      found_behind (within s 1 256 at₁) _ r₁ λ states at₂ e₂ r₂.
      found_behind (within s 1 128 at₂) _ r₂ λ symbols at₃ e₃ r₃.
      found_behind (many (within s 0 4) symbols at₃) _ r₃ λ ranks at₄ e₄ r₄.
      found_behind (many (any s) states at₄) _ r₄ λ finals at₅ e₅ r₅.
      found_behind (within s 0 4000 at₅) _ r₅ λ transitions at₆ e₆ r₆.
      found_behind (transitions_at s ranks states transitions [] at₆) _ r₆ λ ts end e₇ r₇.
      found_under (leb (length s) end) (TableGoesOn end) _ r₇ λ ends r₈.
      let (h₁, reads₁) = (within_reader s small 0 1 (omega arith)).sound 0 arithmetic at₁ e₁ in
      let (h₂, reads₂) = (within_reader s small 1 256 (omega arith)).sound at₁ states at₂ e₂ in
      let (h₃, reads₃) = (within_reader s small 1 128 (omega arith)).sound at₂ symbols at₃ e₃ in
      let (h₄, reads₄) = (ranks_reader symbols).sound at₃ ranks at₄ e₄ in
      let (h₅, reads₅) = (finals_reader states).sound at₄ finals at₅ e₅ in
      let (h₆, reads₆) = (within_reader s small 0 4000 (omega arith)).sound at₅ transitions at₆ e₆ in
      let (h₇, reads₇) = (transitions_reader s small ranks states (omega (arith, h₃, h₄.0)) (omega (arith, h₂)) transitions []).sound at₆ ts end e₇ in
      let from₆ : List ℕ = length ts ∷ transitions_numbers ts in
      let from₃ : List ℕ = length ranks ∷ ranks ++ (finals ++ from₆) in
      found_same (Told s) r₈ (
        record {
          arithmetic_known = h₁.1;
          states_some = h₂.0;
          states_few = h₂.1;
          symbols_some = omega (arith, h₃, h₄.0);
          symbols_few = omega (arith, h₃, h₄.0);
          ranks_small = each_implies (λ n. (0 ≤ n) × (n ≤ 4)) (λ n. n ≤ 4) (λ n h. h.1) ranks h₄.1;
          finals_many = h₅.0;
          finals_fit = h₅.1;
          transitions_few = omega (arith, h₆, h₇.0);
          transitions_proper = h₇.1;
          ascending = h₇.2;
        },
        reads_append s (itself arithmetic) (states ∷ from₃) 0 at₁ end reads₁
            (reads_append s (itself states) from₃ at₁ at₂ end reads₂
            (reads_append s (itself (length ranks)) (ranks ++ (finals ++ from₆)) at₂ at₃ end (subst (λ (n : ℕ). Reads s at₂ (itself n) at₃) (sym h₄.0) reads₃)
            (reads_append s ranks (finals ++ from₆) at₃ at₄ end reads₄
            (reads_append s finals from₆ at₄ at₅ end reads₅
            (reads_append s (itself (length ts)) (transitions_numbers ts) at₅ at₆ end (subst (λ (n : ℕ). Reads s at₅ (itself n) at₆) (sym h₇.0) reads₆) reads₇))))),
        leb→le (length s) end ends,
      )

  told_table : (X : Table) (p : ℕ) → Told s X p → table_read s ≡ found X p
  unfolding table_read
  told_table X p (proper, reads, ends) =
      let from₆ : List ℕ = length X.transitions ∷ transitions_numbers X.transitions in
      let from₃ : List ℕ = length X.ranks ∷ X.ranks ++ (X.finals ++ from₆) in
      reads_split s (itself X.arithmetic) (X.states ∷ from₃) 0 p reads λ at₁ reads₁ behind₁.
      reads_split s (itself X.states) from₃ at₁ p behind₁ λ at₂ reads₂ behind₂.
      reads_split s (itself (length X.ranks)) (X.ranks ++ (X.finals ++ from₆)) at₂ p behind₂ λ at₃ reads₃ behind₃.
      reads_split s X.ranks (X.finals ++ from₆) at₃ p behind₃ λ at₄ reads₄ behind₄.
      reads_split s X.finals from₆ at₄ p behind₄ λ at₅ reads₅ behind₅.
      reads_split s (itself (length X.transitions)) (transitions_numbers X.transitions) at₅ p behind₅ λ at₆ reads₆ reads₇.
      let ranks_small : Each (λ n. (0 ≤ n) × (n ≤ 4)) X.ranks =
      each_implies (λ n. n ≤ 4) (λ n. (0 ≤ n) × (n ≤ 4)) (λ n h. (omega arith, h)) X.ranks proper.ranks_small in
      go_on (within s 0 1 0) _ ((within_reader s small 0 1 (omega arith)).complete 0 X.arithmetic at₁ (omega arith, proper.arithmetic_known) reads₁)
      (go_on (within s 1 256 at₁) _ ((within_reader s small 1 256 (omega arith)).complete at₁ X.states at₂ (proper.states_some, proper.states_few) reads₂)
      (go_on (within s 1 128 at₂) _
      ((within_reader s small 1 128 (omega arith)).complete at₂ (length X.ranks) at₃ (proper.symbols_some, proper.symbols_few) reads₃)
      (go_on (many (within s 0 4) (length X.ranks) at₃) _ ((ranks_reader (length X.ranks)).complete at₃ X.ranks at₄ (refl, ranks_small) reads₄)
      (go_on (many (any s) X.states at₄) _ ((finals_reader X.states).complete at₄ X.finals at₅ (proper.finals_many, proper.finals_fit) reads₅)
      (go_on (within s 0 4000 at₅) _
      ((within_reader s small 0 4000 (omega arith)).complete at₅ (length X.transitions) at₆ (omega arith, proper.transitions_few) reads₆)
      (go_on (transitions_at s X.ranks X.states (length X.transitions) [] at₆) _
      ((transitions_reader s small X.ranks X.states (omega (arith, proper.symbols_few)) (omega (arith, proper.states_few)) (length X.transitions) []).complete
      at₆ X.transitions p (refl, proper.transitions_proper, proper.ascending) reads₇)
      (go_on_under (leb (length s) p) (TableGoesOn p) _ (le→leb (length s) p ends) refl)))))))

-- a number that is written in at most five bytes
abbrev Fits : ℕ → Type 0
Fits n = n < 2 ^ 32

module _ (ranks : List ℕ) (states : ℕ) (symbols_few : length ranks ≤ 2 ^ 32) (states_few : states ≤ 2 ^ 32) where
  transition_fits : (t : Transition) → ProperTransition ranks states t → Each Fits (transition_numbers t)
  transition_fits t h =
      let symbol_known : t.symbol < length ranks = h.symbol_known in
      let target_known : t.target < states = h.target_known in (
        omega arith,
        each_append Fits t.children (t.target ∷ t.code ∷ [])
            (each_implies (λ q. q < states) Fits (λ q l. omega arith) t.children h.children_known)
            (omega arith, (h.code_fits, tt)),
      )

  transitions_fit : (ts : List Transition) → Each (ProperTransition ranks states) ts → Each Fits (transitions_numbers ts)
  transitions_fit [] h = tt
  transitions_fit (t ∷ ts) h = each_append Fits (transition_numbers t) (transitions_numbers ts) (transition_fits t h.0) (transitions_fit ts h.1)

-- every number of a proper table is below 2^32
pub table_fits : (X : Table) → Proper X → Each (λ n. n < 2 ^ 32) (table_numbers X)
table_fits X proper = (
  omega (arith, proper.arithmetic_known),
  (
    omega (arith, proper.states_few),
    (
      omega (arith, proper.symbols_few),
      each_append Fits X.ranks (X.finals ++ (length X.transitions ∷ transitions_numbers X.transitions))
          (each_implies (λ k. k ≤ 4) Fits (λ k l. omega arith) X.ranks proper.ranks_small)
          (each_append Fits X.finals (length X.transitions ∷ transitions_numbers X.transitions) proper.finals_fit (
            omega (arith, proper.transitions_few),
            transitions_fit X.ranks X.states (omega (arith, proper.symbols_few)) (omega (arith, proper.states_few)) X.transitions proper.transitions_proper,
          )),
    ),
  ),
)

-- what is written are bytes
pub table_bytes : (X : Table) → Proper X → (i : ℕ) → get_or (bytes_of X) i 0 < 256
table_bytes X proper i = each-get_or (λ b. b < 256) (bytes_of X) i 0 (written_all_bytes (table_numbers X) (table_fits X proper)) (omega arith)

-- a table that is read is proper, and the bytes are those of the table, to the last
pub table_sound : (s : List ℕ) → ((i : ℕ) → get_or s i 0 < 256) → (X : Table) (p : ℕ) → table_read s ≡ found X p → Proper X × (s ≡ bytes_of X) × (p ≡ length s)
table_sound s small X p e =
    let told : Told s X p = table_told s small X p e in
    let stands : Stands s 0 (bytes_of X) p = reads_stand s small (table_numbers X) 0 p (omega arith) told.1 in
    (told.0, stands.there ∙ ap (◌++◌ (bytes_of X)) (drop_of_length-le s told.2) ∙ append-nil (bytes_of X), omega (arith, stands.inside, told.2))

-- the bytes of a proper table are read as that table
pub table_complete : (X : Table) → Proper X → table_read (bytes_of X) ≡ found X (length (bytes_of X))
table_complete X proper =
    let reads : Reads (bytes_of X) 0 (table_numbers X) (0 + length (bytes_of X)) =
    written_reads (bytes_of X) (table_numbers X) 0 [] (table_fits X proper) (sym (append-nil (bytes_of X))) in
    told_table (bytes_of X) (table_bytes X proper) X (length (bytes_of X)) (proper, subst (Reads (bytes_of X) 0 (table_numbers X)) (zero-add _) reads, omega arith)

-- a proper table has exactly one written form: what is read as that table are its bytes, and nothing else
pub one_form : (X : Table) → Proper X → (s : List ℕ) → ((i : ℕ) → get_or s i 0 < 256) → table_read s ≡ found X (length s) ↔ s ≡ bytes_of X
one_form X proper s small = (λ e. (table_sound s small X (length s) e).1, λ e. rw e (table_complete X proper))

-- no two proper tables have the same bytes
pub one_table : (X Y : Table) → Proper X → Proper Y → bytes_of X ≡ bytes_of Y → X ≡ Y
one_table X Y x y e =
    let e₁ : table_read (bytes_of X) ≡ found X (length (bytes_of X)) = table_complete X x in
    let e₂ : table_read (bytes_of Y) ≡ found Y (length (bytes_of Y)) = table_complete Y y in
    cc
