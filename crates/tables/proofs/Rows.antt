-- The invariant of the loop that reads the transitions: the rows in the columns so far, and what the definition finds from here on,
-- make up what the definition finds as a whole.
use Rattle.std.proofs.Common.{ℕ, zero, suc, ◌+◌, ◌-◌, ◌*◌, ◌≤◌, ◌<◌, ◌≡◌, refl, sym, ap, ◌∙◌, true, false, List, [], ◌∷◌, ◌++◌, take, drop, get_or, append_assoc, append-nil, add-one, add-zero, zero-add, arith}
use Rattle.std.proofs.Math.Nat.{sub-zero}
use Rattle.std.proofs.lemmas.List.{get_or-take}
use Rattle.answers.specs.declared.Refusal.{Refusal}
use Rattle.answers.specs.declared.Refusal.TheVariants.{NotAbove}
use Rattle.model.specs.Table.{Transition, key, lower}
use Rattle.format.specs.Read.{Found, found, refused, after, transition_at, transitions_at}
use Rattle.tables.specs.Record.{Columns, row_at, rows_from}
use Rattle.tables.specs.Rows.{key_below, part_of_front}
use Rattle.tables.specs.Steps.{Small, Kept}

-- what was found so far, in front of what is found from here on
abbrev pub prefixed : {A : Type 0} → List A → Found (List A) → Found (List A)
prefixed xs (found ys end) = found (xs ++ ys) end
prefixed xs (refused refusal) = refused refusal

pub prefixed_none : {A : Type 0} (r : Found (List A)) → prefixed [] r ≡ r
prefixed_none (found ys end) = refl
prefixed_none (refused refusal) = refl

pub prefixed_prefixed : {A : Type 0} (xs ys : List A) (r : Found (List A)) → prefixed xs (prefixed ys r) ≡ prefixed (xs ++ ys) r
prefixed_prefixed xs ys (found zs end) = ap (λ (l : List _). found l end) (sym (append_assoc xs ys zs))
prefixed_prefixed xs ys (refused refusal) = refl

-- rows of the columns
rows_same : (c d : Columns) (m k : ℕ) → ((i : ℕ) → m ≤ i → i < m + k → row_at c i ≡ row_at d i) → rows_from c m k ≡ rows_from d m k
unfolding rows_from
rows_same c d m zero h = refl
rows_same c d m (suc k) h = rw (h m (omega arith) (omega arith), rows_same c d (suc m) k (λ i p q. h i (omega arith) (omega arith)))

rows_snoc : (c : Columns) (m k : ℕ) → rows_from c m (suc k) ≡ rows_from c m k ++ (row_at c (m + k) ∷ [])
unfolding rows_from
rows_snoc c m zero = rw (add-zero m)
rows_snoc c m (suc k) = let e : m + suc k ≡ suc m + k = omega arith in rw (e) (ap (λ (l : List Transition). row_at c m ∷ l) (rows_snoc c (suc m) k))

module _ (before columns : Columns) (j : ℕ) (kept : Kept j before columns) (small : Small before.ranks) where
  same_at : (l r : List ℕ) (i : ℕ) → i < j → take j l ≡ take j r → get_or l i 0 ≡ get_or r i 0
  same_at l r i h e = sym (get_or-take j l i 0 h) ∙ ap (λ (x : List ℕ). get_or x i 0) e ∙ get_or-take j r i 0 h

  same_part : (r i : ℕ) → i < j → r ≤ 4 → take r (drop (i * 4) columns.children) ≡ take r (drop (i * 4) before.children)
  same_part r i h k =
      sym (part_of_front r (i * 4) (j * 4) columns.children (omega arith))
      ∙ ap (λ (x : List ℕ). take r (drop (i * 4) x)) kept.children
      ∙ part_of_front r (i * 4) (j * 4) before.children (omega arith)

  row_same : (i : ℕ) → i < j → row_at columns i ≡ row_at before i
  row_same i h =
      rw (
        kept.ranks,
        same_at columns.symbol before.symbol i h kept.symbol,
        same_part (get_or before.ranks (get_or before.symbol i 0) 0) i h (small (get_or before.symbol i 0)),
        same_at columns.target before.target i h kept.target,
        same_at columns.code before.code i h kept.code,
      )

  rows_kept : rows_from columns 0 j ≡ rows_from before 0 j
  rows_kept = rows_same columns before 0 j (λ i p q. row_same i (omega arith))

key_kept : (before columns : Columns) (j : ℕ) → Kept j before columns → Small before.ranks → key_below columns j ≡ key_below before j
key_kept before columns zero kept small = refl
key_kept before columns (suc j) kept small = ap key (row_same before columns (suc j) kept small j (omega arith))

-- the transitions from one on
module _ (s ranks : List ℕ) (states : ℕ) where
  behind_one : (t : Transition) (r : Found (List Transition)) → after r (λ ts end. found (t ∷ ts) end) ≡ prefixed (t ∷ []) r
  behind_one t (found ts end) = refl
  behind_one t (refused refusal) = refl

  transitions_none : (at : ℕ) (before : List ℕ) → transitions_at s ranks states 0 before at ≡ found [] at
  unfolding transitions_at
  transitions_none at before = refl

  module _ (k at : ℕ) (before : List ℕ) where
    transitions_refused : (refusal : Refusal) → transition_at s ranks states at ≡ refused refusal → transitions_at s ranks states (suc k) before at ≡ refused refusal
    unfolding transitions_at
    transitions_refused refusal e = rw e

    module _ (t : Transition) (next : ℕ) (e : transition_at s ranks states at ≡ found t next) where
      transitions_found : lower before (key t) ≡ true → transitions_at s ranks states (suc k) before at ≡ prefixed (t ∷ []) (transitions_at s ranks states k (key t) next)
      unfolding transitions_at
      transitions_found above = rw (e, above) (behind_one t (transitions_at s ranks states k (key t) next))

      transitions_fall : lower before (key t) ≡ false → transitions_at s ranks states (suc k) before at ≡ refused (NotAbove at)
      unfolding transitions_at
      transitions_fall below = rw (e, below)

-- j of `count` transitions are read into the columns, and the next place is `at`
pub record Rowing (s ranks : List ℕ) (states count start : ℕ) (columns : Columns) (j at : ℕ) : Type 0 where
  pub rest : prefixed (rows_from columns 0 j) (transitions_at s ranks states (count - j) (key_below columns j) at) ≡ transitions_at s ranks states count [] start

module _ (s ranks : List ℕ) (states count start : ℕ) where
  pub rowing_starts : (columns : Columns) → Rowing s ranks states count start columns 0 start
  unfolding rows_from
  rowing_starts columns = record { rest = rw (sub-zero count) (prefixed_none (transitions_at s ranks states count [] start)) }

  module _ (before : Columns) (j at : ℕ) (so_far : Rowing s ranks states count start before j at) (more : j < count) where
    one_less : count - j ≡ suc (count - (j + 1))
    one_less = omega arith

    -- no transition is found, and that is the answer
    pub rowing_refused : (refusal : Refusal) → transition_at s ranks states at ≡ refused refusal → transitions_at s ranks states count [] start ≡ refused refusal
    rowing_refused refusal e = sym (rw (one_less, transitions_refused s ranks states (count - (j + 1)) at (key_below before j) refusal e) at so_far.rest)

    -- transition j is found, and is row j of the columns
    module _ (columns : Columns) (next : ℕ) (e : transition_at s ranks states at ≡ found (row_at columns j) next) (kept : Kept j before columns) (small : Small before.ranks) where
      pub rowing_falls : lower (key_below columns j) (key (row_at columns j)) ≡ false → transitions_at s ranks states count [] start ≡ refused (NotAbove at)
      rowing_falls low =
          let low' : lower (key_below before j) (key (row_at columns j)) ≡ false = rw (key_kept before columns j kept small) at low in
          sym (rw (one_less, transitions_fall s ranks states (count - (j + 1)) at (key_below before j) (row_at columns j) next e low') at so_far.rest)

      pub rowing_goes_on : lower (key_below columns j) (key (row_at columns j)) ≡ true → Rowing s ranks states count start columns (j + 1) next
      rowing_goes_on high =
          let high' : lower (key_below before j) (key (row_at columns j)) ≡ true = rw (key_kept before columns j kept small) at high in
          let rows : rows_from columns 0 (j + 1) ≡ rows_from before 0 j ++ (row_at columns j ∷ []) =
          rw (add-one j, rows_snoc columns 0 j, zero-add j, rows_kept before columns j kept small) in
          let below : key_below columns (j + 1) ≡ key (row_at columns j) = rw (add-one j) in
          record {
            rest =
                rw (
                  rows,
                  below,
                  ← prefixed_prefixed (rows_from before 0 j) (row_at columns j ∷ []) (transitions_at s ranks states (count - (j + 1)) (key (row_at columns j)) next),
                  ← transitions_found s ranks states (count - (j + 1)) at (key_below before j) (row_at columns j) next e high',
                  ← one_less,
                )
                so_far.rest;
          }

  pub rowing_ends : (columns : Columns) (j at : ℕ) → Rowing s ranks states count start columns j at → j ≡ count
      → transitions_at s ranks states count [] start ≡ found (rows_from columns 0 count) at
  rowing_ends columns j at so_far all =
      let none : count - j ≡ 0 = omega arith in
      sym (rw (none, transitions_none s ranks states at (key_below columns j), append-nil, all) at so_far.rest)
