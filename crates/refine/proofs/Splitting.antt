-- A step of the refinement, put together: members, parts, numbers and marks make a split.
use Prim.Native.Nat.{ℕ, zero, suc, ◌+◌, ◌-◌, ◌≤◌, ◌<◌}
use mathlib.Core.Bool.{Bool, true, false, cond}
use mathlib.Core.List.{List}
use mathlib.Core.Logic.{◌⊎◌, inl, inr, ◌≢◌, ◌↔◌}
use mathlib.Core.Path.{◌≡◌, refl, sym, ap, ◌∙◌, subst}
use native.Mathlib.Decide.{ℕ_discrete, dec_lt}
use native.Mathlib.Omega.{arith}
use borrow.Author.Tests.{eq-eqb, ne_eqb, lt-ltb, le-ltb}
use lib.Dec.{eqb}
use lib.ListN.{length, get_or, take}
use lib.Seq.{get_or-take, length-take-le}
use Rattle.std.specs.Prelude.{Option, Some, None, IfSome}
use Rattle.theory.specs.Blocks.{block_of, blocks_few}
use Rattle.profiles.specs.Entries.{Entry}
use Rattle.profiles.specs.Sums.{sum_at}
use Rattle.dependents.specs.Marks.{Marked, SomeIn}
use Rattle.partition.specs.Numbering.{Numbered}
use Rattle.grouping.specs.Groups.{Same, Grouped}
use Rattle.partition.specs.Parts.{number_of, Renumbered}
use Rattle.partition.specs.Members.{flag, Members, CleanAt, dirty_count}
use Rattle.refine.specs.Splits.{Settled, SplitUp, Parted, PartsNumbered}
use Rattle.theory.specs.Equality.{not_both}

-- whether a state is among the first i found
found_or_not : (found : List ℕ) (i q : ℕ) → ((k : ℕ) × (k < i) × (get_or found k 0 ≡ q)) ⊎ ((k : ℕ) → k < i → get_or found k 0 ≢ q)
found_or_not found zero q = inr (λ k l. absurd (omega arith))
found_or_not found (suc i) q = go (ℕ_discrete (get_or found i 0) q) (found_or_not found i q)
  where
    go : Dec (get_or found i 0 ≡ q) → ((k : ℕ) × (k < i) × (get_or found k 0 ≡ q)) ⊎ ((k : ℕ) → k < i → get_or found k 0 ≢ q)
        → ((k : ℕ) × (k < suc i) × (get_or found k 0 ≡ q)) ⊎ ((k : ℕ) → k < suc i → get_or found k 0 ≢ q)
    go (yes e) r = inl (i, omega arith, e)
    go (no d) (inl r) = inl (r.0, omega (arith, r.1), r.2)
    go (no d) (inr r) = inr (λ k l. last k l (ℕ_discrete k i))
      where
        last : (k : ℕ) → k < suc i → Dec (k ≡ i) → get_or found k 0 ≢ q
        last k l (yes e) = subst (λ (x : ℕ). get_or found x 0 ≢ q) (sym e) d
        last k l (no e) = r k (omega arith)

-- the members are those that stand in the front of the list
pub members_front : {n D count : ℕ} {clean : Option ℕ} {blocks found : List ℕ} {dirty : List Bool} → Members D n blocks dirty found count clean → count ≤ length found
    → Members D n blocks dirty (take count found) (length (take count found)) clean
members_front {n} {D} {count} {clean} {blocks} {found} {dirty} members inside = rw (length-take-le count found inside) (record {
  few = members.few;
  members = λ i l. rw (get_or-take count found i 0 l) (members.members i l);
  dirty_found = λ q l b f. let r = members.dirty_found q l b f in (r.0, r.1, get_or-take count found r.0 0 r.1 ∙ r.2);
  clean_found = front clean members.clean_found;
})
  where
    front : (one : Option ℕ) → CleanAt D n blocks dirty found count one → CleanAt D n blocks dirty (take count found) count one
    front None all = all
    front (Some place) at = (at.0, rw (get_or-take count found place 0 at.0) at.1)

-- the numbers of parts
number_keeper : (keeper D total : ℕ) → number_of keeper D total keeper ≡ D
number_keeper keeper D total = rw (eq-eqb keeper keeper refl)

number_lower : (keeper D total m : ℕ) → m < keeper → number_of keeper D total m ≡ total + m
number_lower keeper D total m l = rw (ne_eqb m keeper (λ e. omega arith), lt-ltb m keeper l)

number_higher : (keeper D total m : ℕ) → keeper < m → number_of keeper D total m ≡ total + m - 1
number_higher keeper D total m l = rw (ne_eqb m keeper (λ e. omega arith), le-ltb m keeper (omega arith))

-- what the number of a part is
data Number (keeper D total m number : ℕ) : Type 0 where
  kept : m ≡ keeper → number ≡ D → Number keeper D total m number
  lower : m < keeper → number ≡ total + m → Number keeper D total m number
  higher : keeper < m → number + 1 ≡ total + m → Number keeper D total m number

number_is : (keeper D total m : ℕ) → Number keeper D total m (number_of keeper D total m)
number_is keeper D total m = go (dec_lt m keeper) (dec_lt keeper m)
  where
    go : Dec (m < keeper) → Dec (keeper < m) → Number keeper D total m (number_of keeper D total m)
    go (yes l) y = lower l (number_lower keeper D total m l)
    go (no h) (yes l) = higher l (omega (arith, number_higher keeper D total m l))
    go (no h) (no k) = let e : m ≡ keeper = omega arith in kept e (ap (number_of keeper D total) e ∙ number_keeper keeper D total)

number_same : (keeper D total m k : ℕ) → D < total → number_of keeper D total m ≡ number_of keeper D total k → m ≡ k
number_same keeper D total m k l e = go (number_is keeper D total m) (number_is keeper D total k)
  where
    go : Number keeper D total m (number_of keeper D total m) → Number keeper D total k (number_of keeper D total k) → m ≡ k
    go (kept a b) (kept c d) = omega arith
    go (kept a b) (lower c d) = absurd (omega arith)
    go (kept a b) (higher c d) = absurd (omega arith)
    go (lower a b) (kept c d) = absurd (omega arith)
    go (lower a b) (lower c d) = omega arith
    go (lower a b) (higher c d) = absurd (omega arith)
    go (higher a b) (kept c d) = absurd (omega arith)
    go (higher a b) (lower c d) = absurd (omega arith)
    go (higher a b) (higher c d) = omega arith

-- fewer flags
count_most : (dirty dirty' : List Bool) (n : ℕ) → ((q : ℕ) → q < n → flag dirty' q ≡ true → flag dirty q ≡ true) → dirty_count dirty' n ≤ dirty_count dirty n
unfolding dirty_count
count_most dirty dirty' zero h = omega arith
count_most dirty dirty' (suc n) h = go (flag dirty n) (flag dirty' n) (h n (omega arith)) (count_most dirty dirty' n (λ q l. h q (omega arith)))
  where
    go : (c d : Bool) → (d ≡ true → c ≡ true) → dirty_count dirty' n ≤ dirty_count dirty n
        → cond d (suc (dirty_count dirty' n)) (dirty_count dirty' n) ≤ cond c (suc (dirty_count dirty n)) (dirty_count dirty n)
    go true true f ih = omega arith
    go true false f ih = omega arith
    go false true f ih = absurd (not_both false (f refl) refl)
    go false false f ih = ih

count_less : (dirty dirty' : List Bool) (n x : ℕ) → ((q : ℕ) → q < n → flag dirty' q ≡ true → flag dirty q ≡ true) → x < n → flag dirty x ≡ true → flag dirty' x ≡ false → dirty_count dirty' n < dirty_count dirty n
unfolding dirty_count
count_less dirty dirty' zero x h l t f = absurd (omega arith)
count_less dirty dirty' (suc n) x h l t f = go (ℕ_discrete x n) (count_less dirty dirty' n x (λ q k. h q (omega arith)))
  where
    most : dirty_count dirty' n ≤ dirty_count dirty n
    most = count_most dirty dirty' n (λ q k. h q (omega arith))

    both : (c d : Bool) → (d ≡ true → c ≡ true) → dirty_count dirty' n < dirty_count dirty n
        → cond d (suc (dirty_count dirty' n)) (dirty_count dirty' n) < cond c (suc (dirty_count dirty n)) (dirty_count dirty n)
    both true true k ih = omega arith
    both true false k ih = omega arith
    both false true k ih = absurd (not_both false (k refl) refl)
    both false false k ih = ih

    go : Dec (x ≡ n) → (x < n → flag dirty x ≡ true → flag dirty' x ≡ false → dirty_count dirty' n < dirty_count dirty n)
        → cond (flag dirty' n) (suc (dirty_count dirty' n)) (dirty_count dirty' n) < cond (flag dirty n) (suc (dirty_count dirty n)) (dirty_count dirty n)
    go (yes e) ih =
        let t' : flag dirty n ≡ true = rw e at t in
        let f' : flag dirty' n ≡ false = rw e at f in
        rw (t', f') (omega (arith, most))
    go (no d) ih = both (flag dirty n) (flag dirty' n) (h n (omega arith)) (ih (omega arith) t f)

module _ {a : ℕ} {profile : ℕ → List Entry} {n D total many parts keeper : ℕ} {clean : Option ℕ} {blocks : List ℕ} {dirty : List Bool} {found part : List ℕ}
    (numbered : Numbered n blocks total) (members : Members D n blocks dirty found many clean) (grouped : Grouped a profile many found parts part)
    (keeps : keeper < parts) where
  -- a state that is found twice is in one part
  split_agree : (i k : ℕ) → i < many → k < many → get_or found i 0 ≡ get_or found k 0 → get_or part i 0 ≡ get_or part k 0
  split_agree i k l m e = grouped.apart i k l m (λ j. ap (λ (q : ℕ). sum_at a (profile q) j) e)

  block_known : D < total
  block_known =
      let r = grouped.met keeper keeps in
      let m = members.members r.0 r.1 in
      omega (arith, m.1, numbered.below (get_or found r.0 0) m.0)

  -- if members have the numbers of their parts and the states of other blocks theirs, all numbers are used
  all_used : (c : ℕ → ℕ) → ((k : ℕ) → k < many → c (get_or found k 0) ≡ number_of keeper D total (get_or part k 0)) → ((q : ℕ) → q < n → get_or blocks q 0 ≢ D → c q ≡ get_or blocks q 0)
      → (E : ℕ) → E < total + parts - 1 → (q : ℕ) × (q < n) × (c q ≡ E)
  all_used c own else E l = go (dec_lt E total)
    where
      of_part : (m : ℕ) → m < parts → number_of keeper D total m ≡ E → (q : ℕ) × (q < n) × (c q ≡ E)
      of_part m h e = let r = grouped.met m h in (get_or found r.0 0, (members.members r.0 r.1).0, own r.0 r.1 ∙ ap (number_of keeper D total) r.2 ∙ e)

      fresh : (e : ℕ) → E ≡ total + e → Dec (e < keeper) → (q : ℕ) × (q < n) × (c q ≡ E)
      fresh e is (yes h) = of_part e (omega arith) (number_lower keeper D total e h ∙ sym is)
      fresh e is (no h) = of_part (e + 1) (omega arith) (omega (arith, number_higher keeper D total (e + 1) (omega arith)))

      old : E < total → Dec (E ≡ D) → (q : ℕ) × (q < n) × (c q ≡ E)
      old h (yes e) = of_part keeper keeps (number_keeper keeper D total ∙ sym e)
      old h (no d) = let u = numbered.used E h in (u.0, u.1, else u.0 u.1 (λ e. d (sym u.2 ∙ e)) ∙ u.2)

      go : Dec (E < total) → (q : ℕ) × (q < n) × (c q ≡ E)
      go (yes h) = old h (ℕ_discrete E D)
      go (no h) = fresh (E - total) (omega arith) (dec_lt (E - total) keeper)

  -- the numbers to come, before they are given
  planned : ℕ → ℕ → ℕ
  planned zero q = get_or blocks q 0
  planned (suc i) q = cond (eqb (get_or found i 0) q) (number_of keeper D total (get_or part i 0)) (planned i q)

  planned_own : (i k : ℕ) → i ≤ many → k < i → planned i (get_or found k 0) ≡ number_of keeper D total (get_or part k 0)
  unfolding planned
  planned_own zero k h l = absurd (omega arith)
  planned_own (suc i) k h l = go (ℕ_discrete (get_or found i 0) (get_or found k 0)) (planned_own i k (omega arith))
    where
      go : Dec (get_or found i 0 ≡ get_or found k 0) → (k < i → planned i (get_or found k 0) ≡ number_of keeper D total (get_or part k 0))
          → cond (eqb (get_or found i 0) (get_or found k 0)) (number_of keeper D total (get_or part i 0)) (planned i (get_or found k 0)) ≡ number_of keeper D total (get_or part k 0)
      go (yes e) ih = rw (eq-eqb (get_or found i 0) (get_or found k 0) e) (ap (number_of keeper D total) (split_agree i k (omega arith) (omega arith) e))
      go (no d) ih = rw (ne_eqb (get_or found i 0) (get_or found k 0) d) (ih (earlier (ℕ_discrete k i)))
        where
          earlier : Dec (k ≡ i) → k < i
          earlier (yes e) = absurd (d (ap (λ (x : ℕ). get_or found x 0) (sym e)))
          earlier (no e) = omega arith

  planned_else : (i q : ℕ) → i ≤ many → get_or blocks q 0 ≢ D → planned i q ≡ get_or blocks q 0
  unfolding planned
  planned_else zero q h d = refl
  planned_else (suc i) q h d = rw (ne_eqb (get_or found i 0) q (λ e. d (ap (λ (x : ℕ). get_or blocks x 0) (sym e) ∙ (members.members i (omega arith)).1))) (planned_else i q (omega arith) d)

  split_few : total + parts - 1 ≤ n
  split_few = blocks_few n (planned many) (total + parts - 1) (all_used (planned many) (λ k l. planned_own many k (omega arith) l) (λ q l d. planned_else many q (omega arith) d))

  module _ (Depend : ℕ → ℕ → Type 0) {blocks' : List ℕ} {dirty' dirty'' : List Bool} (settled : Settled a profile n blocks dirty)
      (of_clean : IfSome clean (λ place. keeper ≡ get_or part place 0)) (renumbered : Renumbered many D total keeper found part blocks dirty blocks' dirty')
      (marks : Marked (λ q. SomeIn 0 many (λ i. (get_or part i 0 ≢ keeper) × Depend (get_or found i 0) q)) dirty' dirty'') where
    away : (q : ℕ) → get_or blocks q 0 ≢ D → (k : ℕ) → k < many → get_or found k 0 ≢ q
    away q d k l e = d (ap (λ (x : ℕ). get_or blocks x 0) (sym e) ∙ (members.members k l).1)

    elsewhere : (q : ℕ) → get_or blocks q 0 ≢ D → get_or blocks' q 0 ≡ get_or blocks q 0
    elsewhere q d = (renumbered.others q (away q d)).0

    -- the part of each member of the block
    pub record In (p : ℕ) : Type 0 where
      pub place : ℕ
      pub placed : place < many
      pub number : get_or blocks' p 0 ≡ number_of keeper D total (get_or part place 0)
      pub same : Same a (profile p) (profile (get_or found place 0))

    located : (p : ℕ) → p < n → get_or blocks p 0 ≡ D → In p
    located p l b = go (found_or_not found many p)
      where
        profile_of : (q : ℕ) → q ≡ p → Same a (profile p) (profile q)
        profile_of q e j = ap (λ (x : ℕ). sum_at a (profile x) j) (sym e)

        unfound : ((k : ℕ) → k < many → get_or found k 0 ≢ p) → (c : Bool) → flag dirty p ≡ c → In p
        unfound none true t = let r = members.dirty_found p l b t in absurd (none r.0 r.1 r.2)
        unfound none false f = of_one clean members.clean_found of_clean
          where
            of_one : (one : Option ℕ) → CleanAt D n blocks dirty found many one → IfSome one (λ place. keeper ≡ get_or part place 0) → In p
            of_one None all keeps = absurd (not_both (flag dirty p) (all p l b) f)
            of_one (Some place) at keeps =
                let own = members.members place at.0 in
                record {
                  place = place;
                  placed = at.0;
                  number = (renumbered.others p none).0 ∙ b ∙ sym (number_keeper keeper D total) ∙ ap (number_of keeper D total) keeps;
                  same = settled p (get_or found place 0) l own.0 f at.1 (b ∙ sym own.1);
                }

        go : ((k : ℕ) × (k < many) × (get_or found k 0 ≡ p)) ⊎ ((k : ℕ) → k < many → get_or found k 0 ≢ p) → In p
        go (inl r) = record {
          place = r.0;
          placed = r.1;
          number = ap (λ (x : ℕ). get_or blocks' x 0) (sym r.2) ∙ renumbered.numbered r.0 r.1;
          same = profile_of (get_or found r.0 0) r.2;
        }
        go (inr none) = unfound none (flag dirty p) refl

    parts_same : (p q : ℕ) → p < n → q < n → get_or blocks p 0 ≡ D → get_or blocks q 0 ≡ D → (get_or blocks' p 0 ≡ get_or blocks' q 0) ↔ Same a (profile p) (profile q)
    parts_same p q lp lq bp bq =
        let x = located p lp bp in
        let y = located q lq bq in (
          λ e.
              let m = number_same keeper D total (get_or part x.place 0) (get_or part y.place 0) block_known (sym x.number ∙ e ∙ y.number) in
              λ j. x.same j ∙ grouped.together x.place y.place x.placed y.placed m j ∙ sym (y.same j),
          λ s. x.number ∙ ap (number_of keeper D total) (grouped.apart x.place y.place x.placed y.placed (λ j. sym (x.same j) ∙ s j ∙ y.same j)) ∙ sym y.number,
        )

    parts_apart : (p q : ℕ) → p < n → q < n → get_or blocks p 0 ≡ D → get_or blocks q 0 ≢ D → get_or blocks' p 0 ≢ get_or blocks' q 0
    parts_apart p q lp lq bp bq e =
        let x = located p lp bp in
        let other : number_of keeper D total (get_or part x.place 0) ≡ get_or blocks q 0 = sym x.number ∙ e ∙ elsewhere q bq in
        go (number_is keeper D total (get_or part x.place 0)) other
      where
        go : {m : ℕ} → Number keeper D total m (number_of keeper D total m) → number_of keeper D total m ≡ get_or blocks q 0 → ⊥
        go (kept h k) o = bq (sym o ∙ k)
        go (lower h k) o = omega (arith, numbered.below q lq)
        go (higher h k) o = omega (arith, numbered.below q lq)

    cleared : (p : ℕ) → flag dirty'' p ≡ false → get_or blocks p 0 ≢ D → flag dirty p ≡ false
    cleared p f d = go (flag dirty p) refl
      where
        go : (c : Bool) → flag dirty p ≡ c → flag dirty p ≡ false
        go true t = absurd (not_both (flag dirty'' p) (marks.kept p ((renumbered.others p (away p d)).1 ∙ t)) f)
        go false e = e

    marked : (p : ℕ) → flag dirty'' p ≡ false → (r : ℕ) → r < n → Depend r p → get_or blocks r 0 ≡ get_or blocks' r 0
    marked p f r l h = go (found_or_not found many r)
      where
        moved : (k : ℕ) → k < many → get_or found k 0 ≡ r → Dec (get_or part k 0 ≡ keeper) → get_or blocks r 0 ≡ get_or blocks' r 0
        moved k m e (yes d) = sym (ap (λ (x : ℕ). get_or blocks x 0) e) ∙ (members.members k m).1
            ∙ sym (number_keeper keeper D total) ∙ ap (number_of keeper D total) (sym d) ∙ sym (renumbered.numbered k m) ∙ ap (λ (x : ℕ). get_or blocks' x 0) e
        moved k m e (no d) = absurd (not_both (flag dirty'' p) (marks.marked p (k, omega arith, m, (d, subst (λ (x : ℕ). Depend x p) (sym e) h))) f)

        go : ((k : ℕ) × (k < many) × (get_or found k 0 ≡ r)) ⊎ ((k : ℕ) → k < many → get_or found k 0 ≢ r) → get_or blocks r 0 ≡ get_or blocks' r 0
        go (inl k) = moved k.0 k.1 k.2 (ℕ_discrete (get_or part k.0 0) keeper)
        go (inr none) = sym (renumbered.others r none).0

    numbered' : Numbered n blocks' (total + parts - 1)
    numbered' = record {
      below = λ q l. below q l (ℕ_discrete (get_or blocks q 0) D);
      used = all_used (block_of blocks') (λ k l. renumbered.numbered k l) (λ q l d. elsewhere q d);
      long = renumbered.blocks_long;
    }
      where
        fits : {m : ℕ} → Number keeper D total m (number_of keeper D total m) → m < parts → number_of keeper D total m < total + parts - 1
        fits (kept h k) l = omega (arith, block_known)
        fits (lower h k) l = omega arith
        fits (higher h k) l = omega arith

        below : (q : ℕ) → q < n → Dec (get_or blocks q 0 ≡ D) → get_or blocks' q 0 < total + parts - 1
        below q l (yes e) = let x = located q l e in rw x.number (fits (number_is keeper D total (get_or part x.place 0)) (grouped.within x.place x.placed))
        below q l (no d) = rw (elsewhere q d) (omega (arith, numbered.below q l))

    split_up : (1 < parts) ⊎ ((parts ≡ 1) × (dirty_count dirty'' n < dirty_count dirty n))
        → SplitUp a profile Depend n D blocks dirty total blocks' dirty'' (total + parts - 1)
    split_up more = record {
      elsewhere = λ p l d. elsewhere p d;
      parts = parts_same;
      apart = parts_apart;
      cleared = λ p l f d. cleared p f d;
      marked = λ p l f r m h. marked p f r m h;
      numbered = numbered';
      dirty_long = marks.long;
      progress = elim more [ inl h ↦ inl (omega arith) | inr e ↦ inr (omega (arith, e.0), e.1) ];
    }

  -- the dirt of the block is cleared
  fewer_dirty : {blocks' : List ℕ} {dirty' : List Bool} → Renumbered many D total keeper found part blocks dirty blocks' dirty' → (x : ℕ) → x < n → get_or blocks x 0 ≡ D → flag dirty x ≡ true
      → dirty_count dirty' n < dirty_count dirty n
  fewer_dirty {dirty' = dirty'} renumbered x l b t = count_less dirty dirty' n x (λ q h e. was q e (found_or_not found many q)) l t
      (let r = members.dirty_found x l b t in subst (λ (y : ℕ). flag dirty' y ≡ false) r.2 (renumbered.cleared r.0 r.1))
    where
      was : (q : ℕ) → flag dirty' q ≡ true → ((k : ℕ) × (k < many) × (get_or found k 0 ≡ q)) ⊎ ((k : ℕ) → k < many → get_or found k 0 ≢ q) → flag dirty q ≡ true
      was q e (inl r) = absurd (not_both (flag dirty' q) e (subst (λ (y : ℕ). flag dirty' y ≡ false) r.2 (renumbered.cleared r.0 r.1)))
      was q e (inr none) = sym (renumbered.others q none).1 ∙ e

place_known : (D n many : ℕ) (blocks found : List ℕ) (dirty : List Bool) (one : Option ℕ) → CleanAt D n blocks dirty found many one → IfSome one (λ place. place < many)
place_known D n many blocks found dirty None all = tt
place_known D n many blocks found dirty (Some place) at = at.0

module _ {a : ℕ} {profile : ℕ → List Entry} {n D total many parts : ℕ} {clean : Option ℕ} {blocks : List ℕ} {dirty : List Bool} {found part : List ℕ}
    (numbered : Numbered n blocks total) (members : Members D n blocks dirty found many clean) (grouped : Grouped a profile many found parts part)
    (x : ℕ) (known : x < n) (own : get_or blocks x 0 ≡ D) (is-dirty : flag dirty x ≡ true) where
  -- the parts of a block with a dirty state can be given numbers
  pub parted : n ≤ 256 → Parted total many clean found parts part
  parted few =
      let some : 0 < many = omega (arith, (members.dirty_found x known own is-dirty).1) in
      let keeps = grouped.within 0 some in
      record {
        some = some;
        few = omega (arith, members.few);
        parts_few = grouped.few;
        numbers_few = omega (arith, split_few numbered members grouped keeps);
        within = grouped.within;
        one_part = split_agree numbered members grouped keeps;
        clean_place = place_known D n many blocks found dirty clean members.clean_found;
      }

  -- with those numbers, and the marks, the block is split
  pub parts_split : {Depend : ℕ → ℕ → Type 0} {blocks' : List ℕ} {dirty' : List Bool} → Settled a profile n blocks dirty → PartsNumbered Depend D total many clean found parts part blocks dirty blocks' dirty'
      → SplitUp a profile Depend n D blocks dirty total blocks' dirty' (total + parts - 1)
  parts_split {Depend} {dirty' = dirty'} settled given =
      split_up numbered members grouped given.keeps Depend settled given.of_clean given.renumbered given.marked (progress (ℕ_discrete parts 1))
    where
      progress : Dec (parts ≡ 1) → (1 < parts) ⊎ ((parts ≡ 1) × (dirty_count dirty' n < dirty_count dirty n))
      progress (yes e) = inr (e, rw (given.unmarked e) (fewer_dirty numbered members grouped given.keeps given.renumbered x known own is-dirty))
      progress (no d) = inl (omega (arith, given.keeps))
