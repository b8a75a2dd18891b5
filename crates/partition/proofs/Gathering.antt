-- The members that a step looks at: the dirty ones, found state by state until none is left, and a clean one.
use Prim.Native.Nat.{ℕ, ◌+◌, ◌-◌, ◌≤◌, ◌<◌}
use mathlib.Core.Bool.{Bool, true, false}
use mathlib.Core.List.{List}
use mathlib.Core.Logic.{◌≢◌}
use mathlib.Core.Path.{◌≡◌, sym, ◌∙◌, subst}
use native.Mathlib.Decide.{ℕ_discrete, dec_lt}
use native.Mathlib.Omega.{arith}
use borrow.Author.Count.{below_more}
use lib.ListN.{length, get_or, set, length-set}
use lib.Seq.{get_or-set_same, get_or-set_other}
use Rattle.std.specs.Prelude.{Some, None}
use Rattle.states.specs.declared.State.{State}
use Rattle.theory.specs.Equality.{not_both}
use Rattle.partition.specs.Members.{flag, dirty_count, DirtyMembers, CleanMember, Members}
use Rattle.partition.proofs.Counting.{counting_dirty, counting_clean, count_few, count_above, count_below, count_none}

-- one more entry of a list
module _ (found : List ℕ) (count : ℕ) (room : count < length found) (p : ℕ) where
  at_last : get_or (set found count p) count 0 ≡ p
  at_last = get_or-set_same found count p 0 room

  before_last : (i : ℕ) → i < count → get_or (set found count p) i 0 ≡ get_or found i 0
  before_last i l = get_or-set_other found count i p 0 (λ e. omega arith)

  -- what holds of the entries so far, and of p, holds of all of them
  each : (P : ℕ → Type 0) → ((i : ℕ) → i < count → P (get_or found i 0)) → P p → (i : ℕ) → i < count + 1 → P (get_or (set found count p) i 0)
  each P old new =
      below_more (λ (i : ℕ). P (get_or (set found count p) i 0)) count (λ i h. subst P (sym (before_last i h)) (old i h)) (subst P (sym at_last) new)

module _ (D : ℕ) (blocks : List ℕ) (dirty : List Bool) where
  -- the dirty members below q are found, and `left` of the n states, all from q on, are dirty
  pub record Gathering (n : ℕ) (found : List ℕ) (left count q : ℕ) : Type 0 where
    pub rest : left + dirty_count dirty q ≡ dirty_count dirty n
    pub so_far : DirtyMembers D q blocks dirty found count
    pub long : length found ≡ 256

  pub gathering_starts : (n : ℕ) (found : List ℕ) (left first : ℕ) → length found ≡ 256 → left ≡ dirty_count dirty n → ((q : ℕ) → q < first → flag dirty q ≡ false)
      → Gathering n found left 0 first
  gathering_starts n found left first long all clean = record {
    rest = omega (arith, all, count_none dirty first clean);
    so_far = record {
      few = omega arith;
      members = λ i l. absurd (omega arith);
      dirty_found = λ q l b f. absurd (not_both (flag dirty q) f (clean q l));
    };
    long = long;
  }

  module _ (n : ℕ) (found : List ℕ) (left count q : ℕ) (now : Gathering n found left count q) where
    pub gathering_few : count ≤ q
    gathering_few = omega (arith, now.so_far.few, count_few dirty q)

    -- q is no dirty member
    passed : (get_or blocks q 0 ≡ D → flag dirty q ≡ false) → (r : ℕ) → r < q + 1 → get_or blocks r 0 ≡ D → flag dirty r ≡ true → (i : ℕ) × (i < count) × (get_or found i 0 ≡ r)
    passed not-dirty r l b f = go (ℕ_discrete r q)
      where
        go : Dec (r ≡ q) → (i : ℕ) × (i < count) × (get_or found i 0 ≡ r)
        go (yes e) = absurd (not_both (flag dirty q) (rw e at f) (not-dirty (rw e at b)))
        go (no d) = now.so_far.dirty_found r (omega arith) b f

    passes : (get_or blocks q 0 ≡ D → flag dirty q ≡ false) → dirty_count dirty q ≤ dirty_count dirty (q + 1) → DirtyMembers D (q + 1) blocks dirty found count
    passes not-dirty more = record {
      few = omega (arith, now.so_far.few);
      members = λ i l. let m = now.so_far.members i l in (omega (arith, m.0), m.1);
      dirty_found = passed not-dirty;
    }

    pub gathering_clean : flag dirty q ≡ false → Gathering n found left count (q + 1)
    gathering_clean f = record {
      rest = omega (arith, now.rest, counting_clean dirty q f);
      so_far = passes (λ b. f) (omega (arith, counting_clean dirty q f));
      long = now.long;
    }

    module _ (some : 0 < left) (f : flag dirty q ≡ true) where
      one_less : left - 1 + dirty_count dirty (q + 1) ≡ dirty_count dirty n
      one_less = omega (arith, now.rest, counting_dirty dirty q f)

      pub gathering_elsewhere : get_or blocks q 0 ≢ D → Gathering n found (left - 1) count (q + 1)
      gathering_elsewhere away = record {
        rest = one_less;
        so_far = passes (λ b. absurd (away b)) (omega (arith, counting_dirty dirty q f));
        long = now.long;
      }

      pub gathering_takes : q < 256 → get_or blocks q 0 ≡ D → Gathering n (set found count q) (left - 1) (count + 1) (q + 1)
      gathering_takes inside member = record {
        rest = one_less;
        so_far = record {
          few = omega (arith, now.so_far.few, counting_dirty dirty q f);
          members = each found count room q (λ (x : ℕ). (x < q + 1) × (get_or blocks x 0 ≡ D)) (λ i l. let m = now.so_far.members i l in (omega (arith, m.0), m.1)) (omega arith, member);
          dirty_found = λ r l b g. dirties r l b g (ℕ_discrete r q);
        };
        long = length-set found count q ∙ now.long;
      }
        where
          room : count < length found
          room = omega (arith, gathering_few, now.long)

          dirties : (r : ℕ) → r < q + 1 → get_or blocks r 0 ≡ D → flag dirty r ≡ true → Dec (r ≡ q) → (i : ℕ) × (i < count + 1) × (get_or (set found count q) i 0 ≡ r)
          dirties r l b g (yes e) = (count, omega arith, at_last found count room q ∙ sym e)
          dirties r l b g (no d) = let m = now.so_far.dirty_found r (omega arith) b g in (m.0, omega (arith, m.1), before_last found count room q m.0 m.1 ∙ m.2)

    pub gathering_ends : left ≡ 0 → q ≤ n → DirtyMembers D n blocks dirty found count
    gathering_ends none inside = record {
      few = omega (arith, now.so_far.few, now.rest);
      members = λ i l. let m = now.so_far.members i l in (omega (arith, m.0), m.1);
      dirty_found = λ r l b f. go r l b f (dec_lt r q);
    }
      where
        go : (r : ℕ) → r < n → get_or blocks r 0 ≡ D → flag dirty r ≡ true → Dec (r < q) → (i : ℕ) × (i < count) × (get_or found i 0 ≡ r)
        go r l b f (yes h) = now.so_far.dirty_found r h b f
        go r l b f (no h) = absurd (omega (arith, count_above dirty q r n (omega arith) l f, now.rest))

    -- the loop's invariant: all dirty members are found once none of the dirty states is left
    pub gathering_to_end : q ≤ n → Gathering n found left count q × (left ≡ 0 → DirtyMembers D n blocks dirty found count)
    gathering_to_end inside = (now, λ none. gathering_ends none inside)

  -- the dirty members, and the clean one if there is one
  module _ (n : ℕ) (found : List ℕ) (count : ℕ) (dirties : DirtyMembers D n blocks dirty found count) where
    pub gathered_dirty : CleanMember D n blocks dirty None → Members D n blocks dirty found count None
    gathered_dirty none = record {
      few = omega (arith, dirties.few, count_few dirty n);
      members = dirties.members;
      dirty_found = dirties.dirty_found;
      clean_found = none;
    }

    module _ (p : State) (clean : CleanMember D n blocks dirty (Some p)) where
      -- the clean member is not among the dirty ones, so there is room for it
      pub gathered_room : count < n
      gathered_room = omega (arith, dirties.few, count_below dirty p.0 n clean.0 clean.2)

      pub gathered_both : n ≤ length found → Members D n blocks dirty (set found count p.0) (count + 1) (Some count)
      gathered_both few = record {
        few = omega (arith, gathered_room);
        members = each found count room p.0 (λ (x : ℕ). (x < n) × (get_or blocks x 0 ≡ D)) dirties.members (clean.0, clean.1);
        dirty_found = λ q l b f. let m = dirties.dirty_found q l b f in (m.0, omega (arith, m.1), before_last found count room p.0 m.0 m.1 ∙ m.2);
        clean_found = (omega arith, rw (at_last found count room p.0) clean.2);
      }
        where
          room : count < length found
          room = omega (arith, gathered_room)
