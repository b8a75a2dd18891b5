-- Members are put into parts by comparing them with the leader of each part found so far.
use Prim.Native.Nat.{ℕ, ◌+◌, ◌≤◌, ◌<◌}
use mathlib.Core.List.{List}
use mathlib.Core.Path.{◌≡◌, refl, sym, ◌∙◌, subst}
use native.Mathlib.Decide.{dec_lt}
use native.Mathlib.Omega.{arith}
use lib.ListN.{length, get_or, set, take}
use Rattle.std.proofs.Common.{get_or-take, length-take-le}
use lib.Seq.{get_or-set_same, get_or-set_other}
use Rattle.profiles.specs.Entries.{Entry}
use Rattle.grouping.specs.Groups.{Same, FirstSame, Grouped}

module _ (a : ℕ) (profile : ℕ → List Entry) where
  same_sym : (p q : ℕ) → Same a (profile p) (profile q) → Same a (profile q) (profile p)
  same_sym p q h j = sym (h j)

  same_trans : (p q r : ℕ) → Same a (profile p) (profile q) → Same a (profile q) (profile r) → Same a (profile p) (profile r)
  same_trans p q r h i j = h j ∙ i j

  -- the first of the leaders in use, found among these alone
  pub found_among : (p parts m : ℕ) (leaders : List ℕ) → parts ≤ length leaders → FirstSame a profile p (length (take parts leaders)) (take parts leaders) m → FirstSame a profile p parts leaders m
  found_among p parts m leaders few first =
      let whole : length (take parts leaders) ≡ parts = length-take-le parts leaders few in
      record {
        some = omega (arith, first.some);
        same = λ l. rw (get_or-take parts leaders m 0 l) at (first.same (omega arith));
        differ = λ k l s. let used : k < parts = omega (arith, first.some) in first.differ k l (rw (get_or-take parts leaders k 0 used) s);
      }

  -- i of the members are in parts, each of which has a leader
  pub record Grouping (found : List ℕ) (i parts : ℕ) (leaders part : List ℕ) : Type 0 where
    pub within : (k : ℕ) → k < i → get_or part k 0 < parts
    pub led : (k : ℕ) → k < i → Same a (profile (get_or leaders (get_or part k 0) 0)) (profile (get_or found k 0))
    pub leads : (m : ℕ) → m < parts → (k : ℕ) × (k < i) × (get_or leaders m 0 ≡ get_or found k 0) × (get_or part k 0 ≡ m)
    pub differ : (l m : ℕ) → l < m → m < parts → Same a (profile (get_or leaders l 0)) (profile (get_or leaders m 0)) → ⊥

  pub grouping_starts : (found leaders part : List ℕ) → Grouping found 0 0 leaders part
  grouping_starts found leaders part = record {
    within = λ k l. absurd (omega arith);
    led = λ k l. absurd (omega arith);
    leads = λ m l. absurd (omega arith);
    differ = λ l m h k. absurd (omega arith);
  }

  module _ (found : List ℕ) (i parts : ℕ) (leaders part : List ℕ) (so_far : Grouping found i parts leaders part) (long : length part ≡ 256) (inside : i < 256) where
    -- the part of a member that was placed before stays
    stays : (m k : ℕ) → k < i → get_or (set part i m) k 0 ≡ get_or part k 0
    stays m k l = get_or-set_other part i k m 0 (λ e. omega arith)

    placed : (m : ℕ) → get_or (set part i m) i 0 ≡ m
    placed m = get_or-set_same part i m 0 (omega arith)

    last : (k : ℕ) → k < i + 1 → (k < i → ⊥) → i ≡ k
    last k l h = omega arith

    -- into the part m
    pub grouping_joins : (m : ℕ) → m < parts → Same a (profile (get_or leaders m 0)) (profile (get_or found i 0)) → Grouping found (i + 1) parts leaders (set part i m)
    grouping_joins m known same = record {
      within = λ k l. within k l (dec_lt k i);
      led = λ k l. led k l (dec_lt k i);
      leads = λ n l. let r = so_far.leads n l in (r.0, omega (arith, r.1), r.2, stays m r.0 r.1 ∙ r.3);
      differ = so_far.differ;
    }
      where
        within : (k : ℕ) → k < i + 1 → Dec (k < i) → get_or (set part i m) k 0 < parts
        within k l (yes h) = rw (stays m k h) (so_far.within k h)
        within k l (no h) = subst (λ (x : ℕ). get_or (set part i m) x 0 < parts) (last k l h) (rw (placed m) known)

        led : (k : ℕ) → k < i + 1 → Dec (k < i) → Same a (profile (get_or leaders (get_or (set part i m) k 0) 0)) (profile (get_or found k 0))
        led k l (yes h) = rw (stays m k h) (so_far.led k h)
        led k l (no h) = subst (λ (x : ℕ). Same a (profile (get_or leaders (get_or (set part i m) x 0) 0)) (profile (get_or found x 0))) (last k l h) (rw (placed m) same)

    -- as the leader of a new part
    module _ (room : length leaders ≡ 256) (few : parts ≤ i) (new : (m : ℕ) → m < parts → Same a (profile (get_or leaders m 0)) (profile (get_or found i 0)) → ⊥) where
      abbrev led_by : List ℕ
      led_by = set leaders parts (get_or found i 0)

      old_leader : (m : ℕ) → m < parts → get_or led_by m 0 ≡ get_or leaders m 0
      old_leader m l = get_or-set_other leaders parts m _ 0 (λ e. omega arith)

      new_leader : get_or led_by parts 0 ≡ get_or found i 0
      new_leader = get_or-set_same leaders parts _ 0 (omega arith)

      pub grouping_leads : Grouping found (i + 1) (parts + 1) led_by (set part i parts)
      grouping_leads = record {
        within = λ k l. within k l (dec_lt k i);
        led = λ k l. led k l (dec_lt k i);
        leads = λ m l. leads m l (dec_lt m parts);
        differ = λ l m h k. differ l m h k (dec_lt m parts);
      }
        where
          within : (k : ℕ) → k < i + 1 → Dec (k < i) → get_or (set part i parts) k 0 < parts + 1
          within k l (yes h) = rw (stays parts k h) (omega (arith, so_far.within k h))
          within k l (no h) = subst (λ (x : ℕ). get_or (set part i parts) x 0 < parts + 1) (last k l h) (rw (placed parts) (omega arith))

          led : (k : ℕ) → k < i + 1 → Dec (k < i) → Same a (profile (get_or led_by (get_or (set part i parts) k 0) 0)) (profile (get_or found k 0))
          led k l (yes h) = rw (stays parts k h, old_leader (get_or part k 0) (so_far.within k h)) (so_far.led k h)
          led k l (no h) = subst (λ (x : ℕ). Same a (profile (get_or led_by (get_or (set part i parts) x 0) 0)) (profile (get_or found x 0))) (last k l h) (rw (placed parts, new_leader) (λ j. refl))

          leads : (m : ℕ) → m < parts + 1 → Dec (m < parts) → (k : ℕ) × (k < i + 1) × (get_or led_by m 0 ≡ get_or found k 0) × (get_or (set part i parts) k 0 ≡ m)
          leads m l (yes h) = let r = so_far.leads m h in (r.0, omega (arith, r.1), old_leader m h ∙ r.2, stays parts r.0 r.1 ∙ r.3)
          leads m l (no h) = let e : parts ≡ m = omega arith in (i, omega arith, subst (λ (x : ℕ). get_or led_by x 0 ≡ get_or found i 0) e new_leader, placed parts ∙ e)

          differ : (l m : ℕ) → l < m → m < parts + 1 → Dec (m < parts) → Same a (profile (get_or led_by l 0)) (profile (get_or led_by m 0)) → ⊥
          differ l m h k (yes n) s = so_far.differ l m h n (rw (old_leader l (omega arith), old_leader m n) at s)
          differ l m h k (no n) s =
              let e : m ≡ parts = omega arith in
              let t : Same a (profile (get_or led_by l 0)) (profile (get_or led_by parts 0)) = subst (λ (x : ℕ). Same a (profile (get_or led_by l 0)) (profile (get_or led_by x 0))) e s in
              new l (omega arith) (rw (old_leader l (omega arith), new_leader) at t)

  pub grouping_ends : (found : List ℕ) (many parts : ℕ) (leaders part : List ℕ) → Grouping found many parts leaders part → parts ≤ many → Grouped a profile many found parts part
  grouping_ends found many parts leaders part done few = record {
    few = few;
    within = done.within;
    met = λ m l. let r = done.leads m l in (r.0, r.1, r.3);
    together = λ i k l n e. same_trans (get_or found i 0) (leader i) (get_or found k 0) (same_sym (leader i) (get_or found i 0) (done.led i l))
        (subst (λ (m : ℕ). Same a (profile (get_or leaders m 0)) (profile (get_or found k 0))) (sym e) (done.led k n));
    apart = λ i k l n s. one i k l n s (dec_lt (get_or part i 0) (get_or part k 0)) (dec_lt (get_or part k 0) (get_or part i 0));
  }
    where
      leader : ℕ → ℕ
      leader i = get_or leaders (get_or part i 0) 0

      leaders_same : (i k : ℕ) → i < many → k < many → Same a (profile (get_or found i 0)) (profile (get_or found k 0)) → Same a (profile (leader i)) (profile (leader k))
      leaders_same i k l n s = same_trans (leader i) (get_or found i 0) (leader k) (done.led i l) (same_trans (get_or found i 0) (get_or found k 0) (leader k) s (same_sym (leader k) (get_or found k 0) (done.led k n)))

      one : (i k : ℕ) → i < many → k < many → Same a (profile (get_or found i 0)) (profile (get_or found k 0)) → Dec (get_or part i 0 < get_or part k 0) → Dec (get_or part k 0 < get_or part i 0) → get_or part i 0 ≡ get_or part k 0
      one i k l n s (yes h) d = absurd (done.differ (get_or part i 0) (get_or part k 0) h (done.within k n) (leaders_same i k l n s))
      one i k l n s (no h) (yes m) = absurd (done.differ (get_or part k 0) (get_or part i 0) m (done.within i l) (same_sym (leader i) (leader k) (leaders_same i k l n s)))
      one i k l n s (no h) (no m) = omega arith
