-- Profiles in their regions are compared in place of the states' own entries.
use Prim.Native.Nat.{ℕ, zero, suc, ◌<◌}
use mathlib.Core.List.{List, map}
use mathlib.Core.Path.{◌≡◌, sym, ap, ◌∙◌}
use native.Mathlib.Omega.{arith}
use lib.ListN.{length, get_or, set}
use lib.Seq.{get_or-set_same}
use Rattle.theory.specs.declared.Direction.{Direction}
use Rattle.profiles.specs.Entries.{Entry}
use Rattle.profiles.specs.Sums.{sum_at}
use Rattle.profiles.specs.declared.Entries.{Entries}
use Rattle.tables.specs.declared.TableRecord.{TableRecord}
use Rattle.uses.specs.declared.Uses.{Uses}
use Rattle.uses.specs.Tables.{listed_in, ListsUses}
use Rattle.grouping.specs.Groups.{profile_in, Ready, Grouped}
use Rattle.grouping.specs.Steps.{AllProfiledIn}
use Rattle.grouping.proofs.Profiling.{starts_inside}

module _ (d : Direction) (t : TableRecord) (u : Uses) (readable : ListsUses d t u) (entry : ℕ → Entry) (a many : ℕ) (found ends : List ℕ) (e : Entries)
    (bytes : (i : ℕ) → get_or found i 0 < 256) (profiled : AllProfiledIn entry a u many found ends e) where
  pub ready : (i : ℕ) → i < many → Ready u ends e (get_or found i 0)
  ready i l =
      let p = profiled i l in
      let whole = starts_inside d t u readable (get_or found i 0) (bytes i) in
      record { ordered = p.above; inside = omega (arith, p.within, whole.1, whole.2); summed = p.summed }

  pub grouped_profiles : (parts : ℕ) (part : List ℕ) → Grouped a (profile_in u ends e) many found parts part → Grouped a (λ p. map entry (listed_in u p)) many found parts part
  grouped_profiles parts part g = record {
    few = g.few;
    within = g.within;
    met = g.met;
    together = λ i k l m e j. sym ((profiled i l).sums j) ∙ g.together i k l m e j ∙ (profiled k m).sums j;
    apart = λ i k l m s. g.apart i k l m (λ j. (profiled i l).sums j ∙ s j ∙ sym ((profiled k m).sums j));
  }

-- a member that is alone is a part
pub grouped_alone : (a : ℕ) (profile : ℕ → List Entry) (many : ℕ) (found part : List ℕ) → length part ≡ 256 → many ≡ 1 → Grouped a profile many found 1 (set part 0 0)
grouped_alone a profile many found part long alone = record {
  few = omega arith;
  within = λ i l. rw (first i (omega arith)) (omega arith);
  met = λ m l. let z : 0 ≡ m = omega arith in (0, omega arith, first 0 (omega arith) ∙ z);
  together = λ i k l m e j. let same : i ≡ k = omega arith in ap (λ (x : ℕ). sum_at a (profile (get_or found x 0)) j) same;
  apart = λ i k l m s. first i (omega arith) ∙ sym (first k (omega arith));
}
  where
    first : (i : ℕ) → i < 1 → get_or (set part 0 0) i 0 ≡ 0
    first zero l = get_or-set_same part 0 0 0 (omega arith)
    first (suc i) l = absurd (omega arith)
