-- Numbers that stand one after another: how they are read, and that their bytes are theirs alone.
use Rattle.std.specs.Prelude.{ℕ, ◌+◌, ◌≤◌, ◌<◌, ◌^◌, ◌≡◌, refl, List, [], ◌∷◌, ◌++◌, length, get_or, drop}
use Rattle.std.proofs.Common.{sym, ap, ◌∙◌, subst, append_assoc, arith, length-append}
use Rattle.model.proofs.Each.{each_append}
use Rattle.model.specs.Table.{Each}
use Rattle.numbers.specs.Read.{number, number_at}
use Rattle.numbers.specs.Written.{written, written_all}
use Rattle.roundtrip.specs.Numbers.{Stands, number_sound, number_complete, drop_behind, written_bytes}

-- from `at` up to `p` these numbers are read, one after another
abbrev pub Reads : List ℕ → ℕ → List ℕ → ℕ → Type 0
Reads s at [] p = at ≡ p
Reads s at (n ∷ ns) p = (next : ℕ) × (number_at s at ≡ number n next) × Reads s next ns p

module _ (s : List ℕ) where
  -- what is read in two parts is read in one go, and the other way round
  pub reads_append : (ms ns : List ℕ) (at middle p : ℕ) → Reads s at ms middle → Reads s middle ns p → Reads s at (ms ++ ns) p
  reads_append [] ns at middle p r q = subst (λ (k : ℕ). Reads s k ns p) (sym r) q
  reads_append (m ∷ ms) ns at middle p r q = (r.0, r.1, reads_append ms ns r.0 middle p r.2 q)

  pub reads_split : {C : Type 0} (ms ns : List ℕ) (at p : ℕ) → Reads s at (ms ++ ns) p
      → ((middle : ℕ) → Reads s at ms middle → Reads s middle ns p → C) → C
  reads_split [] ns at p r k = k at refl r
  reads_split (m ∷ ms) ns at p r k = reads_split ms ns r.0 p r.2 λ middle before behind. k middle (r.0, r.1, before) behind

  -- where the reading ends
  pub reads_end : ((i : ℕ) → get_or s i 0 < 256) → (ns : List ℕ) (at p : ℕ) → Reads s at ns p → p ≡ at + length (written_all ns)
  reads_end small [] at p r = omega arith
  reads_end small (n ∷ ns) at p r =
      let here : Stands s at (written n) r.0 = (number_sound s small at n r.0 r.1).0 in
      omega (arith, here.behind, reads_end small ns r.0 p r.2, length-append (written n) (written_all ns))

  -- what is read is written there
  pub reads_stand : ((i : ℕ) → get_or s i 0 < 256) → (ns : List ℕ) (at p : ℕ) → at ≤ length s → Reads s at ns p → Stands s at (written_all ns) p
  reads_stand small [] at p h r = record { there = ap (λ (k : ℕ). drop k s) r; behind = omega arith; inside = omega arith }
  reads_stand small (n ∷ ns) at p h r =
      let here : Stands s at (written n) r.0 = (number_sound s small at n r.0 r.1).0 in
      let rest : Stands s r.0 (written_all ns) p = reads_stand small ns r.0 p here.inside r.2 in
      record {
        there = here.there ∙ ap (◌++◌ (written n)) rest.there ∙ sym (append_assoc (written n) (written_all ns) (drop p s));
        behind = reads_end small (n ∷ ns) at p r;
        inside = rest.inside;
      }

  -- what is written is read
  pub written_reads : (ns : List ℕ) (at : ℕ) (rest : List ℕ) → Each (λ n. n < 2 ^ 32) ns → drop at s ≡ written_all ns ++ rest
      → Reads s at ns (at + length (written_all ns))
  written_reads [] at rest h e = omega arith
  written_reads (n ∷ ns) at rest h e =
      let here : drop at s ≡ written n ++ (written_all ns ++ rest) = e ∙ append_assoc (written n) (written_all ns) rest in
      let behind : drop (at + length (written n)) s ≡ written_all ns ++ rest = drop_behind s at (written n) (written_all ns ++ rest) here in (
        at + length (written n),
        number_complete s at n (written_all ns ++ rest) h.0 here,
        subst (Reads s (at + length (written n)) ns) (omega (arith, length-append (written n) (written_all ns)))
            (written_reads ns (at + length (written n)) rest h.1 behind),
      )

-- what is written are bytes
pub written_all_bytes : (ns : List ℕ) → Each (λ n. n < 2 ^ 32) ns → Each (λ b. b < 256) (written_all ns)
written_all_bytes [] h = tt
written_all_bytes (n ∷ ns) h = each_append (λ b. b < 256) (written n) (written_all ns) (written_bytes n h.0) (written_all_bytes ns h.1)
