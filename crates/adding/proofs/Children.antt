-- The children of a transition: the key of their blocks, and whether each is named.
use Rattle.std.proofs.Common.{ℕ, suc, ◌+◌, ◌*◌, ◌≤◌, ◌<◌, ◌≡◌, refl, sym, ap, ap₂, ◌∙◌, arith, Bool, false, List, [], ◌∷◌, map, length, get_or, drop, drop-cons, add-one}
use mathlib.Core.Bool.{◌&&◌}
use lib.ListN.{drop_of_length-le}
use Rattle.std.specs.List.{list_all}
use Rattle.profiles.specs.Packing.{packed, room, room_next, room_ascends}
use Rattle.adding.specs.Named.{NamedBy, all_named}

module _ (qs : List ℕ) (k : ℕ) where
  from_next : k < length qs → drop k qs ≡ get_or qs k 0 ∷ drop (k + 1) qs
  from_next more = rw (add-one k, drop-cons qs k 0)

  from_end : length qs ≤ k → drop k qs ≡ []
  from_end done = drop_of_length-le qs done

module _ (b : ℕ → ℕ) (qs : List ℕ) where
  -- the blocks of the states before place k are packed in n
  pub record Keying (n k : ℕ) : Type 0 where
    pub rest : packed n (map b (drop k qs)) ≡ packed 0 (map b qs)
    pub fits : n < room k
    pub small : n < 4294967296

  module _ (n k : ℕ) (so_far : Keying n k) where
    pub keying_goes_on : length qs ≤ 4 → k < length qs → (D : ℕ) → D ≡ b (get_or qs k 0) → D < 256 → Keying (n * 256 + D) (k + 1)
    keying_goes_on few more D e byte = record {
      rest = ap (λ (x : ℕ). packed (n * 256 + x) (map b (drop (k + 1) qs))) e ∙ ap (λ (ps : List ℕ). packed n (map b ps)) (sym (from_next qs k more)) ∙ so_far.rest;
      fits = room_next n k D so_far.fits byte;
      small = omega (arith, room_next n k D so_far.fits byte, room_ascends (k + 1) 4 (omega arith));
    }

    pub keying_ends : length qs ≤ k → n ≡ packed 0 (map b qs)
    keying_ends done = ap (λ (ps : List ℕ). packed n (map b ps)) (sym (from_end qs k done)) ∙ so_far.rest

-- the flags say of all the states whether they are named
pub all_flagged : (b r : ℕ → ℕ) (named : List Bool) → NamedBy b r named → (qs : List ℕ) → ((i : ℕ) → get_or qs i 0 < 256)
    → list_all (λ q. get_or named q false) qs ≡ all_named b r qs
all_flagged b r named by [] bytes = refl
all_flagged b r named by (q ∷ qs) bytes = ap₂ ◌&&◌ (by q (bytes 0)) (all_flagged b r named by qs (λ i. bytes (suc i)))
