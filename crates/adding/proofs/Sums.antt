-- What the entries become: the transitions of the collapse.
use Prim.Native.Nat.{ℕ, suc, ◌/◌, ◌<◌, ◌^◌}
use mathlib.Core.Path.{◌≡◌, refl, sym, ap, ap₂, ◌∙◌, subst₂}
use mathlib.Core.Logic.{◌⊎◌, inl, inr}
use mathlib.Core.Bool.{Bool, true, false, cond}
use mathlib.Core.List.{List, [], ◌∷◌, map, Memᴰ}
use native.Mathlib.Omega.{arith}
use lib.Dec.{T, eqb, eqb→eq, ltb→lt}
use Rattle.model.specs.Table.{Table, Transition, Each, key, lower, Ascending}
use Rattle.model.proofs.Each.{each_members, each_member}
use Rattle.theory.specs.Equality.{numbers, lists, same_list, equal_same, test_iff}
use Rattle.theory.specs.Semiring.{Operations, Laws}
use Rattle.theory.specs.Sum.{only, sum_same, sum-each, sum-map, sum-met, only_zero, zero_plus}
use Rattle.theory.specs.Grouping.{key_sum, key_sums_through}
use Rattle.theory.specs.Arithmetic.{arithmetic, Weight, meaning, meaning_zero, meaning_nonzero}
use Rattle.theory.specs.declared.Direction.{Direction}
use Rattle.theory.specs.declared.Direction.TheVariants.{Backward as backward, Forward as forward}
use Rattle.theory.specs.Order.{number_order}
use Rattle.theory.specs.Listing.{Rising, listed_member, sum_listed}
use Rattle.theory.specs.Entry.{block_key, weight_at_key}
use Rattle.theory.specs.AddingUp.{named, named_weight, named_sum}
use Rattle.profiles.specs.Entries.{Entry}
use Rattle.profiles.specs.Sums.{sum_at, place, Summed}
use Rattle.adding.specs.Keys.{pack, transition_of}
use Rattle.adding.specs.Named.{counted}
use Rattle.adding.specs.Rows.{entry_of, gathered, KeyKnown}
use Rattle.adding.proofs.Packing.{Packable, pack_symbol, pack_unpacked}
use Rattle.adding.proofs.Ascent.{pack_lower}
use Rattle.theory.proofs.Laws.{laws}

-- a transition with its blocks for its states
abbrev pub blocked : (ℕ → ℕ) → Transition → Transition
blocked b t = record { symbol = t.symbol; children = map b t.children; target = b t.target; code = t.code }

-- an entry whose key is a packed one
pub record Known (ranks : List ℕ) (e : Entry) : Type 0 where
  pub from : Transition
  pub fits : Packable ranks from
  pub is : pack (key from) ≡ e.key

module _ (ranks : List ℕ) (e : Entry) (k : Known ranks e) where
  unpacked_is : transition_of ranks e ≡ record { symbol = k.from.symbol; children = k.from.children; target = k.from.target; code = e.code }
  unpacked_is = ap (λ (j : ℕ). transition_of ranks (record { key = j; code = e.code })) (sym k.is) ∙ pack_unpacked ranks k.from k.fits e.code

  key_unpacked : key (transition_of ranks e) ≡ key k.from
  key_unpacked = ap key unpacked_is

  pub known_key : KeyKnown ranks e.key
  known_key =
      let symbol : e.key / 1099511627776 ≡ k.from.symbol = ap (λ (j : ℕ). j / 1099511627776) (sym k.is) ∙ pack_symbol ranks k.from k.fits in
      record { known = rw symbol k.fits.symbol_known; rank_small = rw symbol k.fits.rank_small }

-- the transitions ascend as the keys do
module _ (ranks : List ℕ) where
  lower_next : (e f : Entry) → Known ranks e → Known ranks f → e.key < f.key → T (lower (key (transition_of ranks e)) (key (transition_of ranks f)))
  lower_next e f k l h = subst₂ (λ (j i : List ℕ). T (lower j i)) (sym (key_unpacked ranks e k)) (sym (key_unpacked ranks f l))
      (pack_lower ranks k.from l.from k.fits l.fits (omega (arith, k.is, l.is)))

  ascending_after : (e : Entry) (es : List Entry) → Known ranks e → Each (Known ranks) es → Rising numbers number_order place (λ f. f.code) 0 (place e) es
      → Ascending (key (transition_of ranks e)) (map (transition_of ranks) es)
  ascending_after e [] k ks up = tt
  ascending_after e (f ∷ es) k ks up = (lower_next e f k ks.0 (omega (arith, ltb→lt (place e) (place f) up.0)), ascending_after f es ks.0 ks.1 up.1)

  pub entries_ascending : (es : List Entry) → Each (Known ranks) es → Rising numbers number_order place (λ f. f.code) 0 0 es → Ascending [] (map (transition_of ranks) es)
  entries_ascending [] ks up = tt
  entries_ascending (e ∷ es) ks up = (tt, ascending_after e es ks.0 ks.1 up.1)

same_place : (i j : ℕ) → eqb i j ≡ eqb (suc i) (suc j)
same_place i j = test_iff (eqb i j) (eqb (suc i) (suc j)) (λ h. equal_same numbers (suc i) (suc j) (ap suc (eqb→eq i j h)))
    (λ h. let e : suc i ≡ suc j = eqb→eq (suc i) (suc j) h in equal_same numbers i j (omega arith))

counted_named : (X : Table) (b r : ℕ → ℕ) (d : Direction) (t : Transition) → counted b r d t ≡ named X b r d t
counted_named X b r backward t = refl
counted_named X b r forward t = refl

module _ (X : Table) (b r : ℕ → ℕ) (d : Direction) where
  abbrev a : ℕ
  a = X.arithmetic

  abbrev S : Operations
  S = arithmetic a

  L : Laws S
  L = laws a

  -- the sum of the gathered entries for a key is that of the transitions that count
  pub gathered_sum : (ts : List Transition) (j : ℕ) → sum_at a (gathered b r d ts) j ≡ key_sum S numbers ts (λ t. pack (block_key b t)) (named_weight X b r d) j
  gathered_sum [] j = refl
  gathered_sum (t ∷ ts) j = go (counted b r d t) (counted_named X b r d t) (gathered_sum ts j)
    where
      go : (c : Bool) → c ≡ named X b r d t → sum_at a (gathered b r d ts) j ≡ key_sum S numbers ts (λ t. pack (block_key b t)) (named_weight X b r d) j
          → sum_at a (cond c (entry_of b t ∷ gathered b r d ts) (gathered b r d ts)) j
          ≡ S.plus (only S (eqb (pack (block_key b t)) j) (named_weight X b r d t)) (key_sum S numbers ts (λ t. pack (block_key b t)) (named_weight X b r d) j)
      go true e ih = ap₂ S.plus (ap (λ (c : Bool). only S (eqb (pack (block_key b t)) j) (only S c (meaning a t.code))) e) ih
      go false e ih = ih ∙ sym (zero_plus S L _)
          ∙ ap (λ (w : Weight a). S.plus w (key_sum S numbers ts (λ t. pack (block_key b t)) (named_weight X b r d) j))
          (sym (only_zero S (eqb (pack (block_key b t)) j)) ∙ ap (λ (c : Bool). only S (eqb (pack (block_key b t)) j) (only S c (meaning a t.code))) e)

  -- Entries that are added up, with the sums of the table.
  module _ (ranks : List ℕ) (fit : Each (λ t. Packable ranks (blocked b t)) X.transitions) (es : List Entry) (added : Summed es)
      (sums : (j : ℕ) → sum_at a es j ≡ sum_at a (gathered b r d X.transitions) j) where
    sum_same_key : (j : ℕ) → key_sum S numbers es (λ e. e.key) (λ e. meaning a e.code) j ≡ key_sum S numbers X.transitions (λ t. pack (block_key b t)) (named_weight X b r d) j
    sum_same_key j = sums j ∙ gathered_sum X.transitions j

    -- each has the key of a transition's blocks
    known_one : (e : Entry) → Memᴰ e es → Known ranks e
    known_one e m = go (sum-met S L X.transitions (λ t. eqb (pack (block_key b t)) e.key) (named_weight X b r d))
      where
        own : sum_at a es e.key ≡ meaning a e.code
        own = sum_same S es _ _ (λ f. ap (λ (c : Bool). only S c (meaning a f.code)) (same_place f.key e.key))
            ∙ sum_listed numbers number_order place (λ f. f.code) 0 S L (meaning a) (meaning_zero a) 0 (place e) es added.rising
            ∙ ap (meaning a) (listed_member numbers number_order place (λ f. f.code) 0 0 es added.rising m)

        go : ((t : Transition) × Memᴰ t X.transitions × T (eqb (pack (block_key b t)) e.key)) ⊎ (key_sum S numbers X.transitions (λ t. pack (block_key b t)) (named_weight X b r d) e.key ≡ S.zero)
            → Known ranks e
        go (inl (t, mt, h)) = record {
          from = blocked b t;
          fits = each_member (λ t. Packable ranks (blocked b t)) X.transitions fit mt;
          is = eqb→eq (pack (block_key b t)) e.key h;
        }
        go (inr z) =
            let codes = each_member (λ f. (0 < f.code) × (f.code < 2 ^ 32)) es added.codes m in
            absurd (meaning_nonzero a e.code codes.1 codes.0 (sym own ∙ sum_same_key e.key ∙ z))

    pub known_each : Each (Known ranks) es
    known_each = each_members (Known ranks) es known_one

    -- as transitions they have the sums of the collapse
    pub entries_sums : (k : List ℕ) → weight_at_key a (map (transition_of ranks) es) k ≡ named_sum X b r d k
    entries_sums k =
        sum-map S (transition_of ranks) es (λ t. only S (same_list (key t) k) (meaning a t.code))
        ∙ key_sums_through S L numbers lists unpacked es (λ e. e.key) (λ e. meaning a e.code) X.transitions (λ t. pack (block_key b t)) (named_weight X b r d) sum_same_key k
        ∙ sum-each S (λ t. Packable ranks (blocked b t)) X.transitions fit _ _ (λ t f.
        ap (λ (l : List ℕ). only S (same_list l k) (named_weight X b r d t)) (ap key (pack_unpacked ranks (blocked b t) f 0)))
      where
        unpacked : ℕ → List ℕ
        unpacked n = key (transition_of ranks (record { key = n; code = 0 }))
