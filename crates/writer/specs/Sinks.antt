-- Where numbers go, one after another: into a room, or into a count of their bytes.
use Rattle.std.specs.Prelude.{ℕ, ◌+◌, ◌<◌, ◌≤◌, ◌≡◌, ◌^◌, List, [], ◌∷◌, ◌++◌, length}
use Rattle.std.proofs.Common.{refl, sym, ap, ◌∙◌, arith, length-append, append_assoc}
use Rattle.std.proofs.Math.Seq.{length-sets}
use Rattle.numbers.specs.Written.{written, written_all}
use Rattle.writer.specs.Put.{Put, put_both}
use Rattle.writer.specs.declared.Count.{Count}
use Rattle.writer.specs.declared.Room.{Room}

-- numbers taken one after another are all of them taken, and where all of them find room, the first and then the others do
pub record SinkLaws {S : Type 0} (took : S → List ℕ → S → Type 0) (fits : S → List ℕ → Type 0) : Type 0 where
  pub none : (s : S) → took s [] s
  pub both : (s t u : S) (ms ns : List ℕ) → took s ms t → took t ns u → took s (ms ++ ns) u
  pub first : (s : S) (ms ns : List ℕ) → fits s (ms ++ ns) → fits s ms
  pub others : (s t : S) (ms ns : List ℕ) → took s ms t → fits s (ms ++ ns) → fits t ns

-- Bytes, into a room.

-- a room, and the place behind the bytes that stand in it
pub record Spot : Type 0 where
  pub room : List ℕ
  pub place : ℕ

abbrev pub spot : List ℕ → ℕ → Spot
spot room place = record { room = room; place = place }

abbrev pub BytesPut : Spot → List ℕ → Spot → Type 0
BytesPut before bytes after = Put before.room before.place bytes after.room after.place

abbrev pub BytesFit : Spot → List ℕ → Type 0
BytesFit s bytes = s.place + length bytes ≤ length s.room

pub byte_laws : SinkLaws BytesPut BytesFit
byte_laws = record {
  none = λ s. record { room_is = refl; next_is = omega arith };
  both = λ s t u ms ns p q. put_both ms ns p q;
  first = λ s ms ns h. omega (arith, length-append ms ns);
  others = λ s t ms ns p h. omega (arith, length-append ms ns, p.next_is, ap length p.room_is, length-sets s.room s.place ms);
}

-- Numbers, in their written form.

all_append : (ms ns : List ℕ) → written_all (ms ++ ns) ≡ written_all ms ++ written_all ns
all_append [] ns = refl
all_append (m ∷ ms) ns = ap (λ (l : List ℕ). written m ++ l) (all_append ms ns) ∙ sym (append_assoc (written m) (written_all ms) (written_all ns))

all_length : (ms ns : List ℕ) → length (written_all (ms ++ ns)) ≡ length (written_all ms) + length (written_all ns)
all_length ms ns = ap length (all_append ms ns) ∙ length-append (written_all ms) (written_all ns)

-- the bytes of the numbers stand in the room from the place on, the rest of it is as it was, and it is the same room
pub record RoomTook (before : Room) (numbers : List ℕ) (after : Room) : Type 0 where
  pub put : Put before.bytes.now before.next (written_all numbers) after.bytes.now after.next
  pub same : after.bytes.ghost_name ≡ before.bytes.ghost_name

abbrev pub RoomFits : Room → List ℕ → Type 0
RoomFits room numbers = room.next + length (written_all numbers) ≤ length room.bytes.now

abbrev spot_of : Room → Spot
spot_of room = spot room.bytes.now room.next

pub room_laws : SinkLaws RoomTook RoomFits
room_laws = record {
  none = λ s. record { put = byte_laws.none (spot_of s); same = refl };
  both = λ s t u ms ns p q. record { put = rw (all_append ms ns) (put_both (written_all ms) (written_all ns) p.put q.put); same = q.same ∙ p.same };
  first = λ s ms ns h. omega (arith, all_length ms ns);
  others = λ s t ms ns p h. byte_laws.others (spot_of s) (spot_of t) (written_all ms) (written_all ns) p.put (rw (all_append ms ns) at h);
}

-- the bytes of the numbers are counted
abbrev pub CountTook : Count → List ℕ → Count → Type 0
CountTook before numbers after = after.bytes ≡ before.bytes + length (written_all numbers)

abbrev pub CountFits : Count → List ℕ → Type 0
CountFits count numbers = count.bytes + length (written_all numbers) < 2 ^ 64

pub count_laws : SinkLaws CountTook CountFits
count_laws = record {
  none = λ s. omega arith;
  both = λ s t u ms ns p q. omega (arith, all_length ms ns);
  first = λ s ms ns h. omega (arith, all_length ms ns);
  others = λ s t ms ns p h. omega (arith, all_length ms ns);
}
