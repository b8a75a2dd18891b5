-- Numbers of eight bits, packed so far and on.
use Prim.Native.Nat.{ℕ, ◌+◌, ◌*◌, ◌≤◌, ◌<◌}
use mathlib.Core.List.{List, map}
use mathlib.Core.Path.{◌≡◌}
use native.Mathlib.Omega.{arith}
use lib.ListN.{length, get_or, drop}
use Rattle.std.proofs.lemmas.List.{at_drop_more}
use Rattle.profiles.specs.Packing.{packed, room, room_ascends}

-- of at most four children, the key has room for more
pub packed_few : (n k : ℕ) → n < room k → k ≤ 4 → n < 4294967296
packed_few n k small few = let most : room k ≤ 4294967296 = room_ascends k 4 few in omega arith

pub packing_goes_on : (b : ℕ → ℕ) (qs : List ℕ) (k n : ℕ) → k < length qs → packed n (map b (drop k qs)) ≡ packed (n * 256 + b (get_or qs k 0)) (map b (drop (k + 1) qs))
packing_goes_on b qs k n more = at_drop_more (λ rest. packed n (map b rest)) qs k 0 more
