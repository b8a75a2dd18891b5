-- `grouping::keys::key_at` meets its contract. The invariant: the other children packed so far, with the rest behind them, are all of them. Assumes nothing.
use Prim.Native.Nat.{◌<◌}
use mathlib.Core.Path.{◌≡◌}
use lib.ListN.{drop}
use Rattle.profiles.specs.Packing.{packed, room}
use Rattle.grouping.specs.Packing.{elsewhere}
use Rattle.grouping.proofs.keys.key_at.Given as goal

abbrev pub invariant-loop-k : goal.invariant-loop-k
invariant-loop-k l =
    record {
      whole : packed l.packed (elsewhere l.place l.k (drop l.k l.children)) ≡ packed 0 (elsewhere l.place 0 l.children);
      small : l.packed < room l.k;
    }
