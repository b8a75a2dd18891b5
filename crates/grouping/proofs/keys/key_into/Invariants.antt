-- `grouping::keys::key_into` meets its contract. The invariant: the blocks packed so far, with the rest behind them, are all of them. Assumes nothing.
use Prim.Native.Nat.{◌<◌}
use mathlib.Core.List.{map}
use mathlib.Core.Path.{◌≡◌}
use lib.ListN.{drop}
use Rattle.theory.specs.Blocks.{block_of}
use Rattle.profiles.specs.Packing.{packed, room}
use Rattle.grouping.proofs.keys.key_into.Given as goal

abbrev pub invariant-loop-child : goal.invariant-loop-child
invariant-loop-child l =
    record {
      whole : packed l.packed (map (block_of l.blocks.list) (drop l.child-index l.child-items)) ≡ packed 0 (map (block_of l.blocks.list) l.child-items);
      small : l.packed < room l.child-index;
    }
