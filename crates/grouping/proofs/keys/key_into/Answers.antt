-- `grouping::keys::key_into` meets its contract. The invariant: the blocks packed so far, with the rest behind them, are all of them. Assumes nothing.
use mathlib.Core.Path.{sym, ◌∙◌}
use native.Mathlib.Omega.{arith}
use Rattle.theory.specs.Blocks.{block_of}
use Rattle.profiles.specs.Packing.{room_next}
use Rattle.grouping.proofs.Packed.{packed_few, packing_goes_on}
use Rattle.grouping.proofs.keys.key_into.Goals as goal

pub overflow_mul-packed : goal.overflow_mul-packed
overflow_mul-packed c = let few = packed_few _ _ c.loop-child.invariant.small (omega arith) in omega arith

pub overflow_add-packed : goal.overflow_add-packed
overflow_add-packed c =
    let few = packed_few _ _ c.loop-child.invariant.small (omega arith) in
    omega arith

pub loop-child-preserved : goal.loop-child-preserved
loop-child-preserved c =
    let l = c.loop-child in
    record {
      whole = rw c.of.ensures (sym (packing_goes_on (block_of c.args.blocks.now.list) c.children_of-child-items.result.now l.child-index l.packed c.loop-child-test.true) ∙ l.invariant.whole);
      small = room_next l.packed l.child-index _ l.invariant.small (omega arith);
    }

pub overflow_add-result : goal.overflow_add-result
overflow_add-result c = let few = packed_few _ _ c.loop-child.invariant.small (omega arith) in omega arith
