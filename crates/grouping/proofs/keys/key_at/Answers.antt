-- `grouping::keys::key_at` meets its contract. The invariant: the other children packed so far, with the rest behind them, are all of them. Assumes nothing.
use Prim.Native.Nat.{◌%◌, ℕ}
use mathlib.Core.List.{List}
use mathlib.Core.Path.{◌≡◌, sym, ap, ◌∙◌}
use native.Mathlib.Omega.{arith}
use Rattle.std.proofs.Common.{drop_of_length-le}
use Rattle.theory.specs.Uses.{others}
use Rattle.profiles.specs.Packing.{packed, room_next, room_more}
use Rattle.grouping.specs.Packing.{elsewhere, elsewhere_others, packing_next, packing_skips}
use Rattle.grouping.proofs.Packed.{packed_few}
use Rattle.grouping.proofs.keys.key_at.Goals as goal
use Rattle.grouping.proofs.keys.key_at.Goals.{then-k-place, else-k-place}

pub overflow_mul-packed : goal.overflow_mul-packed
overflow_mul-packed c = let few = packed_few _ _ c.loop-k.invariant.small (omega arith) in omega arith

pub overflow_add-packed : goal.overflow_add-packed
overflow_add-packed c = let few = packed_few _ _ c.loop-k.invariant.small (omega arith) in omega arith

pub loop-k-preserved : goal.loop-k-preserved
loop-k-preserved c =
    let l = c.loop-k in
    let qs = c.children_of-children.result.now in
    let place = c.args.u % 4 in
    elim c.if-k-place.branch [
      | then-k-place w ↦ record {
        whole = rw w.packed-is (sym (packing_next qs l.k place l.packed c.loop-k-test.true w.if-k-place.true) ∙ l.invariant.whole);
        small = rw w.packed-is (room_next l.packed l.k _ l.invariant.small (omega arith));
      }
      | else-k-place w ↦ record {
        whole = rw w.packed-is (sym (packing_skips qs l.k place l.packed c.loop-k-test.true w.if-k-place.false) ∙ l.invariant.whole);
        small = rw w.packed-is (room_more l.packed l.k l.invariant.small);
      }
    ]

pub overflow_mul-result-2 : goal.overflow_mul-result-2
overflow_mul-result-2 c = let few = packed_few _ _ c.loop-k.invariant.small (omega arith) in omega arith

pub overflow_add-result : goal.overflow_add-result
overflow_add-result c = let few = packed_few _ _ c.loop-k.invariant.small (omega arith) in omega arith

pub overflow_add-result-2 : goal.overflow_add-result-2
overflow_add-result-2 c = let few = packed_few _ _ c.loop-k.invariant.small (omega arith) in omega arith

pub returns : goal.returns
returns c =
    let a = c.args in
    let l = c.loop-k in
    let place = a.u % 4 in
    let qs = c.children_of-children.result.now in
    let done : l.packed ≡ packed 0 (others place qs) =
    sym (ap (λ (rest : List ℕ). packed l.packed (elsewhere place l.k rest)) (drop_of_length-le qs c.loop-k-test.false)) ∙ l.invariant.whole ∙ ap (packed 0) (elsewhere_others place qs) in
    let whole = done ∙ ap (λ (rest : List ℕ). packed 0 (others place rest)) c.children_of-children.ensures.own in
    rw (whole, c.of.ensures)
