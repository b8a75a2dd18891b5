-- `dependents::mark` meets its contract. The invariant: what the uses so far lead to is marked. Assumes nothing.
use Rattle.std.proofs.Common.{◌≡◌, ℕ, List, suc, ◌+◌, ◌-◌, ◌<◌, ◌≤◌, add-one, length-take, drop, arith}
use Rattle.theory.specs.declared.Direction.{Direction}
use Rattle.uses.specs.Lists.{start, ListedUses, starts_ascend}
use Rattle.dependents.specs.Tables.{LeadsToIn}
use Rattle.dependents.proofs.Marking.{marking_next, marking_less, marking_part, item_of_part}
use Rattle.dependents.proofs.mark.Goals as goal

-- the list of p ends behind its start, and within the array
ends : {d : Direction} {ranks symbol starts list : List ℕ} → ListedUses d ranks symbol starts list → (p : ℕ) → p < 256
    → (start starts p ≤ start starts (p + 1)) × (start starts (p + 1) ≤ start starts 256)
ends r p h = (starts_ascend _ _ _ _ _ r p (p + 1) (omega arith) (omega arith), starts_ascend _ _ _ _ _ r (p + 1) 256 (omega arith) (omega arith))

pub slice_bounds-number-items-end : goal.slice_bounds-number-items-end
slice_bounds-number-items-end c = omega (arith, ends c.requires c.args.p.0 (omega arith), c.requires.few)

pub mark_use-requires : goal.mark_use-requires
mark_use-requires c =
    let uses = c.args.uses.now in
    let lo = start uses.starts c.args.p.0 in
    let hi = start uses.starts (c.args.p.0 + 1) in
    let k = c.loop-number.number-index in
    let inside : k < hi - lo = omega (arith, length-take (hi - lo) (drop lo uses.list)) in
    rw (item_of_part lo (hi - lo) k uses.list inside) (c.requires.rows (lo + k) (omega (arith, ends c.requires c.args.p.0 (omega arith))))

pub loop-number-preserved : goal.loop-number-preserved
loop-number-preserved c = marking_next 0 _ _ _ c.loop-number.dirty _ c.loop-number.invariant c.mark_use.ensures

pub returns : goal.returns
returns c =
    let a = c.args in
    let uses = a.uses.now in
    let lo = start uses.starts a.p.0 in
    let hi = start uses.starts (a.p.0 + 1) in
    let ordered = ends c.requires a.p.0 (omega arith) in
    let part = marking_part lo (hi - lo) _ uses.list (LeadsToIn a.direction a.table.now) _ _ (omega (arith, ordered, c.requires.few, c.requires.list_long)) (omega arith) c.loop-number.invariant in
    let last : hi ≡ start uses.starts (suc a.p.0) = rw (add-one a.p.0) in
    marking_less _ _ _ _ part (λ q h. (h.0, h.1, omega (arith, h.2, last, ordered), h.3))
