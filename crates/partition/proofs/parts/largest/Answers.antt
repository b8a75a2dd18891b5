-- `partition::parts::largest` meets its contract. Assumes nothing.
use Rattle.std.proofs.Common.{arith, rules, ℕ, get_or}
use Rattle.std.proofs.lemmas.List.{get_or-replicate}
use Rattle.std.proofs.lemmas.Grind.{common_steps}
use Rattle.partition.proofs.parts.largest.Goals.{then-sizes-best, else-sizes-best}
use Rattle.partition.proofs.parts.largest.Goals as goal

pub loop-m-init : goal.loop-m-init
loop-m-init c = (search rules, c.requires.some, λ m l. omega (arith, get_or-replicate {A = ℕ} 256 m 0 0 l))

pub loop-m-preserved : goal.loop-m-preserved
loop-m-preserved c = (
  search rules,
  elim c.if-sizes-best.branch [
    | then-sizes-best w ↦ rw w.best-is (c.requires.within c.loop-m.m-index c.loop-m-test.true)
    | else-sizes-best w ↦ rw w.best-is c.loop-m.invariant.1
  ],
  λ m l. let so_far = c.loop-m.invariant.2 in let own = so_far (get_or c.args.part.now c.loop-m.m-index 0) in grind (arith, common_steps),
)
