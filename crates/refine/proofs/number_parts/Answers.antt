-- `refine::number_parts` meets its contract. Assumes nothing.
use Rattle.std.proofs.Common.{arith, ℕ}
use Rattle.dependents.specs.Marks.{marking_starts}
use Rattle.dependents.specs.Tables.{DependsOnMovedIn}
use Rattle.refine.proofs.number_parts.Goals.{then-parts-gt1, else-parts-gt1}
use Rattle.refine.proofs.number_parts.Goals as goal

pub returns-clause-numbered : goal.returns-clause-numbered
returns-clause-numbered c =
    let a = c.args in
    let keeper = c.keeper-keeper in record {
      keeper = keeper.result;
      keeps = keeper.ensures.known;
      of_clean = keeper.ensures.of_clean;
      cleared = c.renumber.new.dirty;
      renumbered = rw c.of-block.ensures at c.renumber.ensures;
      marked = elim c.if-parts-gt1.branch [
        | then-parts-gt1 w ↦ rw w.dirty-is w.mark_moved.ensures
        | else-parts-gt1 w ↦
            -- the one part is the keeper
            let none = λ (q : ℕ) (m : DependsOnMovedIn a.direction a.members.now a.part.now keeper.result a.table.now a.others.now q). m.3.0 (omega (arith, c.requires.parted.within m.0 m.2)) in
            rw w.dirty-is (marking_starts _ _ none c.renumber.array_long)
      ];
      unmarked = λ one. elim c.if-parts-gt1.branch [
        | then-parts-gt1 w ↦ absurd (omega (arith, w.if-parts-gt1.true))
        | else-parts-gt1 w ↦ w.dirty-is
      ];
    }
