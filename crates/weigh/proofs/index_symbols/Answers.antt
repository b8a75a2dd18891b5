-- `weigh::index_symbols` meets its contract. The invariant: the beginnings of the symbols below s are stored, and the transitions
-- before `begin` have a symbol below s.
-- Assumes nothing.
use Rattle.std.proofs.Common.{arith}
use Rattle.weigh.proofs.Replacing.{replaced_none, replaced_more}
use Rattle.weigh.proofs.index_symbols.Goals as goal

pub loop-s-init : goal.loop-s-init
loop-s-init c = (omega arith, λ i l. absurd (omega arith), replaced_none 0 0 _ _)

pub loop-s-preserved : goal.loop-s-preserved
loop-s-preserved c =
    let l = c.loop-s in
    let begin = c.begin_of-begin.ensures in
    let few = c.requires.symbols_few in
    let same = l.invariant.2.same_length in (
      begin.within,
      λ i earlier. let below = begin.below i earlier in omega arith,
      replaced_more 0 0 _ c.args.begins.now l.s l.s c.begin_of-begin.result l.begins l.invariant.2 (omega arith) (omega arith) begin,
    )
