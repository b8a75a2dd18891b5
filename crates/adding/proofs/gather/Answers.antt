-- `adding::gather` meets its contract: the entries so far, and those of the transitions that are left, make up the whole.
-- Assumes nothing.
use Rattle.std.proofs.Common.{refl, sym, ◌∙◌, arith}
use Rattle.theory.specs.Blocks.{block_of}
use Rattle.adding.specs.Named.{name_of}
use Rattle.adding.proofs.Gathering.{gathering_starts, gathering_takes, gathering_skips, gathering_ends}
use Rattle.adding.proofs.gather.Goals as goal
use Rattle.adding.proofs.gather.Goals.{then-counts, else-counts}

pub loop-j-init : goal.loop-j-init
loop-j-init c = gathering_starts _ _ _ _ _ _ _ (omega arith) (omega arith)

pub loop-j-preserved : goal.loop-j-preserved
loop-j-preserved c =
    let b = block_of c.args.blocks.now.list in
    let l = c.loop-j in
    let more = c.loop-j-test.true in
    let counts-is = sym (c.counts.ensures b (name_of c.args.names.now.list) c.named-named.ensures) in
    elim c.if-counts.branch [
      | then-counts w ↦ rw (w.entries-is, w.many-is) (gathering_takes _ _ _ _ _ l.entries.keys l.entries.codes l.many l.j l.invariant more c.requires.0 (counts-is ∙ w.if-counts.true) _ _ w.key_of.ensures refl)
      | else-counts w ↦ rw (w.entries-is, w.many-is) (gathering_skips _ _ _ _ _ l.entries.keys l.entries.codes l.many l.j l.invariant more (counts-is ∙ w.if-counts.false))
    ]

pub returns : goal.returns
returns c =
    let l = c.loop-j in
    gathering_ends _ _ _ _ _ _ _ _ _ l.invariant (omega arith) c.loop-j-test.false
