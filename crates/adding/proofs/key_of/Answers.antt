-- `adding::key_of` meets its contract: the blocks of the children before place k are packed, and then the target's.
-- Assumes nothing.
use Rattle.std.proofs.Common.{ℕ, ◌+◌, ◌*◌, ◌≡◌, sym, ap, ap₂, ◌∙◌, arith, List, [], ◌∷◌, map, get_or}
use Rattle.theory.specs.Blocks.{block_of}
use Rattle.profiles.specs.Packing.{packed, packed_append}
use Rattle.tables.specs.declared.TableRecord.{TableRecord}
use Rattle.adding.specs.Tables.{row_in}
use Rattle.adding.proofs.Children.{keying_goes_on, keying_ends}
use Rattle.adding.proofs.key_of.Goals as goal

pub loop-child-preserved : goal.loop-child-preserved
loop-child-preserved c = keying_goes_on _ _ c.loop-child.packed c.loop-child.child-index c.loop-child.invariant c.children_of-child-items.ensures.few c.loop-child-test.true _ c.of.ensures (omega arith)

pub returns : goal.returns
returns c =
    let b = block_of c.args.blocks.now.list in
    let t : TableRecord = c.args.table.now in
    let children = (row_in t c.args.j).children in
    let whole : c.loop-child.packed ≡ packed 0 (map b children) =
    keying_ends _ _ c.loop-child.packed c.loop-child.child-index c.loop-child.invariant c.loop-child-test.false
    ∙ ap (λ (qs : List ℕ). packed 0 (map b qs)) c.children_of-child-items.ensures.own in
    ap (λ (n : ℕ). get_or t.symbol c.args.j 0 * 1099511627776 + n)
    (ap₂ (λ (n D : ℕ). n * 256 + D) whole c.of-2.ensures ∙ sym (packed_append 0 (map b children) (_ ∷ [])))
