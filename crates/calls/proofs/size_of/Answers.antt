use Rattle.std.proofs.Common.{ℕ, Ok, sym, ap, ap₂, ◌∙◌}
use Rattle.calls.specs.Picking.{size_of}
use Rattle.calls.specs.Readings.{reading_taken, taken_count}
use Rattle.calls.proofs.size_of.Goals as goal

pub returns : goal.returns
returns c =
    let read = c.in_ok-record in
    let t = reading_taken _ read.record read.ensures in
    let count = taken_count c.args.table.now (λ i. (c.type_inv.table i).fits) read.record t in
    ap₂ (λ (x y : ℕ). Ok (record { states = x; transitions = y })) t.states count ∙ sym (ap size_of t.seen)
