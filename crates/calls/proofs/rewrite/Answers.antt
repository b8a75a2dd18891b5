use Rattle.calls.specs.Readings.{reading_taken, taken_writable, written_is, rewrites_short, rewrites_done}
use Rattle.calls.proofs.rewrite.Goals as goal

pub returns-then-room-needed : goal.returns-then-room-needed
returns-then-room-needed c =
    let read = c.in_ok-record in
    rewrites_short c.args.table.now (λ i. (c.type_inv.table i).fits) read.record (reading_taken _ read.record read.ensures) c.args.room.now c.if-room-needed.true

pub write-requires-clause-writable : goal.write-requires-clause-writable
write-requires-clause-writable c =
    let read = c.in_ok-record in
    taken_writable c.args.table.now (λ i. (c.type_inv.table i).fits) read.record (reading_taken _ read.record read.ensures)

pub write-requires-clause-fits : goal.write-requires-clause-fits
write-requires-clause-fits c =
    let read = c.in_ok-record in
    rw (written_is c.args.table.now (λ i. (c.type_inv.table i).fits) read.record (reading_taken _ read.record read.ensures)) c.if-room-needed.false

pub returns : goal.returns
returns c =
    let read = c.in_ok-record in
    rewrites_done c.args.table.now (λ i. (c.type_inv.table i).fits) read.record (reading_taken _ read.record read.ensures) _ _ _ c.if-room-needed.false c.write.ensures
