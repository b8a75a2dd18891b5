use Rattle.std.proofs.Common.{ℕ, ◌+◌, ◌/◌, ◌%◌, ◌<◌, ◌≤◌, ◌^◌, List, [], ◌∷◌, length, set, arith, refl}
use Rattle.numbers.specs.Written.{written}
use Rattle.writer.specs.Sinks.{Spot, spot, BytesPut, BytesFit, byte_laws}
use Rattle.writer.proofs.Short.{written_short, written_long}
use Rattle.writer.proofs.Walks.{Walked, walk_starts, next_fits, next_taken, walk_ends}
use Rattle.writer.proofs.put_number.Goals as goal

put_one : (room : List ℕ) (place byte : ℕ) → BytesPut (spot room place) (byte ∷ []) (spot (set room place byte) (place + 1))
put_one room place byte = record { room_is = refl; next_is = refl }

module _ {bytes : List ℕ} {start : Spot} (room : List ℕ) (place rest : ℕ) (so_far : Walked BytesPut bytes start (spot room place) (written rest)) where
  -- a byte with the top bit comes first
  module _ (long : 128 ≤ rest) (small : rest < 2 ^ 32) where
    more : Walked BytesPut bytes start (spot room place) ((128 + rest % 128) ∷ written (rest / 128))
    more = rw (written_long rest long small) at so_far

    more_fits : BytesFit start bytes → place + 1 ≤ length room
    more_fits h = next_fits byte_laws more h

    more_put : Walked BytesPut bytes start (spot (set room place (128 + rest % 128)) (place + 1)) (written (rest / 128))
    more_put = next_taken byte_laws more (put_one room place (128 + rest % 128))

  -- or the last byte is left
  module _ (short : rest < 128) where
    last : Walked BytesPut bytes start (spot room place) (rest ∷ [])
    last = rw (written_short rest short) at so_far

    last_fits : BytesFit start bytes → place + 1 ≤ length room
    last_fits h = next_fits byte_laws last h

    last_put : BytesPut start bytes (spot (set room place rest) (place + 1))
    last_put = walk_ends byte_laws (next_taken byte_laws last (put_one room place rest))

pub loop-rest-init : goal.loop-rest-init
loop-rest-init c = (walk_starts byte_laws (written c.args.number) (spot c.args.room.now c.args.at), c.ranges.number.fits)

pub bounds-room-place : goal.bounds-room-place
bounds-room-place c =
    let l = c.loop-rest in
    omega (arith, more_fits l.room l.place l.rest l.invariant.0 c.loop-rest-test.true l.invariant.1 c.requires)

pub overflow_add-place : goal.overflow_add-place
overflow_add-place c =
    let l = c.loop-rest in
    omega (arith, more_fits l.room l.place l.rest l.invariant.0 c.loop-rest-test.true l.invariant.1 c.requires)

pub loop-rest-preserved : goal.loop-rest-preserved
loop-rest-preserved c =
    let l = c.loop-rest in
    (more_put l.room l.place l.rest l.invariant.0 c.loop-rest-test.true l.invariant.1, omega arith)

pub bounds-room-place-2 : goal.bounds-room-place-2
bounds-room-place-2 c = omega (arith, last_fits c.loop-rest.room c.loop-rest.place c.loop-rest.rest c.loop-rest.invariant.0 c.loop-rest-test.false c.requires)

pub overflow_add-result : goal.overflow_add-result
overflow_add-result c = omega (arith, last_fits c.loop-rest.room c.loop-rest.place c.loop-rest.rest c.loop-rest.invariant.0 c.loop-rest-test.false c.requires)

pub returns : goal.returns
returns c = last_put c.loop-rest.room c.loop-rest.place c.loop-rest.rest c.loop-rest.invariant.0 c.loop-rest-test.false
