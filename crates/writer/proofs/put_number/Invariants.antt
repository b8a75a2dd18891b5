-- The bytes put, and the written form of the rest, are the written form of the number.
use Rattle.std.proofs.Common.{◌<◌, ◌^◌}
use Rattle.numbers.specs.Written.{written}
use Rattle.writer.specs.Sinks.{spot, BytesPut}
use Rattle.writer.proofs.Walks.{Walked}
use Rattle.writer.proofs.put_number.Given as goal

abbrev pub invariant-loop-rest : goal.invariant-loop-rest
invariant-loop-rest l =
    Walked BytesPut (written l.number) (spot l.fn.room l.at) (spot l.room l.place) (written l.rest) × (l.rest < 2 ^ 32)

abbrev pub decreases-loop-rest : goal.decreases-loop-rest
decreases-loop-rest l = l.rest
