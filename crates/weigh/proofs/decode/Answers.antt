-- `weigh::decode` meets its contract. The invariant: j numbers are stored.
-- Assumes nothing.
use Rattle.std.proofs.Common.{pos, get_or, arith}
use Rattle.weigh.proofs.Bounds.{carried, stands_code}
use Rattle.weigh.proofs.Replacing.{replaced_more}
use Rattle.weigh.proofs.decode.Goals as goal
use Rattle.theory.specs.Arithmetic.{arithmetic_number}

pub loop-j-preserved : goal.loop-j-preserved
loop-j-preserved c =
    let t = c.args.t.now in
    let z = c.number_of_code in
    let l = c.loop-j in
    replaced_more (pos 0) 0 _ c.args.numbers.now l.j _ _ l.numbers l.invariant (omega arith) (let same = l.invariant.same_length in omega arith)
    (rw (carried z.result z.type_inv) (stands_code (arithmetic_number t.arithmetic) (get_or t.code l.j 0) (omega arith) z.result z.ensures))
