-- `numbers::long_number` meets its contract. The invariant is `Groups`: the groups so far and the rest make up the number.
-- Assumes nothing.
use Rattle.std.proofs.Common.{arith, refl, get_or, ◌-◌}
use Rattle.numbers.proofs.Groups.{groups_start, groups_go_on, group_fits, unit_grows, table_ends, byte_padded, fifth_too_large, byte_last}
use Rattle.numbers.proofs.long_number.Goals as goal

pub loop-at-init : goal.loop-at-init
loop-at-init c = groups_start _ _ _ c.requires.few

pub returns-then-byte-eq0 : goal.returns-then-byte-eq0
returns-then-byte-eq0 c = byte_padded _ _ _ _ _ _ c.loop-at.invariant _ c.loop-at-test.true refl c.if-byte-eq0.true

pub returns-then-byte-ge-FIFTH_LIMIT : goal.returns-then-byte-ge-FIFTH_LIMIT
returns-then-byte-ge-FIFTH_LIMIT c =
    fifth_too_large _ _ _ _ _ _ c.loop-at.invariant _ c.loop-at-test.true refl c.if-unit-eq-FIFTH_UNIT.true c.if-byte-ge-FIFTH_LIMIT.true

-- behind the test of the fifth byte, `unit ≡ 268435456` says that the byte is below 16: `omega` finds it

pub overflow_mul-result : goal.overflow_mul-result
overflow_mul-result c = omega (arith, group_fits _ _ _ _ _ _ c.loop-at.invariant (get_or c.args.table.now c.loop-at.at 0) (omega arith) (λ full. omega arith))

pub overflow_add-result : goal.overflow_add-result
overflow_add-result c = omega (arith, group_fits _ _ _ _ _ _ c.loop-at.invariant (get_or c.args.table.now c.loop-at.at 0) (omega arith) (λ full. omega arith))

pub returns-then-byte-lt128 : goal.returns-then-byte-lt128
returns-then-byte-lt128 c =
    byte_last _ _ _ _ _ _ c.loop-at.invariant _ c.loop-at-test.true refl (λ full. omega arith) c.if-byte-eq0.false c.if-byte-lt128.true

pub overflow_mul-value : goal.overflow_mul-value
overflow_mul-value c = omega (arith, group_fits _ _ _ _ _ _ c.loop-at.invariant (get_or c.args.table.now c.loop-at.at 0 - 128) (omega arith) (λ full. omega arith))

pub overflow_add-value : goal.overflow_add-value
overflow_add-value c = omega (arith, group_fits _ _ _ _ _ _ c.loop-at.invariant (get_or c.args.table.now c.loop-at.at 0 - 128) (omega arith) (λ full. omega arith))

pub overflow_mul-unit : goal.overflow_mul-unit
overflow_mul-unit c =
    omega (arith, unit_grows _ _ _ _ _ _ c.loop-at.invariant _ c.loop-at-test.true refl (λ full. omega arith) c.if-byte-lt128.false)

pub loop-at-preserved : goal.loop-at-preserved
loop-at-preserved c =
    groups_go_on _ _ _ _ _ _ c.loop-at.invariant _ c.loop-at-test.true refl (λ full. omega arith) c.if-byte-lt128.false (omega arith)

pub returns : goal.returns
returns c = table_ends _ _ _ _ _ _ c.loop-at.invariant c.loop-at-test.false
