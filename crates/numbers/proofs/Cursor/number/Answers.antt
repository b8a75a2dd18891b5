-- `numbers::Cursor::number` meets its contract: each return is one case of the definition.
-- Assumes nothing.
use Rattle.std.proofs.Common.{sym, ◌∙◌, refl, arith}
use Rattle.numbers.specs.Read.{number_ends, number_short, number_long}
use Rattle.numbers.proofs.Cursor.number.Goals as goal

pub returns-then-table-at : goal.returns-then-table-at
returns-then-table-at c = sym (number_ends _ _ c.if-table-at.true)

pub returns-then-byte-lt128 : goal.returns-then-byte-lt128
returns-then-byte-lt128 c = sym (number_short _ c.args.self.at _ _ _ (omega arith) refl refl c.if-byte-lt128.true)

pub returns : goal.returns
returns c = c.long_number.ensures ∙ sym (number_long _ c.args.self.at _ _ _ (omega arith) refl refl c.if-byte-lt128.false)
