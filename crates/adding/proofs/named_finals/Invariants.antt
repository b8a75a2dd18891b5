-- `adding::named_finals` meets its contract: the blocks so far have their named member's final code.
-- Assumes nothing.
use Rattle.std.proofs.Common.{ℕ, ◌<◌, ◌≡◌, length, get_or}
use Rattle.adding.specs.Named.{name_of}
use Rattle.adding.proofs.named_finals.Given as goal

abbrev pub invariant-loop-block : goal.invariant-loop-block
invariant-loop-block l =
    (length l.codes ≡ 256) × ((D : ℕ) → D < l.block → get_or l.codes D 0 ≡ get_or l.table.finals (name_of l.names.list D) 0)
