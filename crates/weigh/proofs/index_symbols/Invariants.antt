-- `weigh::index_symbols` meets its contract. The invariant: the beginnings of the symbols below s are stored, and the transitions
-- before `begin` have a symbol below s.
-- Assumes nothing.
use Rattle.std.proofs.Common.{ℕ, ◌≤◌, ◌<◌, get_or}
use Rattle.weigh.specs.Index.{Begins}
use Rattle.weigh.specs.Steps.{Replaced}
use Rattle.weigh.proofs.index_symbols.Given as goal

abbrev pub invariant-loop-s : goal.invariant-loop-s
invariant-loop-s l =
    (l.begin ≤ l.t.count) × ((i : ℕ) → i < l.begin → get_or l.t.symbol i 0 < l.s) × Replaced 0 0 l.s (Begins l.t.symbol l.t.count) l.initial.begins l.begins
