-- `partition::NameList::named` meets its contract: of the states below q it is told whether they are named. Assumes nothing.
use Rattle.std.proofs.Common.{ℕ, Bool, false, ◌≡◌, eqb, get_or}
use Rattle.partition.specs.Filling.{Filling}
use Rattle.partition.proofs.NameList.named.Given as goal

abbrev pub invariant-loop-q : goal.invariant-loop-q
invariant-loop-q l = Filling false (λ (p : ℕ) (is : Bool). is ≡ eqb (get_or l.self.list (get_or l.blocks.list p 0) 0) p) 256 l.named l.q
