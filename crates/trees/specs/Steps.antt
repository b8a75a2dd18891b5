-- One step of reading: what the next byte leads to where a node is due, and what is found at an offset of a tree.
use Prim.Native.Nat.{ℕ, zero, suc, ◌+◌, ◌-◌, ◌≤◌, ◌<◌}
use Rattle.std.specs.Prelude.{Ok, Err, ◌≡◌, refl, Bool, true, false, List, ◌∷◌, length, get_or, drop, leb}
use Rattle.std.proofs.Common.{add-one, sub-one}
use borrow.Author.Tests.{le-leb, lt-leb, leb-true, leb-false}
use Rattle.std.proofs.Math.ListN.{drop_of_length-le}
use Rattle.std.proofs.Math.Seq.{drop-cons}
use Rattle.answers.specs.declared.Refusal.TheVariants.{TreeEnds, UnknownSymbol, TreeGoesOn, TreeTooLong}
use Rattle.trees.specs.Read.{TreeRead, nodes_from}

module _ (ranks : List ℕ) (due at symbol : ℕ) (rest : List ℕ) where
  too_late : 4096 ≤ at → nodes_from ranks (suc due) at (symbol ∷ rest) ≡ Err TreeTooLong
  unfolding nodes_from
  too_late late = rw (le-leb 4096 at late)

  unknown : at < 4096 → length ranks ≤ symbol → nodes_from ranks (suc due) at (symbol ∷ rest) ≡ Err (UnknownSymbol at)
  unfolding nodes_from
  unknown early beyond = rw (lt-leb 4096 at early, le-leb (length ranks) symbol beyond)

  pub known : at < 4096 → symbol < length ranks
      → nodes_from ranks (suc due) at (symbol ∷ rest) ≡ nodes_from ranks (due + get_or ranks symbol 0) (at + 1) rest
  unfolding nodes_from
  known early within = rw (lt-leb 4096 at early, lt-leb (length ranks) symbol within)

  -- which of the three holds, by what is found
  pub data NodeRead : TreeRead → Type 0 where
    read_late : 4096 ≤ at → NodeRead (Err TreeTooLong)
    read_unknown : at < 4096 → length ranks ≤ symbol → NodeRead (Err (UnknownSymbol at))
    read_known : at < 4096 → symbol < length ranks → NodeRead (nodes_from ranks (due + get_or ranks symbol 0) (at + 1) rest)

  pub node_read : NodeRead (nodes_from ranks (suc due) at (symbol ∷ rest))
  node_read = by (leb 4096 at) (leb (length ranks) symbol) refl refl
    where
      by : (late beyond : Bool) → leb 4096 at ≡ late → leb (length ranks) symbol ≡ beyond
          → NodeRead (nodes_from ranks (suc due) at (symbol ∷ rest))
      by true beyond e f = rw (too_late (leb-true _ _ e)) (read_late (leb-true _ _ e))
      by false true e f = rw (unknown (leb-false _ _ e) (leb-true _ _ f)) (read_unknown (leb-false _ _ e) (leb-true _ _ f))
      by false false e f = rw (known (leb-false _ _ e) (leb-false _ _ f)) (read_known (leb-false _ _ e) (leb-false _ _ f))

module _ (ranks tree : List ℕ) (at : ℕ) where
  pub finished_at_end : (due : ℕ) → due ≡ 0 → length tree ≤ at → nodes_from ranks due at (drop at tree) ≡ Ok at
  unfolding nodes_from
  finished_at_end due over end = rw (over, drop_of_length-le tree end)

  pub due_at_end : (due : ℕ) → (due ≡ 0 → ⊥) → length tree ≤ at → nodes_from ranks due at (drop at tree) ≡ Err (TreeEnds at)
  unfolding nodes_from
  due_at_end zero some end = absurd (some refl)
  due_at_end (suc due) some end = rw (drop_of_length-le tree end)

  pub finished_inside : (due : ℕ) → due ≡ 0 → at < length tree → nodes_from ranks due at (drop at tree) ≡ Err (TreeGoesOn at)
  unfolding nodes_from
  finished_inside due over inside = rw (over, drop-cons tree at 0 inside)

  pub due_too_late : (due : ℕ) → (due ≡ 0 → ⊥) → at < length tree → 4096 ≤ at → nodes_from ranks due at (drop at tree) ≡ Err TreeTooLong
  due_too_late zero some inside late = absurd (some refl)
  due_too_late (suc due) some inside late = rw (drop-cons tree at 0 inside) (too_late ranks due at _ _ late)

  pub due_unknown : (due : ℕ) → (due ≡ 0 → ⊥) → at < length tree → at < 4096 → length ranks ≤ get_or tree at 0
      → nodes_from ranks due at (drop at tree) ≡ Err (UnknownSymbol at)
  due_unknown zero some inside early beyond = absurd (some refl)
  due_unknown (suc due) some inside early beyond = rw (drop-cons tree at 0 inside) (unknown ranks due at _ _ early beyond)

  pub due_known : (due : ℕ) → (due ≡ 0 → ⊥) → at < length tree → at < 4096 → get_or tree at 0 < length ranks
      → nodes_from ranks due at (drop at tree) ≡ nodes_from ranks (due - 1 + get_or ranks (get_or tree at 0) 0) (at + 1) (drop (at + 1) tree)
  due_known zero some inside early within = absurd (some refl)
  due_known (suc due) some inside early within =
      rw (drop-cons tree at 0 inside, sub-one (suc due), add-one at, known ranks due at (get_or tree at 0) (drop (suc at) tree) early within, add-one at)
