-- How far from 0 the weight given back lies (document 01, "Numbers that come back"): nothing, or within 8,798,240,501,759.
use Rattle.std.specs.Prelude.{Ok, Err, ℕ, zero, suc, ◌+◌, ◌*◌, ◌≤◌, ◌<◌, ◌≡◌, refl, ◌⊎◌, Bool, true, false, cond, List, leb, ℤ, negsuc, nat_abs, length, get_or}
use Rattle.std.proofs.Common.{ap, inl, inr, arith}
use Rattle.model.specs.Table.{Table, Proper, ProperTransition}
use Rattle.model.specs.Tree.{Tree, prefix}
use Rattle.model.proofs.Each.{each_implies}
use Rattle.theory.specs.MaxPlus.{Value, nothing, number}
use Rattle.theory.specs.Arithmetic.{value_of, sheet_number}
use Rattle.theory.specs.Weight.{weight, value}
use Rattle.theory.specs.Bound.{Within}
use Rattle.theory.proofs.Bound.{within_more, weight_within}
use Rattle.answers.specs.declared.Refusal.TheVariants.{RoomTooShort}
use Rattle.format.specs.Read as format
use Rattle.roundtrip.specs.Tables.{table_sound}
use Rattle.trees.specs.Read.{TreeRead, tree_read}
use Rattle.trees.specs.Finished.{tree_of}
use Rattle.trees.specs.Written.{sound}
use Rattle.weigh.specs.declared.Weighing.{Weighing}
use Rattle.weigh.specs.Asked.{refused, weighed, with_table, with_tree, answered, weighed_asked}
use Rattle.weigh.specs.Promise.{Weighed}

-- nothing, or near enough
abbrev pub Near : ℤ → Type 0
Near z = (z ≡ negsuc 9223372036854775807) ⊎ (nat_abs z ≤ 8798240501759)

within_near : (v : Value) → Within 4097 v → Near (sheet_number v)
within_near nothing h = inl refl
within_near (number z) h = inr (omega arith)

weight_near : (X : Table) → Proper X → (t : Tree) → length (prefix t) ≤ 4096 → (a : ℕ) → a ≤ 1 → Near (sheet_number (value_of a (weight a X t)))
weight_near X proper t small zero l = inr (omega (arith, (weight 0 X t).1))
weight_near X proper t small (suc zero) l =
    within_near (weight 1 X t) (within_more (length (prefix t) + 1) 4097 (omega arith) (weight 1 X t)
    (weight_within X (each_implies (ProperTransition X.ranks X.states) (λ t. t.code < 4294967296) (λ t p. p.code_fits) X.transitions proper.transitions_proper) proper.finals_fit t))
weight_near X proper t small (suc (suc a)) l = absurd (omega arith)

pub weigh_near : (table tree : List ℕ) → ((i : ℕ) → get_or table i 0 < 256) → (before after : List ℤ) (w : Weighing) → Weighed table tree before (Ok w) after → Near w.weight
unfolding value
weigh_near table tree bytes before after w p = at_table (format.table_read table) refl (weighed_asked tree before (Ok w) after table p).0
  where
    with-room : (X : Table) → Proper X → length (prefix (tree_of X.ranks tree)) ≤ 4096 → (n : ℕ) (b : Bool)
        → Ok w ≡ answered (cond b (weighed X (tree_of X.ranks tree) n) (refused (RoomTooShort (n * X.states)))) → Near w.weight
    with-room X proper small n true e = let weight : w.weight ≡ sheet_number (value X (tree_of X.ranks tree)) = cc in rw weight (weight_near X proper (tree_of X.ranks tree) small X.arithmetic proper.arithmetic_known)
    with-room X proper small n false e = cc

    at_tree : (X : Table) → Proper X → (r : TreeRead) → tree_read X.ranks tree ≡ r → Ok w ≡ answered (with_tree X tree (length before) r) → Near w.weight
    at_tree X proper (Ok n) f e =
        let written = sound X.ranks tree n f in
        with-room X proper (omega (arith, ap length written.bytes_are, written.few)) n (leb (n * X.states) (length before)) e
    at_tree X proper (Err r) f e = cc

    at_table : (x : format.Found Table) → format.table_read table ≡ x → Ok w ≡ answered (with_table tree (length before) x) → Near w.weight
    at_table (format.found X end) f e = at_tree X (table_sound table bytes X end f).0 (tree_read X.ranks tree) refl e
    at_table (format.refused r) f e = cc
