-- Forests as lists of trees: the first so many, the others, and one forest before another.
use Rattle.std.specs.Prelude.{ℕ, zero, suc, ◌-◌, ◌≤◌, ◌≡◌, refl, List, ◌++◌}
use Rattle.std.proofs.Common.{ap, ◌∙◌, append_assoc, arith}
use Rattle.model.specs.Tree.{Forest, none, ◌then◌, count, prefix, prefixes, OverAll}

abbrev pub take_trees : ℕ → Forest → Forest
take_trees zero ts = none
take_trees (suc k) none = none
take_trees (suc k) (◌then◌ t ts) = ◌then◌ t (take_trees k ts)

abbrev pub drop_trees : ℕ → Forest → Forest
drop_trees zero ts = ts
drop_trees (suc k) none = none
drop_trees (suc k) (◌then◌ t ts) = drop_trees k ts

abbrev pub joined : Forest → Forest → Forest
joined none us = us
joined (◌then◌ t ts) us = ◌then◌ t (joined ts us)

pub count_take : (k : ℕ) (ts : Forest) → k ≤ count ts → count (take_trees k ts) ≡ k
unfolding count
count_take zero ts enough = refl
count_take (suc k) none enough = absurd (omega arith)
count_take (suc k) (◌then◌ t ts) enough = ap suc (count_take k ts (omega arith))

pub count_drop : (k : ℕ) (ts : Forest) → count (drop_trees k ts) ≡ count ts - k
unfolding count
count_drop zero ts = omega arith
count_drop (suc k) none = omega arith
count_drop (suc k) (◌then◌ t ts) = count_drop k ts ∙ omega arith

pub prefixes_take-drop : (k : ℕ) (ts : Forest) → prefixes (take_trees k ts) ++ prefixes (drop_trees k ts) ≡ prefixes ts
unfolding prefixes
prefixes_take-drop zero ts = refl
prefixes_take-drop (suc k) none = refl
prefixes_take-drop (suc k) (◌then◌ t ts) =
    append_assoc (prefix t) (prefixes (take_trees k ts)) (prefixes (drop_trees k ts)) ∙ ap (◌++◌ (prefix t)) (prefixes_take-drop k ts)

pub over_take : (ranks : List ℕ) (k : ℕ) (ts : Forest) → OverAll ranks ts → OverAll ranks (take_trees k ts)
unfolding OverAll
over_take ranks zero ts over = tt
over_take ranks (suc k) none over = tt
over_take ranks (suc k) (◌then◌ t ts) over = (over.0, over_take ranks k ts over.1)

pub over_drop : (ranks : List ℕ) (k : ℕ) (ts : Forest) → OverAll ranks ts → OverAll ranks (drop_trees k ts)
unfolding OverAll
over_drop ranks zero ts over = over
over_drop ranks (suc k) none over = tt
over_drop ranks (suc k) (◌then◌ t ts) over = over_drop ranks k ts over.1

pub take_joined : (ts us : Forest) → take_trees (count ts) (joined ts us) ≡ ts
unfolding count
take_joined none us = refl
take_joined (◌then◌ t ts) us = ap (◌then◌ t) (take_joined ts us)

pub drop_joined : (ts us : Forest) → drop_trees (count ts) (joined ts us) ≡ us
unfolding count
drop_joined none us = refl
drop_joined (◌then◌ t ts) us = drop_joined ts us
