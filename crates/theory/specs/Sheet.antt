-- The sheet that weighing fills: for each node, in prefix order, the weights of its subtree at the states 0 to n − 1.
use Rattle.std.specs.Prelude.{◌≡◌, List, [], ◌++◌, map, ℕ, ◌+◌, ◌*◌, ℤ, length}
use Rattle.std.proofs.Common.{sym, ap, ap₂, ◌∙◌, add-mul, suc-mul, zero-mul, add_comm, length-append}
use Rattle.std.proofs.lemmas.List.{length-map}
use Rattle.model.specs.Table.{Table}
use Rattle.model.specs.Tree.{Tree, Forest, node, none, ◌then◌, prefix, prefixes}
use Rattle.theory.specs.Below.{below, length-up_from}
use Rattle.theory.specs.Arithmetic.{value_of, sheet_number}
use Rattle.theory.specs.Weight.{weight_at}

module _ (a : ℕ) (X : Table) where
  -- the weights of a tree at each state
  abbrev pub row : Tree → List ℤ
  row t = map (λ q. sheet_number (value_of a (weight_at a X t q))) (below X.states)

  -- the rows of a tree's nodes, and of the trees of a forest one after another
  unfoldable mutual
    pub sheet : Tree → List ℤ
    sheet (node σ ts) = row (node σ ts) ++ sheets ts

    pub sheets : Forest → List ℤ
    sheets none = []
    sheets (◌then◌ t ts) = sheet t ++ sheets ts

  length_row : (t : Tree) → length (row t) ≡ X.states
  length_row t = length-map (below X.states) _ ∙ length-up_from 0 X.states

  -- n numbers for each node
  mutual
    unfolding sheet prefix

    pub length_sheet : (t : Tree) → length (sheet t) ≡ length (prefix t) * X.states
    length_sheet (node σ ts) = length-append (row (node σ ts)) (sheets ts) ∙ ap₂ ◌+◌ (length_row (node σ ts)) (length_sheets ts)
        ∙ add_comm X.states (length (prefixes ts) * X.states) ∙ sym (suc-mul (length (prefixes ts)) X.states)

    pub length_sheets : (ts : Forest) → length (sheets ts) ≡ length (prefixes ts) * X.states
    length_sheets none = sym (zero-mul X.states)
    length_sheets (◌then◌ t ts) = length-append (sheet t) (sheets ts) ∙ ap₂ ◌+◌ (length_sheet t) (length_sheets ts)
        ∙ sym (add-mul (length (prefix t)) (length (prefixes ts)) X.states) ∙ ap (λ (k : ℕ). k * X.states) (sym (length-append (prefix t) (prefixes ts)))
