-- The weight for a key is what the code means that is listed for it.
use Rattle.std.specs.Prelude.{◌≡◌, ℕ}
use Rattle.std.proofs.Common.{sym, ap, ◌∙◌}
use mathlib.Core.List.{List, []}
use Rattle.model.specs.Table.{Transition, key, Ascending}
use Rattle.theory.specs.Equality.{lists}
use Rattle.theory.specs.Arithmetic.{arithmetic, meaning, meaning_zero}
use Rattle.theory.specs.Order.{list_order}
use Rattle.theory.specs.Listing.{sum_listed}
use Rattle.theory.specs.Entry.{code_at, code_at_listed, ascending_rising, weight_at_key}
use Rattle.theory.proofs.Laws.{laws}

module _ (a : ℕ) where
  pub weight_at_key_listed : (ts : List Transition) → Ascending [] ts → (k : List ℕ) → weight_at_key a ts k ≡ meaning a (code_at ts k)
  weight_at_key_listed ts up k = sum_listed lists list_order key (λ t. t.code) 0 (arithmetic a) (laws a) (meaning a) (meaning_zero a) [] k ts (ascending_rising [] ts up) ∙ ap (meaning a) (sym (code_at_listed ts k))
