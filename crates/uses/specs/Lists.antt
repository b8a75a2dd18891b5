-- Lists that stand one behind the other, as the index of uses has them, and the columns that they speak of.
use Rattle.std.specs.Prelude.{ℕ, zero, suc, ◌≤◌, ◌<◌, List, ◌≡◌, length, get_or}
use Rattle.std.proofs.Common.{subst, arith}
use Rattle.std.proofs.Math.Decide.{dec_lt}
use Rattle.std.proofs.Math.Seq.{slice}
use Rattle.theory.specs.declared.Direction.{Direction}
use Rattle.tables.specs.Rows.{Row}
use Rattle.uses.specs.Theory.{row_for}

-- the columns are as long as a table record's
pub record Long (ranks symbol children target : List ℕ) : Type 0 where
  pub ranks_long : length ranks ≡ 128
  pub symbol_long : length symbol ≡ 4000
  pub children_long : length children ≡ 16000
  pub target_long : length target ≡ 4000

-- where list p begins
abbrev pub start : List ℕ → ℕ → ℕ
start starts p = get_or starts p 0

-- list p
abbrev pub listed : List ℕ → List ℕ → ℕ → List ℕ
listed starts list p = slice (start starts p) (start starts (suc p)) list

-- the starts ascend, and every number listed is a use of a transition that can be read
pub record ListedUses (d : Direction) (ranks symbol starts list : List ℕ) : Type 0 where
  pub ascend : (p : ℕ) → p < 256 → start starts p ≤ start starts (suc p)
  pub few : start starts 256 ≤ 16000
  pub starts_long : length starts ≡ 257
  pub list_long : length list ≡ 16000
  pub rows : (i : ℕ) → i < start starts 256 → Row ranks symbol (row_for d (get_or list i 0))

-- the lists stand one behind the other
module _ (d : Direction) (ranks symbol starts list : List ℕ) (r : ListedUses d ranks symbol starts list) where
  pub starts_ascend : (p q : ℕ) → p ≤ q → q ≤ 256 → start starts p ≤ start starts q
  starts_ascend p zero l h = go p l
    where
      go : (p : ℕ) → p ≤ 0 → start starts p ≤ start starts 0
      go zero l = omega arith
      go (suc p) l = absurd (omega arith)
  starts_ascend p (suc q) l h = go (dec_lt q p) (starts_ascend p q)
    where
      go : Dec (q < p) → (p ≤ q → q ≤ 256 → start starts p ≤ start starts q) → start starts p ≤ start starts (suc q)
      go (yes k) f = let e : suc q ≡ p = omega arith in subst (λ (x : ℕ). start starts x ≤ start starts (suc q)) e (omega arith)
      go (no k) f = omega (arith, f (omega arith) (omega arith), r.ascend q h)
