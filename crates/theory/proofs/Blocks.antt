-- Blocks numbered by first use: each has a member, there are no more than states, and the numbers are determined.
use Rattle.std.specs.Prelude.{◌≡◌, refl, List, [], ◌∷◌, map, ℕ, zero, suc, ◌<◌, ◌≤◌}
use Rattle.std.proofs.Common.{sym, ap₂, ◌∙◌, subst, arith}
use Rattle.std.proofs.Math.Decide.{dec_lt}
use Rattle.model.specs.Table.{Each}
use Rattle.theory.specs.Blocks.{block_count, FirstUse, Refines, block_count_same}

module _ (n : ℕ) (b : ℕ → ℕ) (numbered : FirstUse n b) where
  -- each block number below the count has a member
  pub block_member : (i : ℕ) → i ≤ n → (D : ℕ) → D < block_count b i → (j : ℕ) × (j < i) × (b j ≡ D)
  block_member zero le D l = absurd (omega arith)
  block_member (suc i) le D l = go (dec_lt D (block_count b i)) (block_member i (omega arith) D)
    where
      go : Dec (D < block_count b i) → (D < block_count b i → (j : ℕ) × (j < i) × (b j ≡ D)) → (j : ℕ) × (j < suc i) × (b j ≡ D)
      go (yes k) f = let r = f k in (r.0, omega (arith, r.1), r.2)
      go (no h) f = (i, omega arith, omega (arith, numbered.next i (omega arith)))

  -- there are no more blocks than states
  pub block_count_few : (i : ℕ) → i ≤ n → block_count b i ≤ i
  block_count_few zero le = omega arith
  block_count_few (suc i) le = omega (arith, block_count_few i (omega arith), numbered.next i le)

  -- each word of blocks is that of a word of states
  pub block_members : (Ds : List ℕ) → Each (λ D. D < block_count b n) Ds → (qs : List ℕ) × Each (λ q. q < n) qs × (map b qs ≡ Ds)
  block_members [] l = ([], tt, refl)
  block_members (D ∷ Ds) l =
      let (q, lq, e) = block_member n (omega arith) D l.0 in
      let (qs, lqs, es) = block_members Ds l.1 in
      (q ∷ qs, (lq, lqs), ap₂ ◌∷◌ e es)

-- numberings by first use that put the same states together are equal
module _ (n : ℕ) (b c : ℕ → ℕ) (B : FirstUse n b) (C : FirstUse n c) (down : Refines n b c) (up : Refines n c b) where
  equal_next : (i : ℕ) → i < n → ((j : ℕ) → j < i → b j ≡ c j) → b i ≡ c i
  equal_next i l ih = go (dec_lt (b i) (block_count b i)) (dec_lt (c i) (block_count c i))
    where
      same : block_count b i ≡ block_count c i
      same = block_count_same b c i ih

      go : Dec (b i < block_count b i) → Dec (c i < block_count c i) → b i ≡ c i
      go (yes k) y = let (j, lj, e) = block_member n b B i (omega arith) (b i) k in sym e ∙ ih j lj ∙ down.keeps j i (omega arith) l e
      go (no h) (yes k) = let (j, lj, e) = block_member n c C i (omega arith) (c i) k in up.keeps i j l (omega arith) (sym e) ∙ ih j lj ∙ e
      go (no h) (no k) = omega (arith, B.next i l, C.next i l, same)

  equal_below : (i : ℕ) → i ≤ n → (j : ℕ) → j < i → b j ≡ c j
  equal_below zero le j l = absurd (omega arith)
  equal_below (suc i) le j l = go (dec_lt j i) (equal_below i (omega arith))
    where
      go : Dec (j < i) → ((k : ℕ) → k < i → b k ≡ c k) → b j ≡ c j
      go (yes k) ih = ih j k
      go (no h) ih = let e : i ≡ j = omega arith in subst (λ (x : ℕ). b x ≡ c x) e (equal_next i (omega arith) ih)

  pub first_use_unique : (q : ℕ) → q < n → b q ≡ c q
  first_use_unique q l = equal_below n (omega arith) q l

-- where there are as many blocks as states, each state is its own block
pub block_count_all : (n : ℕ) (b : ℕ → ℕ) → FirstUse n b → (i : ℕ) → i ≤ n → block_count b i ≡ i → (q : ℕ) → q < i → b q ≡ q
block_count_all n b numbered zero le e q l = absurd (omega arith)
block_count_all n b numbered (suc i) le e q l = go (dec_lt q i) (block_count_all n b numbered i (omega arith) (omega (arith, few, numbered.next i le)) q)
  where
    few : block_count b i ≤ i
    few = block_count_few n b numbered i (omega arith)

    go : Dec (q < i) → (q < i → b q ≡ q) → b q ≡ q
    go (yes k) ih = ih k
    go (no h) ih = let f : i ≡ q = omega arith in subst (λ (x : ℕ). b x ≡ x) f (omega (arith, few, numbered.next i le))
