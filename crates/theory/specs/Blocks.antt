-- Blocks of states: a function from state numbers to block numbers. Numbering by first use (document 01, "Definitions").
use Rattle.std.specs.Prelude.{◌≡◌, refl, ◌⊎◌, ◌≢◌, Bool, true, false, cond, List, ℕ, zero, suc, ◌<◌, ◌≤◌, max, eqb, get_or}
use Rattle.std.proofs.Common.{sym, ap, ◌∙◌, subst, inl, inr, arith}
use Rattle.std.proofs.Math.Decide.{dec_lt}
use Rattle.theory.specs.Equality.{numbers, equal_or_not, equal_same, same_true, same_false, false_differ, true_of}

-- the block of each state, from a list with one block a state
abbrev pub block_of : List ℕ → ℕ → ℕ
block_of blocks q = get_or blocks q 0

-- two of the n states that share a block of c share one of b
pub record Refines (n : ℕ) (c b : ℕ → ℕ) : Type 0 where
  pub keeps : (p q : ℕ) → p < n → q < n → c p ≡ c q → b p ≡ b q

-- one more than the greatest block of the states below i: numbered by first use, that is how many blocks they have
abbrev pub block_count : (ℕ → ℕ) → ℕ → ℕ
block_count b zero = zero
block_count b (suc i) = max (block_count b i) (suc (b i))

-- going up the states, each has the block of a lower state or the next number
pub record FirstUse (n : ℕ) (b : ℕ → ℕ) : Type 0 where
  pub next : (i : ℕ) → i < n → b i ≤ block_count b i

pub block_count_above : (b : ℕ → ℕ) (i j : ℕ) → j < i → b j < block_count b i
block_count_above b zero j l = absurd (omega arith)
block_count_above b (suc i) j l = go (dec_lt j i) (block_count_above b i j)
  where
    go : Dec (j < i) → (j < i → b j < block_count b i) → b j < max (block_count b i) (suc (b i))
    go (yes k) f = let h : b j < block_count b i = f k in omega arith
    go (no k) f = let e : i ≡ j = omega arith in subst (λ (x : ℕ). b x < max (block_count b i) (suc (b i))) e (omega arith)

pub block_count_same : (b c : ℕ → ℕ) (i : ℕ) → ((j : ℕ) → j < i → b j ≡ c j) → block_count b i ≡ block_count c i
block_count_same b c zero h = refl
block_count_same b c (suc i) h = rw (block_count_same b c i (λ j l. h j (omega arith)), h i (omega arith))

-- if each number below m is the block of one of n states, m is at most n
pub blocks_few : (n : ℕ) (b : ℕ → ℕ) (m : ℕ) → ((D : ℕ) → D < m → (q : ℕ) × (q < n) × (b q ≡ D)) → m ≤ n
blocks_few n b zero h = omega arith
blocks_few zero b (suc m) h = absurd (omega (arith, (h m (omega arith)).1))
blocks_few (suc n) b (suc m) h = go (blocks_few n c m)
  where
    -- the last number takes the place of the last state's block
    c : ℕ → ℕ
    c q = cond (eqb (b q) m) (b n) (b q)

    old : (q : ℕ) → b q ≢ m → c q ≡ b q
    old q e = ap (λ (t : Bool). cond t (b n) (b q)) (same_false numbers (b q) m e)

    new : (q : ℕ) → b q ≡ m → c q ≡ b n
    new q e = ap (λ (t : Bool). cond t (b n) (b q)) (true_of (eqb (b q) m) (equal_same numbers (b q) m e))

    below : (q D : ℕ) → q < suc n → b q ≡ D → b n ≢ D → q < n
    below q D l e f = let g : q ≢ n = λ d. f (ap b (sym d) ∙ e) in omega arith

    find : (D : ℕ) → D < m → (q : ℕ) × (q < n) × (c q ≡ D)
    find D l = pick (equal_or_not numbers (b n) D)
      where
        pick : (b n ≡ D) ⊎ (eqb (b n) D ≡ false) → (q : ℕ) × (q < n) × (c q ≡ D)
        pick (inl e) = let (q, lq, f) = h m (omega arith) in (q, below q m lq f (λ g. omega arith), new q f ∙ e)
        pick (inr e) = let (q, lq, f) = h D (omega arith) in (q, below q D lq f (false_differ numbers (b n) D e), old q (λ g. omega arith) ∙ f)

    go : (((D : ℕ) → D < m → (q : ℕ) × (q < n) × (c q ≡ D)) → m ≤ n) → suc m ≤ suc n
    go f = let r : m ≤ n = f find in omega arith

-- each state its own block
module _ (n : ℕ) (b : ℕ → ℕ) (own : (q : ℕ) → q < n → b q ≡ q) where
  pub block_count_own : (i : ℕ) → i ≤ n → block_count b i ≡ i
  block_count_own zero l = refl
  block_count_own (suc i) l = rw (block_count_own i (omega arith)) (omega (arith, own i l))

  pub first_use_own : FirstUse n b
  first_use_own = record { next = λ i l. omega (arith, own i l, block_count_own i (omega arith)) }

-- the greatest of the n states in a block, if there is one
abbrev pub member : (ℕ → ℕ) → ℕ → ℕ → ℕ
member b zero D = zero
member b (suc i) D = cond (eqb (b i) D) i (member b i D)

pub member_shares : (b : ℕ → ℕ) (n q : ℕ) → q < n → (member b n (b q) < n) × (b (member b n (b q)) ≡ b q)
member_shares b zero q l = absurd (omega arith)
member_shares b (suc i) q l = go (equal_or_not numbers (b i) (b q)) (member_shares b i q)
  where
    lower : eqb (b i) (b q) ≡ false → q < i
    lower e = let h : q ≢ i = λ d. false_differ numbers (b i) (b q) e (ap b (sym d)) in omega arith

    go : (b i ≡ b q) ⊎ (eqb (b i) (b q) ≡ false) → (q < i → (member b i (b q) < i) × (b (member b i (b q)) ≡ b q))
        → (member b (suc i) (b q) < suc i) × (b (member b (suc i) (b q)) ≡ b q)
    go (inl e) f = let t : eqb (b i) (b q) ≡ true = rw e (same_true numbers (b q)) in rw t (omega arith, e)
    go (inr e) f = let r = f (lower e) in rw e (omega (arith, r.0), r.1)
