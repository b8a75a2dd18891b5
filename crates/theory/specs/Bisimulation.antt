-- Bisimulations, whatever it means that two states agree: what both directions share.
use Rattle.std.specs.Prelude.{◌≡◌, ℕ, ◌<◌}
use Rattle.theory.specs.Blocks.{Refines}

-- `Agree b p q` says that p and q, of n states, agree under the blocks b.
module _ (n : ℕ) (Agree : (ℕ → ℕ) → ℕ → ℕ → Type 0) where
  -- blocks whose members agree under these blocks
  pub record Bisimulation (b : ℕ → ℕ) : Type 0 where
    pub agree : (p q : ℕ) → p < n → q < n → b p ≡ b q → Agree b p q

  -- some bisimulation relates p and q
  pub record Related (p q : ℕ) : Type 0 where
    pub blocks : ℕ → ℕ
    pub bisimulation : Bisimulation blocks
    pub share : blocks p ≡ blocks q

  -- two states share a block exactly when some bisimulation relates them
  pub record Coarsest (b : ℕ → ℕ) : Type 0 where
    pub together : (p q : ℕ) → p < n → q < n → Related p q → b p ≡ b q
    pub related : (p q : ℕ) → p < n → q < n → b p ≡ b q → Related p q

  -- agreement is an equivalence, and survives when blocks are merged
  pub record Agreement : Type 0 where
    pub agree_self : (b : ℕ → ℕ) (p : ℕ) → Agree b p p
    pub agree_sym : (b : ℕ → ℕ) (p q : ℕ) → Agree b p q → Agree b q p
    pub agree_trans : (b : ℕ → ℕ) (p q r : ℕ) → Agree b p q → Agree b q r → Agree b p r
    pub agree_merge : (c b : ℕ → ℕ) → Refines n c b → (p q : ℕ) → Agree c p q → Agree b p q

  -- every bisimulation refines b
  abbrev pub Covers : (ℕ → ℕ) → Type 0
  Covers b = (c : ℕ → ℕ) → Bisimulation c → Refines n c b

  pub coarsest_covers : (b : ℕ → ℕ) → Coarsest b → Covers b
  coarsest_covers b B c h = record { keeps = λ p q lp lq e. B.together p q lp lq (record { blocks = c; bisimulation = h; share = e }) }

  -- a bisimulation that every other refines is the coarsest
  pub covers_coarsest : (b : ℕ → ℕ) → Bisimulation b → Covers b → Coarsest b
  covers_coarsest b h up = record {
    together = λ p q lp lq r. (up r.blocks r.bisimulation).keeps p q lp lq r.share;
    related = λ p q lp lq e. record { blocks = b; bisimulation = h; share = e };
  }

  -- other numbers for the same blocks
  pub coarsest_renumbered : (b c : ℕ → ℕ) → Refines n b c → Refines n c b → Coarsest b → Coarsest c
  coarsest_renumbered b c down up B = record {
    together = λ p q lp lq r. down.keeps p q lp lq (B.together p q lp lq r);
    related = λ p q lp lq e. B.related p q lp lq (up.keeps p q lp lq e);
  }

  module _ (A : Agreement) where
    -- the coarsest blocks are a bisimulation
    pub coarsest_bisimulation : (b : ℕ → ℕ) → Coarsest b → Bisimulation b
    coarsest_bisimulation b B = record {
      agree = λ p q lp lq e.
          let r : Related p q = B.related p q lp lq e in
          A.agree_merge r.blocks b (coarsest_covers b B r.blocks r.bisimulation) p q (r.bisimulation.agree p q lp lq r.share);
    }

    -- blocks that put apart only states that disagree are still refined by every bisimulation
    pub split_covers : (b b' : ℕ → ℕ) → ((p q : ℕ) → p < n → q < n → b p ≡ b q → Agree b p q → b' p ≡ b' q) → Covers b → Covers b'
    split_covers b b' stay up c h = record {
      keeps = λ p q lp lq e.
          stay p q lp lq ((up c h).keeps p q lp lq e) (A.agree_merge c b (up c h) p q (h.agree p q lp lq e));
    }

-- what decides agreement decides the coarsest blocks
pub coarsest_same : (n : ℕ) (Agree Agree' : (ℕ → ℕ) → ℕ → ℕ → Type 0) → ((b : ℕ → ℕ) (p q : ℕ) → Agree b p q → Agree' b p q) → ((b : ℕ → ℕ) (p q : ℕ) → Agree' b p q → Agree b p q)
    → (b : ℕ → ℕ) → Coarsest n Agree b → Coarsest n Agree' b
coarsest_same n Agree Agree' to from b B = record {
  together = λ p q lp lq r. B.together p q lp lq (record { blocks = r.blocks; bisimulation = back r.blocks r.bisimulation; share = r.share });
  related = λ p q lp lq e. forth (B.related p q lp lq e);
}
  where
    back : (c : ℕ → ℕ) → Bisimulation n Agree' c → Bisimulation n Agree c
    back c h = record { agree = λ p q lp lq e. from c p q (h.agree p q lp lq e) }

    forth : {p q : ℕ} → Related n Agree p q → Related n Agree' p q
    forth r = record { blocks = r.blocks; bisimulation = record { agree = λ p q lp lq e. to r.blocks p q (r.bisimulation.agree p q lp lq e) }; share = r.share }
