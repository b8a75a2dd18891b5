-- One transition: what is found number by number, and the row of the columns that it becomes.
use Rattle.std.proofs.Common.{ℕ, ◌*◌, ◌≤◌, ◌<◌, ◌≡◌, sym, List, ◌++◌, length, take, drop, get_or, set}
use Rattle.std.proofs.lemmas.List.{length-take-le, take_at, drop_at, get_or-take, get_or-set_same}
use borrow.Rule.Slice.PartMut.{put_mid}
use Rattle.answers.specs.declared.Refusal.{Refusal}
use Rattle.format.specs.Read.{found, refused, one_of, listed, many, transition_at}
use Rattle.tables.specs.Record.{columns, row_at}
use Rattle.tables.proofs.Bounds.{one_of_below}

-- the definition of a transition, number by number
module _ (s ranks : List ℕ) (symbols states at : ℕ) (fits : symbols ≤ length ranks) where
  pub no_symbol : (refusal : Refusal) → one_of s symbols at ≡ refused refusal → transition_at s (take symbols ranks) states at ≡ refused refusal
  unfolding transition_at
  no_symbol refusal e = rw (length-take-le symbols ranks fits, e)

  module _ (σ at₁ : ℕ) (e₁ : one_of s symbols at ≡ found σ at₁) where
    rank_is : get_or (take symbols ranks) σ 0 ≡ get_or ranks σ 0
    rank_is = get_or-take symbols ranks σ 0 (one_of_below s at symbols e₁)

    pub no_children : (refusal : Refusal) → many (one_of s states) (get_or ranks σ 0) at₁ ≡ refused refusal → transition_at s (take symbols ranks) states at ≡ refused refusal
    unfolding transition_at
    no_children refusal e = rw (length-take-le symbols ranks fits, e₁, rank_is, e)

    module _ (kids : List ℕ) (at₂ : ℕ) (e₂ : many (one_of s states) (get_or ranks σ 0) at₁ ≡ found kids at₂) where
      pub no_target : (refusal : Refusal) → one_of s states at₂ ≡ refused refusal → transition_at s (take symbols ranks) states at ≡ refused refusal
      unfolding transition_at
      no_target refusal e = rw (length-take-le symbols ranks fits, e₁, rank_is, e₂, e)

      module _ (q at₃ : ℕ) (e₃ : one_of s states at₂ ≡ found q at₃) where
        pub no_code : (refusal : Refusal) → listed s at₃ ≡ refused refusal → transition_at s (take symbols ranks) states at ≡ refused refusal
        unfolding transition_at
        no_code refusal e = rw (length-take-le symbols ranks fits, e₁, rank_is, e₂, e₃, e)

        pub transition_found : (w next : ℕ) → listed s at₃ ≡ found w next
            → transition_at s (take symbols ranks) states at ≡ found (record { symbol = σ; children = kids; target = q; code = w }) next
        unfolding transition_at
        transition_found w next e = rw (length-take-le symbols ranks fits, e₁, rank_is, e₂, e₃, e)

-- what was put into a list from a place on stands there
stands : (from k : ℕ) (list part : List ℕ) (n : ℕ) → from ≤ length list → n ≡ length part → take n (drop from (put_mid from k list part)) ≡ part
stands from k list part n h e = rw (drop_at (take from list) (part ++ drop k (drop from list)) from (length-take-le from list h), take_at part (drop k (drop from list)) n (sym e))

-- the row of the columns after its stores
pub row_is : (ranks symbol children target code kids : List ℕ) (j k σ q w : ℕ) → j < length symbol → j < length target → j < length code
    → j * 4 ≤ length children → get_or ranks σ 0 ≡ length kids
    → row_at (columns ranks (set symbol j σ) (put_mid (j * 4) k children kids) (set target j q) (set code j w)) j ≡ record { symbol = σ; children = kids; target = q; code = w }
row_is ranks symbol children target code kids j k σ q w h h₁ h₂ h₃ e =
    rw (get_or-set_same symbol j σ 0 h, get_or-set_same target j q 0 h₁, get_or-set_same code j w 0 h₂, stands (j * 4) k children kids (get_or ranks σ 0) h₃ e)
