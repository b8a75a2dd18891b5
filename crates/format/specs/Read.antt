-- What reading a table finds: byte by byte, each number tested as it is read, the first refusal that applies
-- (document 01, "Bytes" and "Numbers that come back", codes 1 to 7; document 02, M-104, code 19).
use Rattle.std.specs.Prelude.{ℕ, zero, suc, Bool, true, false, ◌&&◌, List, [], ◌∷◌, length, get_or, leb, ltb, Ok, Err}
use Rattle.answers.specs.declared.Refusal.{Refusal}
use Rattle.answers.specs.declared.Refusal.TheVariants.{OutOfRange, NotInTable, ZeroCode, NotAbove, TableGoesOn}
use Rattle.numbers.specs.Read.{NumberRead, number_at}
use Rattle.model.specs.Table.{Table, Transition, key, lower}

-- what is found at a place: a value with the next place, or the refusal
pub data Found (A : Type 0) : Type 0 where
  found : A → ℕ → Found A
  refused : Refusal → Found A

-- go on behind what was found; a refusal is the answer
abbrev pub after : {A B : Type 0} → Found A → (A → ℕ → Found B) → Found B
after (found a next) f = f a next
after (refused refusal) f = refused refusal

-- go on if the test holds, else refuse
abbrev pub provided : {A : Type 0} → Bool → Refusal → Found A → Found A
provided true refusal x = x
provided false refusal x = refused refusal

abbrev pub as_found : NumberRead → Found ℕ
as_found (Ok (n, next)) = found n next.at
as_found (Err refusal) = refused refusal

module _ (s : List ℕ) where
  -- a number
  abbrev pub any : ℕ → Found ℕ
  any at = as_found (number_at s at)

  -- a number from low to high, 3 otherwise
  abbrev pub within : ℕ → ℕ → ℕ → Found ℕ
  within low high at = after (any at) (λ n next. provided (leb low n && leb n high) (OutOfRange at) (found n next))

  -- the number of one of `limit` symbols or states, 4 otherwise
  abbrev pub one_of : ℕ → ℕ → Found ℕ
  one_of limit at = after (any at) (λ n next. provided (ltb n limit) (NotInTable at) (found n next))

  -- the code of a listed weight, 5 if it is 0
  abbrev pub listed : ℕ → Found ℕ
  listed at = after (any at) (λ n next. provided (ltb 0 n) (ZeroCode at) (found n next))

-- so many, one after another
unfoldable pub many : (ℕ → Found ℕ) → ℕ → ℕ → Found (List ℕ)
many item zero at = found [] at
many item (suc k) at = after (item at) (λ n next. after (many item k next) (λ ns end. found (n ∷ ns) end))

module _ (s : List ℕ) (ranks : List ℕ) (states : ℕ) where
  -- symbol, children, target, code
  unfoldable pub transition_at : ℕ → Found Transition
  transition_at at =
      after (one_of s (length ranks) at) (λ symbol at₁.
      after (many (one_of s states) (get_or ranks symbol 0) at₁) (λ children at₂.
      after (one_of s states at₂) (λ target at₃.
      after (listed s at₃) (λ code next.
      found (record { symbol = symbol; children = children; target = target; code = code }) next))))

  -- so many transitions, each above the one before, whose key is given; 6 otherwise, after the transition's last number
  unfoldable pub transitions_at : ℕ → List ℕ → ℕ → Found (List Transition)
  transitions_at zero before at = found [] at
  transitions_at (suc k) before at =
      after (transition_at at) (λ t next.
      provided (lower before (key t)) (NotAbove at)
      (after (transitions_at k (key t) next) (λ ts end. found (t ∷ ts) end)))

-- arithmetic; n; the number of symbols; each rank; n final codes; the number of transitions; the transitions. No byte follows.
unfoldable pub table_read : List ℕ → Found Table
table_read s =
    after (within s 0 1 0) (λ arithmetic at₁.
    after (within s 1 256 at₁) (λ states at₂.
    after (within s 1 128 at₂) (λ symbols at₃.
    after (many (within s 0 4) symbols at₃) (λ ranks at₄.
    after (many (any s) states at₄) (λ finals at₅.
    after (within s 0 4000 at₅) (λ transitions at₆.
    after (transitions_at s ranks states transitions [] at₆) (λ ts end.
    provided (leb (length s) end) (TableGoesOn end)
    (found (record { arithmetic = arithmetic; states = states; ranks = ranks; finals = finals; transitions = ts }) end))))))))
