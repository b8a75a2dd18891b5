-- The promise of pick (document 01, "Pick").
use Rattle.std.specs.Prelude.{Result, Ok, Err, ℕ, ◌+◌, ◌≡◌, Bool, true, false, cond, List, [], length, ltb, eqb}
use Rattle.std.proofs.Common.{sym, ap₂, ◌∙◌}
use Rattle.std.specs.Borrow.{Bor}
use Rattle.answers.specs.declared.Refusal.{Refusal}
use Rattle.answers.specs.Numbers.{code_of, refusal_figure}
use Rattle.model.specs.Table.{Table}
use Rattle.format.specs.Read.{Found, found, refused, table_read}
use Rattle.calls.specs.declared.Size.{Size}
use Rattle.calls.specs.declared.PickAnswer.{PickAnswer}
use Rattle.calls.specs.declared.Which.{Which}
use Rattle.calls.specs.declared.Which.TheVariants.{First, Second}

-- which of two tables is picked, or which is refused and why
abbrev pub Choice : Type 0
Choice = Result Which (Which × Refusal)

-- what counts for a pick
abbrev pub size_of : Found Table → Result Size Refusal
size_of (found X end) = Ok (record { states = X.states; transitions = length X.transitions })
size_of (refused refusal) = Err refusal

-- the second table has fewer states, or as many states and fewer transitions
abbrev pub smaller : Size → Size → Bool
smaller first second = cond (eqb second.states first.states) (ltb second.transitions first.transitions) (ltb second.states first.states)

abbrev pub chosen : Bool → Choice
chosen true = Ok Second
chosen false = Ok First

-- the first table is tested and then the second; of two accepted tables the smaller, on a tie the first
abbrev pub pick_of : Result Size Refusal → Result Size Refusal → Choice
pick_of (Err refusal) second = Err (First, refusal)
pick_of (Ok x) (Err refusal) = Err (Second, refusal)
pick_of (Ok x) (Ok y) = chosen (smaller x y)

abbrev pub picked : List ℕ → List ℕ → Choice
picked first second = pick_of (size_of (table_read first)) (size_of (table_read second))

-- pick's code and figure: the second table's codes come back with 100 added; the done figure is the length
abbrev pub pick_code : Choice → ℕ
pick_code (Ok First) = 0
pick_code (Ok Second) = 0
pick_code (Err (First, refusal)) = code_of refusal
pick_code (Err (Second, refusal)) = 100 + code_of refusal

abbrev pub pick_figure : List ℕ → List ℕ → Choice → ℕ
pick_figure first second (Ok First) = length first
pick_figure first second (Ok Second) = length second
pick_figure first second (Err (First, refusal)) = refusal_figure refusal
pick_figure first second (Err (Second, refusal)) = refusal_figure refusal

-- a piece of memory: where it begins, and what it holds (and so how long it is)
pub record Piece : Type 0 where
  pub begins : ℕ × ℕ
  pub holds : List ℕ

abbrev pub piece_of : Bor (List ℕ) → Piece
piece_of r = record { begins = r.ref_ptr; holds = r.now }

-- that same piece of memory; on refusal an empty piece at the start of the first table
abbrev pub picked_piece : Choice → Bor (List ℕ) → Bor (List ℕ) → Piece
picked_piece (Ok First) first second = piece_of first
picked_piece (Ok Second) first second = piece_of second
picked_piece (Err (First, refusal)) first second = piece_of (record { ref_ptr = first.ref_ptr; now = [] })
picked_piece (Err (Second, refusal)) first second = piece_of (record { ref_ptr = first.ref_ptr; now = [] })

-- any two pieces, and any two answers, that the promises allow are equal
pub pick_decided : (first second : Bor (List ℕ)) (p q : Piece) → p ≡ picked_piece (picked first.now second.now) first second
    → q ≡ picked_piece (picked first.now second.now) first second → p ≡ q
pick_decided first second p q e f = e ∙ sym f

-- the code and the figure of a pick
pub record PickAnswers (first second : List ℕ) (answer : PickAnswer) : Type 0 where
  pub code_is : answer.code ≡ pick_code (picked first second)
  pub figure_is : answer.figure ≡ pick_figure first second (picked first second)

pub pick_answer_decided : (first second : List ℕ) (a b : PickAnswer) → PickAnswers first second a → PickAnswers first second b → a ≡ b
pick_answer_decided first second a b p q =
    ap₂ (λ (c f : ℕ). record { code = c; figure = f }) (p.code_is ∙ sym q.code_is) (p.figure_is ∙ sym q.figure_is)
