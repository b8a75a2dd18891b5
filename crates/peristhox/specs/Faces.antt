-- The answers of weigh, blocks, collapse and shrink as code times 2^32 plus figure.
use Rattle.std.specs.Prelude.{ℕ, ◌^◌, ◌<◌, ◌≡◌, cond, List, ℤ, Result, Ok, Err, get_or, take}
use Rattle.std.proofs.Common.{sym, ap, ◌∙◌, arith}
use Rattle.answers.specs.Numbers.{packed}
use Rattle.answers.proofs.Numbers.{code_some}
use Rattle.answers.specs.declared.Refusal.{Refusal}
use Rattle.weigh.specs.declared.Weighing.{Weighing}
use Rattle.weigh.specs.Promise.{weight_beside, weight_given, Weighed}
use Rattle.weigh.specs.Asked.{weigh_decided}
use Rattle.collapse.specs.Promises.{answer_of, Blocks, Collapses, ShrinksTo, blocks_decided, collapse_decided, shrink_decided}
use Rattle.collapse.specs.Sequences.{Collapsing, done_collapsing}
use Rattle.collapse.specs.declared.Counted.{Counted}

-- weighing's answer alone: done with the number of nodes
abbrev pub nodes_of : Result Weighing Refusal → Result ℕ Refusal
nodes_of (Ok weighing) = Ok weighing.nodes
nodes_of (Err refusal) = Err refusal

-- and the lent number afterwards: the tree's weight under code 0, left alone by a refusal
pub record WeighFace (table tree : List ℕ) (before : List ℤ) (lent : ℤ) (answer : ℕ) (sheet : List ℤ) (weight : ℤ) : Type 0 where
  pub given : Result Weighing Refusal
  pub weighs : Weighed table tree before given sheet
  pub answer_is : answer ≡ packed (nodes_of given)
  pub weight_is : weight ≡ cond (weight_given given) (weight_beside given) lent

pub record BlocksFace (d : ℕ) (table before : List ℕ) (answer : ℕ) (room : List ℕ) : Type 0 where
  pub given : Result ℕ Refusal
  pub blocks : Blocks d table before given room
  pub answer_is : answer ≡ packed given

pub record CollapseFace (d : ℕ) (table before : List ℕ) (answer : ℕ) (room : List ℕ) : Type 0 where
  pub given : Result Counted Refusal
  pub collapses : Collapses d table before given room
  pub answer_is : answer ≡ packed (answer_of given)

pub record ShrinkFace (d : ℕ) (table before : List ℕ) (answer : ℕ) (room : List ℕ) : Type 0 where
  pub given : Result Counted Refusal
  pub shrinks : ShrinksTo d table before given room
  pub answer_is : answer ≡ packed (answer_of given)

-- any two answers and rooms that a promise allows are equal
pub weigh_face_decided : (table tree : List ℕ) (before : List ℤ) (lent : ℤ) (a b : ℕ) (r s : List ℤ) (v w : ℤ)
    → WeighFace table tree before lent a r v → WeighFace table tree before lent b s w → (a ≡ b) × (r ≡ s) × (v ≡ w)
weigh_face_decided table tree before lent a b r s v w p q =
    let same = weigh_decided table tree before p.given q.given r s p.weighs q.weighs in (
      p.answer_is ∙ ap (λ (x : Result Weighing Refusal). packed (nodes_of x)) same.0 ∙ sym q.answer_is,
      same.1,
      p.weight_is ∙ ap (λ (x : Result Weighing Refusal). cond (weight_given x) (weight_beside x) lent) same.0 ∙ sym q.weight_is,
    )

pub blocks_face_decided : (d : ℕ) (table before : List ℕ) (a b : ℕ) (r s : List ℕ) → BlocksFace d table before a r → BlocksFace d table before b s → (a ≡ b) × (r ≡ s)
blocks_face_decided d table before a b r s p q =
    let same = blocks_decided d table before p.given q.given r s p.blocks q.blocks in
    (p.answer_is ∙ ap packed same.0 ∙ sym q.answer_is, same.1)

pub collapse_face_decided : (d : ℕ) (table before : List ℕ) (a b : ℕ) (r s : List ℕ) → CollapseFace d table before a r → CollapseFace d table before b s → (a ≡ b) × (r ≡ s)
collapse_face_decided d table before a b r s p q =
    let same = collapse_decided d table before p.given q.given r s p.collapses q.collapses in
    (p.answer_is ∙ ap (λ (c : Result Counted Refusal). packed (answer_of c)) same.0 ∙ sym q.answer_is, same.1)

pub shrink_face_decided : (d : ℕ) (table before : List ℕ) → ((i : ℕ) → get_or table i 0 < 256) → (a b : ℕ) (r s : List ℕ)
    → ShrinkFace d table before a r → ShrinkFace d table before b s → (a ≡ b) × (r ≡ s)
shrink_face_decided d table before bytes a b r s p q =
    let same = shrink_decided d table before bytes p.given q.given r s p.shrinks q.shrinks in
    (p.answer_is ∙ ap (λ (c : Result Counted Refusal). packed (answer_of c)) same.0 ∙ sym q.answer_is, same.1)

-- a number below 2^32 is that of an answer that is done
pub done_below : (a : Result ℕ Refusal) → packed a < 2 ^ 32 → a ≡ Ok (packed a)
done_below (Ok figure) h = let e : figure ≡ packed (Ok figure) = omega arith in ap Ok e
done_below (Err refusal) h = absurd (omega (arith, code_some refusal))

-- Demand 3 seen from C: what peristhox_collapse wrote under code 0 is a step of a sequence.
pub face_collapsing : (d : ℕ) (from before : List ℕ) (answer : ℕ) (room : List ℕ) → CollapseFace d from before answer room → answer < 2 ^ 32 → Collapsing d from (take answer room)
face_collapsing d from before answer room p h =
    done_collapsing d from before answer p.given room p.collapses (done_below (answer_of p.given) (omega (arith, p.answer_is)) ∙ ap Ok (sym p.answer_is))
