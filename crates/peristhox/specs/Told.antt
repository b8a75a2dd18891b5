-- What C is told: of the one number that each call gives back, the quotient by 2^32 is the code and the remainder is the figure.
use Rattle.std.specs.Prelude.{ℕ, ◌/◌, ◌%◌, ◌^◌, ◌<◌, ◌≡◌, List, ℤ, Result, length, get_or}
use Rattle.std.proofs.Common.{sym, ap, subst, arith}
use Rattle.answers.specs.Numbers.{answer_code, answer_figure, packed}
use Rattle.answers.specs.declared.Refusal.{Refusal}
use Rattle.format.specs.Read.{table_read}
use Rattle.calls.specs.Answers.{checked, rewritten_answer}
use Rattle.weigh.specs.Asked.{asked, answered, weighed_asked}
use Rattle.collapse.specs.Promises.{answer_of}
use Rattle.peristhox.specs.Faces.{nodes_of, WeighFace, BlocksFace, CollapseFace, ShrinkFace}
use Rattle.peristhox.specs.Figures.{check_fits, rewrite_fits, weigh_fits}
use Rattle.peristhox.specs.Shrunken.{blocks_fit, collapse_fits, shrink_fits}

-- the number tells the answer's code and its figure
pub record Tells (number : ℕ) (a : Result ℕ Refusal) : Type 0 where
  pub code : number / 2 ^ 32 ≡ answer_code a
  pub figure : number % 2 ^ 32 ≡ answer_figure a

pub packed_tells : (a : Result ℕ Refusal) → answer_figure a < 2 ^ 32 → Tells (packed a) a
packed_tells a h = record { code = omega arith; figure = omega arith }

module _ (table : List ℕ) (bytes : (i : ℕ) → get_or table i 0 < 256) where
  pub check_tells : Tells (packed (checked (table_read table))) (checked (table_read table))
  check_tells = packed_tells _ (check_fits table bytes)

  pub rewrite_tells : (room : List ℕ) → Tells (packed (rewritten_answer (table_read table) room)) (rewritten_answer (table_read table) room)
  rewrite_tells room = packed_tells _ (rewrite_fits table bytes room)

  pub weigh_tells : (tree : List ℕ) (before after : List ℤ) (lent weight : ℤ) (number : ℕ) (p : WeighFace table tree before lent number after weight) → Tells number (nodes_of p.given)
  weigh_tells tree before after lent weight number p =
      let e : p.given ≡ answered (asked table tree (length before)) = (weighed_asked tree before p.given after table p.weighs).0 in
      let fit : answer_figure (nodes_of p.given) < 2 ^ 32 = rw (ap nodes_of e) (weigh_fits table tree (length before) bytes) in
      subst (λ (n : ℕ). Tells n (nodes_of p.given)) (sym p.answer_is) (packed_tells (nodes_of p.given) fit)

  pub blocks_tells : (d : ℕ) (before room : List ℕ) (number : ℕ) (p : BlocksFace d table before number room) → Tells number p.given
  blocks_tells d before room number p = subst (λ (n : ℕ). Tells n p.given) (sym p.answer_is) (packed_tells p.given (blocks_fit table bytes before room d p.given p.blocks))

  pub collapse_tells : (d : ℕ) (before room : List ℕ) (number : ℕ) (p : CollapseFace d table before number room) → Tells number (answer_of p.given)
  collapse_tells d before room number p =
      subst (λ (n : ℕ). Tells n (answer_of p.given)) (sym p.answer_is) (packed_tells (answer_of p.given) (collapse_fits table bytes before room d p.given p.collapses))

  pub shrink_tells : (d : ℕ) (before room : List ℕ) (number : ℕ) (p : ShrinkFace d table before number room) → Tells number (answer_of p.given)
  shrink_tells d before room number p =
      subst (λ (n : ℕ). Tells n (answer_of p.given)) (sym p.answer_is) (packed_tells (answer_of p.given) (shrink_fits table bytes before room d p.given p.shrinks))
