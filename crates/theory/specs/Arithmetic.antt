-- The two arithmetics, and what the codes 0 to 4,294,967,295 mean in each (document 01, "Two arithmetics").
use Rattle.std.specs.Prelude.{◌≡◌, refl, ◌≢◌, ◌↔◌, Result, MatchResult, Bool, true, false, cond, List, ℕ, zero, suc, ◌+◌, ◌*◌, ◌/◌, ◌%◌, ◌^◌, ◌<◌, ◌≤◌, eqb, ℤ, pos, negsuc, neg_ℤ, nat_abs}
use Rattle.std.proofs.Common.{sym, ap, ◌∙◌, arith, mod-eq_of_lt, eqb→eq}
use Rattle.model.specs.Table.{Each}
use Rattle.theory.specs.declared.Arithmetic.{Arithmetic}
use Rattle.theory.specs.declared.Arithmetic.TheVariants.{Modular, MaxPlus}
use Rattle.theory.specs.declared.NoArithmetic.{NoArithmetic}
use Rattle.theory.specs.Equality.{numbers, false_differ, of_true}
use Rattle.theory.specs.Semiring.{Operations}
use Rattle.theory.specs.Sum.{sum, sum_holds}
use Rattle.theory.specs.Modular.{modular, residue, residue_same, residue_number}
use Rattle.theory.specs.Maximum.{max_z_both}
use Rattle.theory.specs.MaxPlus.{max_plus, Value, nothing, number}

-- arithmetic 0 is modular; a table's other arithmetic, 1, is max and plus
abbrev pub arithmetic : ℕ → Operations
arithmetic zero = modular
arithmetic (suc a) = max_plus

-- 0 for modular, 1 for max and plus
abbrev pub arithmetic_number : Arithmetic → ℕ
arithmetic_number Modular = 0
arithmetic_number MaxPlus = 1

-- 0 is modular, and every other number max and plus
abbrev pub arithmetic_of : ℕ → Arithmetic
arithmetic_of zero = Modular
arithmetic_of (suc a) = MaxPlus

-- a number from 0 to 1 is an arithmetic's, and no other is
abbrev pub ArithmeticFor : ℕ → Result Arithmetic NoArithmetic → Type 0
ArithmeticFor n r = MatchResult r (λ a. arithmetic_number a ≡ n) (λ none. (none.0 ≡ n) × (1 < n))

-- the weights of an arithmetic
abbrev pub Weight : ℕ → Type 0
Weight a = (arithmetic a).Carrier

-- z/2 for even z, −(z + 1)/2 for odd z
abbrev pub halved : ℕ → ℤ
halved z = cond (eqb (z % 2) 0) (pos (z / 2)) (neg_ℤ (pos ((z + 1) / 2)))

-- what a code means
abbrev pub meaning : (a : ℕ) → ℕ → Weight a
meaning zero c = residue c
meaning (suc a) zero = nothing
meaning (suc a) (suc z) = number (halved z)

-- the code of a weight
abbrev pub code_of : (a : ℕ) → Weight a → ℕ
code_of zero w = w.0
code_of (suc a) nothing = 0
code_of (suc a) (number (pos n)) = suc (2 * n)
code_of (suc a) (number (negsuc n)) = suc (2 * n + 1)

halved_even : (z : ℕ) → z % 2 ≡ 0 → halved z ≡ pos (z / 2)
halved_even z e = rw e

halved_odd : (z : ℕ) → z % 2 ≡ 1 → halved z ≡ negsuc (z / 2)
halved_odd z e = let f : (z + 1) / 2 ≡ suc (z / 2) = omega arith in rw (e, f)

code_of_halved : (z : ℕ) → code_of 1 (number (halved z)) ≡ suc z
code_of_halved z = go (eqb (z % 2) 0) refl
  where
    go : (c : Bool) → eqb (z % 2) 0 ≡ c → code_of 1 (number (halved z)) ≡ suc z
    go true e = let f : z % 2 ≡ 0 = eqb→eq (z % 2) 0 (of_true _ e) in rw (halved_even z f) (omega arith)
    go false e = let h : z % 2 ≢ 0 = false_differ numbers (z % 2) 0 e in let f : z % 2 ≡ 1 = omega arith in rw (halved_odd z f) (omega arith)

-- a code has one meaning, and the meaning's code is that code
pub code_of-meaning : (a c : ℕ) → c < 2 ^ 32 → code_of a (meaning a c) ≡ c
code_of-meaning zero c l = mod-eq_of_lt l
code_of-meaning (suc a) zero l = refl
code_of-meaning (suc a) (suc z) l = code_of_halved z

-- the code of a weight means that weight
pub meaning-code_of : (a : ℕ) (w : Weight a) → meaning a (code_of a w) ≡ w
meaning-code_of zero w = residue_number w
meaning-code_of (suc a) nothing = refl
meaning-code_of (suc a) (number (pos n)) =
    let e : (2 * n) / 2 ≡ n = omega arith in ap number (halved_even (2 * n) (omega arith) ∙ ap pos e)
meaning-code_of (suc a) (number (negsuc n)) =
    let e : (2 * n + 1) / 2 ≡ n = omega arith in ap number (halved_odd (2 * n + 1) (omega arith) ∙ ap negsuc e)

-- two codes with one meaning are equal
pub meaning_same : (a c d : ℕ) → c < 2 ^ 32 → d < 2 ^ 32 → meaning a c ≡ meaning a d → c ≡ d
meaning_same a c d l m e = sym (code_of-meaning a c l) ∙ ap (code_of a) e ∙ code_of-meaning a d m

-- code 0 means zero, and no other code does
pub meaning_zero : (a : ℕ) → meaning a 0 ≡ (arithmetic a).zero
meaning_zero zero = refl
meaning_zero (suc a) = refl

pub code_of_zero : (a : ℕ) → code_of a (arithmetic a).zero ≡ 0
code_of_zero zero = refl
code_of_zero (suc a) = refl

pub meaning_nonzero : (a c : ℕ) → c < 2 ^ 32 → 0 < c → meaning a c ≢ (arithmetic a).zero
meaning_nonzero a c l p e = let f : c ≡ 0 = sym (code_of-meaning a c l) ∙ ap (code_of a) e ∙ code_of_zero a in omega arith

-- the weight's code is one of 0 to 4,294,967,295
abbrev pub InRange : (a : ℕ) → Weight a → Type 0
InRange a w = code_of a w < 2 ^ 32

-- in arithmetic 1 the numbers in range are those within 2,147,483,647 of 0
pub in_range_number : (z : ℤ) → InRange 1 (number z) ↔ nat_abs z ≤ 2147483647
in_range_number (pos n) = (λ h. omega arith, λ h. omega arith)
in_range_number (negsuc n) = (λ h. omega arith, λ h. omega arith)

pub in_range_meaning : (a c : ℕ) → c < 2 ^ 32 → InRange a (meaning a c)
in_range_meaning a c l = rw (code_of-meaning a c l) l

-- sums of weights in range are in range
pub in_range_zero : (a : ℕ) → InRange a (arithmetic a).zero
in_range_zero a = rw (code_of_zero a) (omega arith)

pub in_range_plus : (a : ℕ) (u v : Weight a) → InRange a u → InRange a v → InRange a ((arithmetic a).plus u v)
in_range_plus zero u v h k = (residue (u.0 + v.0)).1
in_range_plus (suc a) nothing v h k = k
in_range_plus (suc a) (number x) nothing h k = h
in_range_plus (suc a) (number x) (number y) h k = max_z_both (λ z. InRange 1 (number z)) x y h k

pub in_range_sum : (a : ℕ) {A : Type 0} (Q : A → Type 0) (xs : List A) → Each Q xs → (f : A → Weight a) → ((x : A) → Q x → InRange a (f x)) → InRange a (sum (arithmetic a) xs f)
in_range_sum a Q xs m f h = sum_holds (arithmetic a) (InRange a) (in_range_zero a) (in_range_plus a) Q xs m f h

-- a weight of either arithmetic as nothing or a whole number
abbrev pub value_of : (a : ℕ) → Weight a → Value
value_of zero w = number (pos w.0)
value_of (suc a) w = w

pub value_of_same : (a : ℕ) (u v : Weight a) → value_of a u ≡ value_of a v → u ≡ v
value_of_same zero u v e = residue_same (cc)
value_of_same (suc a) u v e = e

-- the number that stands for a value in a sheet: −9,223,372,036,854,775,808 for nothing
abbrev pub sheet_number : Value → ℤ
sheet_number nothing = negsuc 9223372036854775807
sheet_number (number z) = z
