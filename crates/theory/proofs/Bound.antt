-- Bounds on the weights of a tree in arithmetic 1 hold.
use Rattle.std.specs.Prelude.{◌≡◌, refl, Bool, true, false, cond, ◌&&◌, List, [], ◌∷◌, ℕ, zero, suc, ◌+◌, ◌*◌, ◌-◌, ◌^◌, ◌<◌, ◌≤◌, ltb, eqb, ℤ, pos, negsuc, nat_abs, ◌+ℤ◌, get_or}
use Rattle.std.proofs.Common.{subst, arith, ltb→lt, length-append}
use Rattle.std.proofs.Math.IntN.{sub_ℕ}
use Rattle.std.proofs.Math.ListN.{length}
use Rattle.std.specs.Int.Signed.{mag}
use Rattle.model.specs.Table.{Table, Transition, Each, Proper, ProperTransition}
use Rattle.model.specs.Tree.{Tree, Forest, node, none, ◌then◌, prefix, prefixes}
use Rattle.model.proofs.Each.{each_implies, each-get_or}
use Rattle.theory.specs.Equality.{of_true}
use Rattle.theory.specs.Sum.{sum_holds, only_holds}
use Rattle.theory.specs.Maximum.{max_z_both}
use Rattle.theory.specs.MaxPlus.{max_plus, Value, nothing, number, greater, added}
use Rattle.theory.specs.Below.{below, each_below}
use Rattle.theory.specs.Arithmetic.{meaning, halved, in_range_meaning, in_range_number}
use Rattle.theory.specs.Weight.{final, entering, weight_at, product_at, weight}
use Rattle.theory.specs.Bound.{Within}

nat_abs_sub : (a b : ℕ) → nat_abs (sub_ℕ a b) ≤ a + b
nat_abs_sub a b = go (ltb a b) refl
  where
    go : (c : Bool) → ltb a b ≡ c → nat_abs (cond c (negsuc (b - suc a)) (pos (a - b))) ≤ a + b
    go true e = let l : a < b = ltb→lt a b (of_true _ e) in omega arith
    go false e = omega arith

pub nat_abs_plus : (x y : ℤ) → nat_abs (x +ℤ y) ≤ nat_abs x + nat_abs y
nat_abs_plus (pos a) (pos b) = omega arith
nat_abs_plus (pos a) (negsuc b) = nat_abs_sub a (suc b)
nat_abs_plus (negsuc a) (pos b) = omega (arith, nat_abs_sub b (suc a))
nat_abs_plus (negsuc a) (negsuc b) = omega arith

-- `mag`, by which signed ranges are told, is no greater
pub mag_nat_abs : (z : ℤ) → mag z ≤ nat_abs z
mag_nat_abs (pos n) = omega arith
mag_nat_abs (negsuc n) = omega arith

pub within_more : (j k : ℕ) → j ≤ k → (v : Value) → Within j v → Within k v
within_more j k l nothing h = tt
within_more j k l (number z) h = omega arith

pub within_greater : (k : ℕ) (u v : Value) → Within k u → Within k v → Within k (greater u v)
within_greater k nothing v h i = i
within_greater k (number x) nothing h i = h
within_greater k (number x) (number y) h i = max_z_both (λ z. Within k (number z)) x y h i

pub within_added : (j k : ℕ) (u v : Value) → Within j u → Within k v → Within (j + k) (added u v)
within_added j k nothing v h i = tt
within_added j k (number x) nothing h i = tt
within_added j k (number x) (number y) h i = omega (arith, nat_abs_plus x y)

pub within_meaning : (c : ℕ) → c < 2 ^ 32 → Within 1 (meaning 1 c)
within_meaning zero l = tt
within_meaning (suc z) l = omega (arith, (in_range_number (halved z)).0 (in_range_meaning 1 (suc z) l))

module _ (X : Table) (fit : Each (λ t. t.code < 2 ^ 32) X.transitions) where
  mutual
    unfolding weight_at prefix

    -- a weight at a state lies within 2,147,483,647 times the number of nodes
    pub weight_at_within : (t : Tree) (q : ℕ) → Within (length (prefix t)) (weight_at 1 X t q)
    weight_at_within (node σ ts) q = sum_holds max_plus (Within (suc (length (prefixes ts)))) tt (within_greater (suc (length (prefixes ts)))) (λ t. t.code < 2 ^ 32) X.transitions fit _ (λ t l.
        within_more (1 + length (prefixes ts)) (suc (length (prefixes ts))) (omega arith) (added (entering 1 σ q t) (product_at 1 X ts t.children))
        (within_added 1 (length (prefixes ts)) (entering 1 σ q t) (product_at 1 X ts t.children)
        (only_holds max_plus (Within 1) tt (eqb t.symbol σ && eqb t.target q) (meaning 1 t.code) (within_meaning t.code l))
        (product_at_within ts t.children)))

    pub product_at_within : (ts : Forest) (qs : List ℕ) → Within (length (prefixes ts)) (product_at 1 X ts qs)
    product_at_within none [] = omega arith
    product_at_within none (q ∷ qs) = tt
    product_at_within (◌then◌ t ts) [] = tt
    product_at_within (◌then◌ t ts) (q ∷ qs) = rw (length-append (prefix t) (prefixes ts))
        (within_added (length (prefix t)) (length (prefixes ts)) (weight_at 1 X t q) (product_at 1 X ts qs) (weight_at_within t q) (product_at_within ts qs))

  -- the tree's weight lies within 2,147,483,647 times one more than the number of nodes
  pub weight_within : Each (λ c. c < 2 ^ 32) X.finals → (t : Tree) → Within (length (prefix t) + 1) (weight 1 X t)
  unfolding weight
  weight_within fits t = sum_holds max_plus (Within (length (prefix t) + 1)) tt (within_greater (length (prefix t) + 1)) (λ q. q < X.states) (below X.states) (each_below X.states) _ (λ q l.
      within_more (1 + length (prefix t)) (length (prefix t) + 1) (omega arith) (added (final 1 X q) (weight_at 1 X t q))
      (within_added 1 (length (prefix t)) (final 1 X q) (weight_at 1 X t q)
      (within_meaning (get_or X.finals q 0) (each-get_or (λ c. c < 2 ^ 32) X.finals q 0 fits (omega arith)))
      (weight_at_within t q)))

-- in a table within 01's bounds, for a tree of at most 4,096 nodes
module _ (X : Table) (proper : Proper X) (t : Tree) (small : length (prefix t) ≤ 4096) where
  codes_fit : Each (λ (t : Transition). t.code < 2 ^ 32) X.transitions
  codes_fit = each_implies (ProperTransition X.ranks X.states) (λ t. t.code < 2 ^ 32) (λ t p. p.code_fits) X.transitions proper.transitions_proper

  pub weight_at_bound : (q : ℕ) (z : ℤ) → weight_at 1 X t q ≡ number z → nat_abs z ≤ 4096 * 2147483647
  weight_at_bound q z e = within_more (length (prefix t)) 4096 small (number z) (subst (Within (length (prefix t))) e (weight_at_within X codes_fit t q))

  pub weight_bound : (z : ℤ) → weight 1 X t ≡ number z → nat_abs z ≤ 8798240501759
  weight_bound z e = within_more (length (prefix t) + 1) 4097 (omega arith) (number z)
      (subst (Within (length (prefix t) + 1)) e (weight_within X codes_fit proper.finals_fit t))
