-- The steps of a refinement are those of the theory: profiles, dependence, and the start.
use Prim.Native.Nat.{ℕ, zero, suc, ◌+◌, ◌*◌, ◌/◌, ◌%◌, ◌<◌}
use mathlib.Core.Bool.{true}
use mathlib.Core.List.{List, [], ◌∷◌, ◌++◌, map}
use mathlib.Core.Logic.{◌↔◌}
use mathlib.Core.Path.{◌≡◌, refl, sym, ap, ◌∙◌, subst}
use native.Mathlib.Omega.{arith}
use borrow.Author.Tests.{ltb-true, lt-ltb, eq-eqb}
use lib.Dec.{eqb, ltb}
use lib.ListN.{length, get_or, drop, length-map}
use lib.Seq.{get_or-take, get_or-drop}
use Rattle.model.specs.Table.{Each, Proper}
use Rattle.tables.specs.Record.{Columns, row_at, table_of, Holds}
use Rattle.tables.specs.declared.TableRecord.{TableRecord}
use Rattle.theory.specs.Arithmetic.{arithmetic_number, arithmetic, meaning, meaning_same}
use Rattle.theory.specs.declared.Direction.{Direction}
use Rattle.theory.specs.declared.Direction.TheVariants.{Backward as backward, Forward as forward}
use Rattle.theory.specs.Direction.{other}
use Rattle.model.proofs.Each.{each_implies, each_map, each_append, each_places}
use Rattle.theory.specs.Equality.{numbers}
use Rattle.theory.specs.Profile.{Key, key_of, packed_sum, packed_profile, profile_packed, SameProfile, Independent}
use Rattle.theory.specs.Sum.{only, sum-map, sum_same}
use Rattle.theory.specs.Uses.{others, grade}
use Rattle.profiles.specs.Sums.{sum_at}
use Rattle.uses.specs.Numbers.{limit, use_test, state_of, is_use_of, uses_of}
use Rattle.uses.specs.Theory.{row_for, use_of, rank_at, each_use, use_state, sum_of_state}
use Rattle.partition.specs.Numbering.{MayShare}
use Rattle.grouping.specs.Groups.{Same}
use Rattle.grouping.specs.Keys.{pack, key_in, entry_of}
use Rattle.dependents.specs.Marks.{LeadsTo}
use Rattle.refine.proofs.Apart.{top_same, pack_same}
use Rattle.uses.specs.Tables.{IndexOf}
use Rattle.uses.specs.declared.Uses.{Uses}
use Rattle.dependents.specs.Tables.{DependsIn}
use Rattle.refine.specs.Sides.{profiles_in}
use Rattle.refine.proofs.Known.{uses_in, transition, symbol_known, ranked, child_known, final_fits}
use Rattle.tables.specs.Rows.{columns_of}
use Rattle.refine.proofs.Listed.{listed_is, use_listed}
use Rattle.theory.proofs.Laws.{laws}

others_length : (k : ℕ) (qs : List ℕ) → k < length qs → suc (length (others k qs)) ≡ length qs
others_length k [] l = absurd (omega arith)
others_length zero (q ∷ qs) l = refl
others_length (suc k) (q ∷ qs) l = ap suc (others_length k qs (omega arith))

each_others : (P : ℕ → Type 0) (k : ℕ) (qs : List ℕ) → Each P qs → Each P (others k qs)
each_others P k [] m = tt
each_others P zero (q ∷ qs) m = m.1
each_others P (suc k) (q ∷ qs) m = (m.0, each_others P k qs m.1)

-- the key that is packed is the theory's
key_is : (a : ℕ) (d : Direction) (c : Columns) (b : ℕ → ℕ) (u : ℕ) → key_in d c.ranks c.symbol c.children c.target b u ≡ key_of b (use_of a d c u)
key_is a backward c b u = refl
key_is a forward c b u = refl

module _ {t : TableRecord} (holds : Holds t (table_of t)) (proper : Proper (table_of t)) where
  module _ (b : ℕ → ℕ) (bytes : (q : ℕ) → q < t.states → b q < 256) where
    -- the keys of two uses are told apart by packing
    tells : (d : Direction) (u v : ℕ) → u < limit d t.count → use_test d t.ranks t.symbol u ≡ true → v < limit d t.count → use_test d t.ranks t.symbol v ≡ true
        → pack (key_of b (use_of (arithmetic_number t.arithmetic) d (columns_of t) v)) ≡ pack (key_of b (use_of (arithmetic_number t.arithmetic) d (columns_of t) u)) → key_of b (use_of (arithmetic_number t.arithmetic) d (columns_of t) v) ≡ key_of b (use_of (arithmetic_number t.arithmetic) d (columns_of t) u)
    tells backward u v lu tu lv tv e =
        let r = pack_same (get_or t.symbol v 0) (get_or t.symbol u 0) [] [] (blocks v) (blocks u)
        (digits v lv) (digits u lu) (omega (arith, long v lv, (ranked holds proper v lv).1)) (omega (arith, long u lu, (ranked holds proper u lu).1))
        (λ same. (refl, long v lv ∙ ap (λ (s : ℕ). get_or t.ranks s 0) same ∙ sym (long u lu))) e in
        λ i. (r.0 i ∷ [], r.2 i)
      where
        blocks : ℕ → List ℕ
        blocks j = map b (row_at (columns_of t) j).children

        digits : (j : ℕ) → j < t.count → Each (λ x. x < 256) (blocks j)
        digits j l = let kids = (row_at (columns_of t) j).children in
            each_map (λ x. x < 256) b kids (each_implies (λ q. q < t.states) (λ q. b q < 256) bytes kids (transition holds proper j l).children_known)

        long : (j : ℕ) → j < t.count → length (blocks j) ≡ rank_at (columns_of t) j
        long j l = length-map (row_at (columns_of t) j).children b ∙ (ranked holds proper j l).0
    tells forward u v lu tu lv tv e =
        let r = pack_same (v % 4 * 128 + symbol v) (u % 4 * 128 + symbol u) (rest v) (rest u) (b (get_or t.target (v / 4) 0) ∷ []) (b (get_or t.target (u / 4) 0) ∷ [])
        (digits v lv) (digits u lu) (omega (arith, long v lv tv, (ranked holds proper (v / 4) (omega arith)).1)) (omega (arith, long u lu tu, (ranked holds proper (u / 4) (omega arith)).1))
        (λ same. (omega (arith, long v lv tv, long u lu tu, ap (λ (s : ℕ). get_or t.ranks s 0) (tops same).1), refl)) e in
        let top = tops r.0 in
        λ i. (top.1 i ∷ top.0 i ∷ r.1 i, r.2 i)
      where
        symbol : ℕ → ℕ
        symbol w = get_or t.symbol (w / 4) 0

        tops : v % 4 * 128 + symbol v ≡ u % 4 * 128 + symbol u → (v % 4 ≡ u % 4) × (symbol v ≡ symbol u)
        tops = top_same (v % 4) (u % 4) (symbol v) (symbol u) (symbol_known holds proper (v / 4) (omega arith)) (symbol_known holds proper (u / 4) (omega arith))

        rest : ℕ → List ℕ
        rest w = others (w % 4) (row_at (columns_of t) (w / 4)).children

        long : (w : ℕ) → w < t.count * 4 → ltb (w % 4) (rank_at (columns_of t) (w / 4)) ≡ true → suc (length (rest w)) ≡ rank_at (columns_of t) (w / 4)
        long w l e =
            let r = ranked holds proper (w / 4) (omega arith) in
            others_length (w % 4) (row_at (columns_of t) (w / 4)).children (omega (arith, ltb-true (w % 4) (rank_at (columns_of t) (w / 4)) e, r.0)) ∙ r.0

        digits : (w : ℕ) → w < t.count * 4 → Each (λ x. x < 256) (rest w ++ (b (get_or t.target (w / 4) 0) ∷ []))
        digits w l =
            let known = transition holds proper (w / 4) (omega arith) in
            each_append (λ x. x < 256) (rest w) (b (get_or t.target (w / 4) 0) ∷ [])
            (each_implies (λ q. q < t.states) (λ x. x < 256) (λ q h. omega (arith, proper.states_few)) (rest w) (each_others (λ q. q < t.states) (w % 4) (row_at (columns_of t) (w / 4)).children known.children_known))
            (bytes (get_or t.target (w / 4) 0) known.target_known, tt)

    module _ (d : Direction) (own : Uses) (index : IndexOf d t own) where
      profile_sum : (p : ℕ) → p < t.states → (j : ℕ) → sum_at (arithmetic_number t.arithmetic) (profiles_in d t own b p) j ≡ packed_sum (arithmetic (arithmetic_number t.arithmetic)) (uses_in t d) numbers pack b j p
      profile_sum p l j =
          let us = uses_of d t.count t.ranks t.symbol t.children t.target p in
          let entry = entry_of d t.ranks t.symbol t.children t.target t.code b in
          ap (λ (ns : List ℕ). sum_at (arithmetic_number t.arithmetic) (map entry ns) j) (listed_is index p (omega (arith, proper.states_few)))
          ∙ sum-map (arithmetic (arithmetic_number t.arithmetic)) entry us _
          ∙ sum_same (arithmetic (arithmetic_number t.arithmetic)) us _ _ (λ u. ap (λ (k : Key). only (arithmetic (arithmetic_number t.arithmetic)) (eqb (pack k) j) (meaning (arithmetic_number t.arithmetic) (get_or t.code (row_for d u) 0))) (key_is (arithmetic_number t.arithmetic) d (columns_of t) b u))
          ∙ sym (sum_of_state (arithmetic_number t.arithmetic) (columns_of t) d t.count p (ranked holds proper) (λ v. eqb (pack (key_of b v)) j))

      -- entries with the same sums are the theory's same profile
      pub same_profile : (p q : ℕ) → p < t.states → q < t.states
          → Same (arithmetic_number t.arithmetic) (profiles_in d t own b p) (profiles_in d t own b q) ↔ SameProfile (arithmetic (arithmetic_number t.arithmetic)) (uses_in t d) b p q
      same_profile p q lp lq = (
        λ h. packed_profile (arithmetic (arithmetic_number t.arithmetic)) (uses_in t d) numbers pack b (laws (arithmetic_number t.arithmetic))
            (each_use (arithmetic_number t.arithmetic) (columns_of t) d t.count (ranked holds proper) _ (λ u lu tu. each_use (arithmetic_number t.arithmetic) (columns_of t) d t.count (ranked holds proper) _ (λ v lv tv. tells d u v lu tu lv tv))) p q (λ j. sym (profile_sum p lp j) ∙ h j ∙ profile_sum q lq j),
        λ s j. profile_sum p lp j ∙ profile_packed (arithmetic (arithmetic_number t.arithmetic)) (uses_in t d) numbers pack b (laws (arithmetic_number t.arithmetic)) p q s j ∙ sym (profile_sum q lq j),
      )

  -- a state that depends on no renumbered state is independent
  module _ (d : Direction) (others : Uses) (index : IndexOf (other d) t others) (b b' : ℕ → ℕ) (p : ℕ)
      (kept : (r : ℕ) → r < t.states → DependsIn d t others r p → b r ≡ b' r) where
    pub independent : Independent (arithmetic (arithmetic_number t.arithmetic)) (uses_in t d) b b' p
    independent = each_use (arithmetic_number t.arithmetic) (columns_of t) d t.count (ranked holds proper) _ (λ u l e f. go d index kept u l e (sym (use_state (arithmetic_number t.arithmetic) (columns_of t) d u e) ∙ f))
      where
        go : (d : Direction) → IndexOf (other d) t others → ((r : ℕ) → r < t.states → DependsIn d t others r p → b r ≡ b' r)
            → (u : ℕ) → u < limit d t.count → use_test d t.ranks t.symbol u ≡ true → state_of d t.children t.target u ≡ p → Each (λ r. b r ≡ b' r) (use_of (arithmetic_number t.arithmetic) d (columns_of t) u).through
        go backward index kept u l e f = each_places _ (row_at (columns_of t) u).children 0 (λ k h. child k (omega (arith, (ranked holds proper u l).0)))
          where
            child : (k : ℕ) → k < rank_at (columns_of t) u → b (get_or (row_at (columns_of t) u).children k 0) ≡ b' (get_or (row_at (columns_of t) u).children k 0)
            child k h =
                let r = get_or t.children (u * 4 + k) 0 in
                let known = child_known holds proper u k l h in
                let small = (ranked holds proper u l).1 in
                let place : (u * 4 + k) % 4 ≡ k = omega arith in
                let row : (u * 4 + k) / 4 ≡ u = omega arith in
                let used : is_use_of forward t.ranks t.symbol t.children t.target r (u * 4 + k) ≡ true =
                rw (place, row, lt-ltb k (rank_at (columns_of t) u) h, eq-eqb r r refl) in
                let i = use_listed t forward others index r (u * 4 + k) (omega (arith, proper.states_few)) (omega arith) used in
                subst (λ (x : ℕ). b x ≡ b' x) (sym (get_or-take (rank_at (columns_of t) u) (drop (u * 4) t.children) k 0 h ∙ get_or-drop (u * 4) t.children k 0))
                (kept r known (i.0, i.1, i.2, rw (i.3, row) f))
        go forward index kept u l e f =
            let j = u / 4 in
            let lj : j < t.count = omega arith in
            let r = get_or t.target j 0 in
            let known = (transition holds proper j lj).target_known in
            let used : is_use_of backward t.ranks t.symbol t.children t.target r j ≡ true = eq-eqb r r refl in
            let i = use_listed t backward others index r j (omega (arith, proper.states_few)) lj used in
            let whole : j * 4 + u % 4 ≡ u = omega arith in
            let child : LeadsTo forward t.ranks t.symbol t.children t.target j p = (u % 4, ltb-true (u % 4) (rank_at (columns_of t) j) e, ap (λ (w : ℕ). get_or t.children w 0) whole ∙ f) in
            (kept r known (i.0, i.1, i.2, subst (λ (w : ℕ). LeadsTo forward t.ranks t.symbol t.children t.target w p) (sym i.3) child), tt)

  -- the states that may share a block at the start are those of one grade
  pub grade_shared : (d : Direction) (p q : ℕ) → p < t.states → q < t.states → MayShare d t.finals p q ↔ (grade (arithmetic_number t.arithmetic) d (table_of t) p ≡ grade (arithmetic_number t.arithmetic) d (table_of t) q)
  grade_shared backward p q lp lq = (λ h. refl, λ e. tt)
  grade_shared forward p q lp lq =
      let fp = get_or-take t.states t.finals p 0 lp in
      let fq = get_or-take t.states t.finals q 0 lq in (
        λ h. ap (meaning (arithmetic_number t.arithmetic)) (fp ∙ h ∙ sym fq),
        λ e. meaning_same (arithmetic_number t.arithmetic) (get_or t.finals p 0) (get_or t.finals q 0) (final_fits holds proper p lp) (final_fits holds proper q lq) (ap (meaning (arithmetic_number t.arithmetic)) (sym fp) ∙ e ∙ ap (meaning (arithmetic_number t.arithmetic)) fq),
      )
