-- What a collapsible record says of its numbers, and that what is made of it is its collapse.
use Prim.Native.Nat.{ℕ, zero, suc, ◌+◌, ◌-◌, ◌≤◌, ◌<◌, ◌^◌}
use mathlib.Core.Path.{◌≡◌, refl, sym, ap, ap₂, ◌∙◌, subst}
use mathlib.Core.Bool.{Bool}
use mathlib.Core.List.{List}
use native.Mathlib.Omega.{arith}
use native.Mathlib.Nat.{zero-add}
use lib.Dec.{eqb}
use lib.ListN.{length, get_or, length-map}
use lib.Seq.{get_or-take, length-take-le}
use Rattle.model.specs.Table.{Table, Transition, Each, Proper, ProperTransition}
use Rattle.model.proofs.Each.{each_implies, each_map, each-get_or}
use Rattle.theory.specs.Sum.{only, sum-each}
use Rattle.theory.specs.Below.{below, each_below}
use Rattle.theory.specs.Arithmetic.{arithmetic_number, arithmetic, meaning, code_of, code_of-meaning}
use Rattle.theory.specs.Blocks.{block_of, block_count_above}
use Rattle.theory.proofs.Blocks.{block_count_few}
use Rattle.theory.specs.declared.Direction.{Direction}
use Rattle.theory.specs.declared.Direction.TheVariants.{Backward as backward, Forward as forward}
use Rattle.theory.specs.Collapse.{block_final, Collapsed}
use Rattle.theory.specs.Entry.{Between}
use Rattle.theory.proofs.CollapseProper.{collapsed_proper}
use Rattle.theory.specs.AddingUp.{Names, AddedUp}
use Rattle.theory.proofs.AddingUp.{added_collapsed}
use Rattle.tables.specs.Record.{Columns, columns, row_at, table_of}
use Rattle.tables.specs.declared.TableRecord.{TableRecord}
use Rattle.profiles.specs.Entries.{Entry, entry_at, entries_from, entries}
use Rattle.profiles.specs.Sums.{sum_at, SummedUp}
use Rattle.adding.specs.Keys.{transition_of}
use Rattle.adding.specs.Named.{name_of, Greatest}
use Rattle.adding.specs.Finals.{final_for}
use Rattle.adding.specs.Rows.{Rows, gathered, Gathered, KeyKnown, table_from}
use Rattle.tables.specs.Rows.{rows_length, each_row}
use Rattle.adding.specs.Collapsing.{blocks_of, Collapsible, CollapsedTo}
use Rattle.adding.proofs.Agreeing.{member_same, gathered_same}
use Rattle.adding.proofs.Naming.{greatest_names}
use Rattle.adding.proofs.Packing.{Packable}
use Rattle.adding.proofs.Sums.{blocked, Known, known_key, known_each, entries_ascending, entries_sums}

-- what holds of each entry holds of entry i
entry_of : (P : Entry → Type 0) (keys codes : List ℕ) (m k : ℕ) → Each P (entries_from keys codes m k) → (i : ℕ) → i < k → P (entry_at keys codes (m + i))
unfolding entries_from
entry_of P keys codes m zero h i l = absurd (omega arith)
entry_of P keys codes m (suc k) h zero l = let e : m + 0 ≡ m = omega arith in rw e h.0
entry_of P keys codes m (suc k) h (suc i) l = let e : m + suc i ≡ suc m + i = omega arith in rw e (entry_of P keys codes (suc m) k h.1 i (omega arith))

module _ (d : Direction) (r : TableRecord) (blocks : List ℕ) (number : ℕ) (given : Collapsible d r blocks number) where
  abbrev X : Table
  X = table_of r

  abbrev b : ℕ → ℕ
  b = block_of (blocks_of r blocks)

  same_block : (q : ℕ) → q < r.states → block_of blocks q ≡ b q
  same_block q l = sym (get_or-take r.states blocks q 0 l)

  pub few_states : r.states ≤ 256
  few_states = given.proper.states_few

  pub few_blocks : number ≤ 256
  few_blocks = omega (arith, few_states, given.blocks_many, block_count_few r.states b given.numbered r.states (omega arith))

  few_transitions : r.count ≤ 4000
  few_transitions = omega (arith, given.proper.transitions_few, rows_length (columns r.ranks r.symbol r.children r.target r.code) 0 r.count)

  block_byte : (q : ℕ) → q < r.states → b q < 256
  block_byte q l = omega (arith, few_blocks, given.blocks_many, block_count_above b r.states q l)

  module _ (t : Transition) (p : ProperTransition X.ranks X.states t) where
    symbol_few : t.symbol < 128
    symbol_few = omega (arith, p.symbol_known, given.proper.symbols_few)

    rank_same : get_or X.ranks t.symbol 0 ≡ get_or r.ranks t.symbol 0
    rank_same = get_or-take r.symbols r.ranks t.symbol 0 (omega (arith, p.symbol_known, given.holds.symbols))

    rank_few : get_or r.ranks t.symbol 0 ≤ 4
    rank_few = subst (λ (k : ℕ). k ≤ 4) rank_same (each-get_or (λ k. k ≤ 4) X.ranks t.symbol 0 given.proper.ranks_small (omega arith))

    packable_one : Packable r.ranks (blocked b t)
    packable_one = record {
      symbol_known = symbol_few;
      children_many = length-map t.children b ∙ p.children_many ∙ rank_same;
      rank_small = rank_few;
      children_bytes = each_map (λ D. D < 256) b t.children (each_implies (λ q. q < X.states) (λ q. b q < 256) block_byte t.children p.children_known);
      target_byte = block_byte t.target p.target_known;
    }

  packable : Each (λ t. Packable r.ranks (blocked b t)) X.transitions
  packable = each_implies (ProperTransition X.ranks X.states) (λ t. Packable r.ranks (blocked b t)) packable_one X.transitions given.proper.transitions_proper

  pub readable : Rows r.ranks r.symbol r.count
  readable = (
    few_transitions,
    λ j l.
        let c : Columns = columns r.ranks r.symbol r.children r.target r.code in
        let p : ProperTransition X.ranks X.states (row_at c j) =
        each_row (ProperTransition X.ranks X.states) c 0 r.count given.proper.transitions_proper j (omega arith) (omega arith) in
        record { inside = omega (arith, few_transitions); known = symbol_few (row_at c j) p; rank_small = rank_few (row_at c j) p },
  )

  module _ (names : List ℕ) (greatest : Greatest (block_of blocks) r.states names) where
    abbrev n : ℕ → ℕ
    n = name_of names

    names_members : Names r.states b n
    names_members = greatest_names b r.states given.numbered few_states names (λ D l. greatest D l ∙ member_same (block_of blocks) b r.states same_block D)

    final_at : (q : ℕ) → q < r.states → get_or X.finals q 0 ≡ get_or r.finals q 0
    final_at q l = get_or-take r.states r.finals q 0 l

    -- the final code of a block is that of the collapse
    final_collapsed : (s : Direction) (D : ℕ) → D < number → final_for s (arithmetic_number r.arithmetic) r.states r.finals (block_of blocks) n D ≡ code_of (arithmetic_number r.arithmetic) (block_final X b s (n D))
    final_collapsed backward D l =
        let block : b (n D) ≡ D = names_members.named_block D (omega (arith, given.blocks_many)) in
        ap (code_of (arithmetic_number r.arithmetic)) (sum-each (arithmetic (arithmetic_number r.arithmetic)) (λ p. p < r.states) (below r.states) (each_below r.states) _ _ (λ p k.
        ap₂ (λ (c : Bool) (code : ℕ). only (arithmetic (arithmetic_number r.arithmetic)) c (meaning (arithmetic_number r.arithmetic) code)) (ap₂ eqb (same_block p k) (sym block)) (sym (final_at p k))))
    final_collapsed forward D l =
        let known : n D < r.states = names_members.named_known D (omega (arith, given.blocks_many)) in
        sym (final_at (n D) known) ∙ sym (code_of-meaning (arithmetic_number r.arithmetic) (get_or X.finals (n D) 0) (each-get_or (λ c. c < 2 ^ 32) X.finals (n D) 0 given.proper.finals_fit (omega arith)))

    module _ (keys codes : List ℕ) (many : ℕ) (held : Gathered (gathered (block_of blocks) n d X.transitions) r.count keys codes many)
        (keys' codes' : List ℕ) (end : ℕ) (summed : SummedUp (arithmetic_number r.arithmetic) 0 many end keys codes keys' codes') where
      abbrev es : List Entry
      es = entries keys' codes' 0 end

      sums_same : (j : ℕ) → sum_at (arithmetic_number r.arithmetic) es j ≡ sum_at (arithmetic_number r.arithmetic) (gathered b n d X.transitions) j
      sums_same j = summed.sums j ∙ ap (λ (fs : List Entry). sum_at (arithmetic_number r.arithmetic) fs j) (held.held ∙ gathered_same (block_of blocks) b n d r.states same_block X.transitions
          (each_implies (ProperTransition X.ranks X.states) (Between X.states) (λ t p. (p.children_known, p.target_known)) X.transitions given.proper.transitions_proper))

      known : Each (Known r.ranks) es
      known = known_each X b n d r.ranks packable es summed.summed sums_same

      pub keys_known : (i : ℕ) → i < end → KeyKnown r.ranks (get_or keys' i 0)
      unfolding entries
      keys_known i l =
          let here : Known r.ranks (entry_at keys' codes' (0 + i)) = entry_of (Known r.ranks) keys' codes' 0 (end - 0) known i (omega arith) in
          let k : Known r.ranks (entry_at keys' codes' i) = subst (λ (j : ℕ). Known r.ranks (entry_at keys' codes' j)) (zero-add i) here in
          known_key r.ranks (entry_at keys' codes' i) k

      module _ (finals : List ℕ) (finals_long : length finals ≡ 256)
          (finals-are : (D : ℕ) → D < number → get_or finals D 0 ≡ final_for d (arithmetic_number r.arithmetic) r.states r.finals (block_of blocks) n D) where
        -- the table that is made
        abbrev made : Table
        made = table_from (arithmetic_number r.arithmetic) number r.symbols r.ranks finals es

        of_rows : (P : Transition → Type 0) → Each (λ e. P (transition_of r.ranks e)) es → Each P made.transitions
        of_rows P h = each_map P (transition_of r.ranks) es h

        added : AddedUp d X b n made
        added = record {
          shape = record {
            arithmetic_stays = refl;
            ranks_stay = refl;
            states_blocks = given.blocks_many;
            finals_many = length-take-le number finals (omega (arith, few_blocks));
            zeros_unlisted = of_rows (λ t. 0 < t.code) (each_implies _ (λ e. 0 < e.code) (λ e h. h.0) es summed.summed.codes);
            ascending = entries_ascending r.ranks es known summed.summed.rising;
          };
          finals-added = λ D l. get_or-take number finals D 0 l ∙ finals-are D l ∙ final_collapsed d D l;
          sums_added = λ k. entries_sums X b n d r.ranks packable es summed.summed sums_same k;
          codes_fit = of_rows (λ t. t.code < 2 ^ 32) (each_implies _ (λ e. e.code < 2 ^ 32) (λ e h. h.1) es summed.summed.codes);
        }

        pub made_collapsed : (c : TableRecord) → table_of c ≡ made → c.symbols ≡ r.symbols → CollapsedTo d r blocks c
        made_collapsed c e s =
            let collapsed = added_collapsed d X b n given.proper given.bisimulation names_members made added in
            record {
              holds = record { table = refl; symbols = s ∙ given.holds.symbols ∙ ap (λ (Y : Table). length Y.ranks) (sym e) };
              proper = subst Proper (sym e) (collapsed_proper d X b given.numbered made collapsed given.proper);
              collapsed = subst (Collapsed d X b) (sym e) collapsed;
            }
