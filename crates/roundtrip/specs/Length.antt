-- How long a table's written form is: at most 65,415 bytes (document 01, "Bytes").
use Rattle.std.specs.Prelude.{ℕ, ◌+◌, ◌*◌, ◌≤◌, ◌<◌, ◌≡◌, List, [], ◌∷◌, ◌++◌, length, get_or}
use Rattle.std.proofs.Common.{◌∙◌, arith, length-append}
use Rattle.model.proofs.Each.{each_implies, each-get_or}
use Rattle.model.specs.Table.{Table, Transition, Each, Proper, ProperTransition}
use Rattle.numbers.specs.Written.{written, written_all}
use Rattle.format.specs.Written.{transition_numbers, transitions_numbers, bytes_of}
use Rattle.roundtrip.specs.Numbers.{written_few, written_one, written_two}

-- the length of numbers one after another is the sum of their parts' lengths
pub length_parts : (ms ns : List ℕ) → length (written_all (ms ++ ns)) ≡ length (written_all ms) + length (written_all ns)
length_parts [] ns = omega arith
length_parts (m ∷ ms) ns =
    length-append (written m) (written_all (ms ++ ns))
    ∙ omega (arith, length_parts ms ns, length-append (written m) (written_all ms))

-- numbers of at most `width` bytes each
pub length_all : (width : ℕ) (ns : List ℕ) → Each (λ n. length (written n) ≤ width) ns → length (written_all ns) ≤ width * length ns
length_all width [] h = omega arith
length_all width (n ∷ ns) h = omega (arith, length-append (written n) (written_all ns), h.0, length_all width ns h.1)

-- one number
pub length_one : (n : ℕ) → length (written_all (n ∷ [])) ≡ length (written n)
length_one n = length-append (written n) [] ∙ omega arith

module _ (ranks : List ℕ) (states : ℕ) (symbols_few : length ranks ≤ 128) (states_few : states ≤ 256) (ranks_small : Each (λ k. k ≤ 4) ranks) where
  -- a transition has at most 16 bytes
  pub transition_length : (t : Transition) → ProperTransition ranks states t → length (written_all (transition_numbers t)) ≤ 16
  transition_length t h =
      let symbol_known : t.symbol < length ranks = h.symbol_known in
      let target_known : t.target < states = h.target_known in
      let rank : get_or ranks t.symbol 0 ≤ 4 = each-get_or (λ k. k ≤ 4) ranks t.symbol 0 ranks_small (omega arith) in
      let children : length (written_all t.children) ≤ 2 * length t.children =
      length_all 2 t.children (each_implies (λ q. q < states) (λ q. length (written q) ≤ 2) (λ q l. written_two q (omega arith)) t.children h.children_known) in
      omega (
        arith,
        length_parts (t.symbol ∷ t.children) (t.target ∷ t.code ∷ []),
        length-append (written t.symbol) (written_all t.children),
        length-append (written t.target) (written_all (t.code ∷ [])),
        length_one t.code,
        written_one t.symbol (omega arith),
        written_two t.target (omega arith),
        written_few t.code,
        h.children_many,
      )

  -- transitions, one after another
  pub transitions_length : (ts : List Transition) → Each (ProperTransition ranks states) ts → length (written_all (transitions_numbers ts)) ≤ 16 * length ts
  transitions_length [] h = omega arith
  transitions_length (t ∷ ts) h =
      omega (arith, length_parts (transition_numbers t) (transitions_numbers ts), transition_length t h.0, transitions_length ts h.1)

-- the bytes of ranks, each one byte
pub ranks_length : (ranks : List ℕ) → Each (λ k. k ≤ 4) ranks → length (written_all ranks) ≤ length ranks
ranks_length ranks h =
    omega (arith, length_all 1 ranks (each_implies (λ k. k ≤ 4) (λ k. length (written k) ≤ 1) (λ k l. omega (arith, written_one k (omega arith))) ranks h))

each_few : (ns : List ℕ) → Each (λ n. length (written n) ≤ 5) ns
each_few [] = tt
each_few (n ∷ ns) = (written_few n, each_few ns)

-- the bytes of final codes, at most five each
pub finals_length : (finals : List ℕ) → length (written_all finals) ≤ 5 * length finals
finals_length finals = length_all 5 finals (each_few finals)

-- the parts of a table's length
pub length_table : (X : Table)
    → length (bytes_of X) ≡ length (written X.arithmetic) + length (written X.states) + length (written (length X.ranks))
    + length (written_all X.ranks) + length (written_all X.finals) + length (written (length X.transitions))
    + length (written_all (transitions_numbers X.transitions))
length_table X =
    let from₆ : List ℕ = length X.transitions ∷ transitions_numbers X.transitions in
    let from₃ : List ℕ = length X.ranks ∷ X.ranks ++ (X.finals ++ from₆) in
    omega (
      arith,
      length-append (written X.arithmetic) (written_all (X.states ∷ from₃)),
      length-append (written X.states) (written_all from₃),
      length-append (written (length X.ranks)) (written_all (X.ranks ++ (X.finals ++ from₆))),
      length_parts X.ranks (X.finals ++ from₆),
      length_parts X.finals from₆,
      length-append (written (length X.transitions)) (written_all (transitions_numbers X.transitions)),
    )

-- the greatest length is 65,415
pub table_length : (X : Table) → Proper X → length (bytes_of X) ≤ 65415
table_length X proper =
    omega (
      arith,
      length_table X,
      written_one X.arithmetic (omega (arith, proper.arithmetic_known)),
      written_two X.states (omega (arith, proper.states_few)),
      written_two (length X.ranks) (omega (arith, proper.symbols_few)),
      ranks_length X.ranks proper.ranks_small,
      finals_length X.finals,
      written_two (length X.transitions) (omega (arith, proper.transitions_few)),
      transitions_length X.ranks X.states proper.symbols_few proper.states_few proper.ranks_small X.transitions proper.transitions_proper,
      proper.symbols_few,
      proper.states_few,
      proper.finals_many,
      proper.transitions_few,
    )
