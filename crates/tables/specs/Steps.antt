-- What each step of the reader leaves in the record that it fills.
use Rattle.std.specs.Prelude.{ℕ, ◌≤◌, ◌*◌, ◌≡◌, List, [], ◌∷◌, ◌⊎◌, length, get_or, take, refl, Result, Ok, Err}
use Rattle.std.proofs.Common.{sym, ap}
use Rattle.answers.specs.declared.Refusal.{Refusal}
use Rattle.numbers.specs.declared.Cursor.{Cursor}
use Rattle.theory.specs.declared.Arithmetic.{Arithmetic}
use Rattle.theory.specs.Arithmetic.{arithmetic_number}
use Rattle.format.specs.Read.{Found, found, refused, any, within, many, table_read}
use Rattle.model.specs.Table.{Table}
use Rattle.tables.specs.Record.{Columns, Holds}
use Rattle.tables.specs.declared.TableRecord.{TableRecord}

-- an arithmetic that was read, as its number
abbrev pub arithmetic_found : Result (Arithmetic × Cursor) Refusal → Found ℕ
arithmetic_found (Ok (a, next)) = found (arithmetic_number a) next.at
arithmetic_found (Err refusal) = refused refusal

-- what was read into the record is what is found, up to the next place; or the refusal is answered
abbrev pub Finds : {A : Type 0} → Found A → A → Result Cursor Refusal → Type 0
Finds x a (Ok next) = x ≡ found a next.at
Finds x a (Err refusal) = x ≡ refused refusal

-- values read one after another from a place on, each by a call that says so: all of them, up to the next place, or the first refusal
abbrev pub ReadEach : {A : Type 0} → (Cursor → Result (A × Cursor) Refusal → Type 0) → List A → Cursor → Result Cursor Refusal → Type 0
ReadEach read [] at result = result ≡ Ok at
ReadEach read (a ∷ rest) at result =
    ((next : Cursor) × read at (Ok (a, next)) × ReadEach read rest next result) ⊎ ((refusal : Refusal) × read at (Err refusal) × (result ≡ Err refusal))

pub record ReadAll {A : Type 0} (read : Cursor → Result (A × Cursor) Refusal → Type 0) (values : List A) (at : Cursor) (result : Result Cursor Refusal) : Type 0 where
  pub each : ReadEach read values at result

-- every rank is at most 4
abbrev pub Small : List ℕ → Type 0
Small ranks = (i : ℕ) → get_or ranks i 0 ≤ 4

-- the arrays are as long as the record's
pub record Long (columns : Columns) : Type 0 where
  pub ranks : length columns.ranks ≡ 128
  pub symbol : length columns.symbol ≡ 4000
  pub children : length columns.children ≡ 16000
  pub target : length columns.target ≡ 4000
  pub code : length columns.code ≡ 4000

-- the transitions before transition j are as they were
pub record Kept (j : ℕ) (before columns : Columns) : Type 0 where
  pub ranks : columns.ranks ≡ before.ranks
  pub symbol : take j columns.symbol ≡ take j before.symbol
  pub children : take (j * 4) columns.children ≡ take (j * 4) before.children
  pub target : take j columns.target ≡ take j before.target
  pub code : take j columns.code ≡ take j before.code

-- all but the transitions is as it was
pub record HeadKept (before now : TableRecord) : Type 0 where
  pub arithmetic : now.arithmetic ≡ before.arithmetic
  pub states : now.states ≡ before.states
  pub symbols : now.symbols ≡ before.symbols
  pub count : now.count ≡ before.count
  pub ranks : now.ranks ≡ before.ranks
  pub finals : now.finals ≡ before.finals

-- all that stands before the transitions is in the record, and the transitions begin at `next`
pub record HeadFound (s : List ℕ) (t : TableRecord) (next : ℕ) : Type 0 where
  pub second : ℕ
  pub third : ℕ
  pub fourth : ℕ
  pub fifth : ℕ
  pub sixth : ℕ
  pub arithmetic : within s 0 1 0 ≡ found (arithmetic_number t.arithmetic) second
  pub states : within s 1 256 second ≡ found t.states third
  pub symbols : within s 1 128 third ≡ found t.symbols fourth
  pub ranks : many (within s 0 4) t.symbols fourth ≡ found (take t.symbols t.ranks) fifth
  pub finals : many (any s) t.states fifth ≡ found (take t.states t.finals) sixth
  pub count : within s 0 4000 sixth ≡ found t.count next
  pub symbols_fit : t.symbols ≤ length t.ranks

abbrev pub HeadIs : List ℕ → TableRecord → Result Cursor Refusal → Type 0
HeadIs s t (Ok next) = HeadFound s t next.at
HeadIs s t (Err refusal) = table_read s ≡ refused refusal

-- the reader's promise: the record is the table that the bytes are, or the refusal is the one that the definition gives
abbrev pub ReadingIs : Found Table → Result TableRecord Refusal → Type 0
ReadingIs (found X end) (Ok t) = Holds t X
ReadingIs (found X end) (Err refusal) = ⊥
ReadingIs (refused refusal) (Ok t) = ⊥
ReadingIs (refused refusal) (Err given) = given ≡ refusal

-- a record that was read is the table that was found
pub reading_found : (x : Found Table) (t : TableRecord) → ReadingIs x (Ok t) → (X : Table) × (end : ℕ) × (x ≡ found X end) × Holds t X
reading_found (found X end) t h = (X, end, refl, h)
reading_found (refused refusal) t h = absurd h

pub reading_refused : (x : Found Table) (refusal : Refusal) → ReadingIs x (Err refusal) → x ≡ refused refusal
reading_refused (found X end) refusal h = absurd h
reading_refused (refused given) refusal h = ap refused (sym h)
