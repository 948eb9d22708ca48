-- What holds of all streams of frames, and of all records.
use Rattle.std.specs.Prelude.{◌≡◌, ℕ, ◌↔◌, Bool, true, false, List, [], ◌∷◌, ◌++◌, is_some}
use Rattle.wire_core.specs.Frames.{framed}
use Rattle.wire_in.specs.declared.record.Record.{Record}
use Rattle.wire_in.specs.declared.record.RecordKind.{RecordKind}
use Rattle.wire_in.specs.declared.record.RecordKind.TheVariants as kinds
use Rattle.wire_in.specs.Cutting.{IsCut, IsPartial, bodies_of, rest_of}
use Rattle.wire_in.specs.Records.{kind_of, is_day, is_tick, name_of, symbol_of}
use Rattle.wire_in.specs.Spelling.{HasTypes, InRange, body_of}

-- cutting goes on where it left off
pub record CutContinues : Type 0 where
  pub bodies : (bytes more : List ℕ) → bodies_of (bytes ++ more) ≡ bodies_of bytes ++ bodies_of (rest_of bytes ++ more)
  pub rest : (bytes more : List ℕ) → rest_of (bytes ++ more) ≡ rest_of (rest_of bytes ++ more)
  pub partial : (bytes : List ℕ) → IsPartial bytes → (bodies_of bytes ≡ []) × (rest_of bytes ≡ bytes)
  pub whole : (body : List ℕ) → (bodies_of (framed body) ≡ body ∷ []) × (rest_of (framed body) ≡ [])

-- there is one way to cut a stream
abbrev pub CutIsUnique : Type 0
CutIsUnique = (bytes : List ℕ) (bodies : List (List ℕ)) (rest : List ℕ)
    → IsCut bytes bodies rest ↔ ((bodies ≡ bodies_of bytes) × (rest ≡ rest_of bytes))

-- no frame is the beginning of another
abbrev pub FramesDiffer : Type 0
FramesDiffer = (a b more rest : List ℕ) → framed a ++ more ≡ framed b ++ rest → (a ≡ b) × (more ≡ rest)

-- a record that a frame can say
pub record IsSound (x : Record) : Type 0 where
  pub types : HasTypes x
  pub ranges : InRange x

-- no record's frame is the beginning of another record's
abbrev pub RecordsDiffer : Type 0
RecordsDiffer = (x y : Record) (more rest : List ℕ)
    → IsSound x → IsSound y → framed (body_of x) ++ more ≡ framed (body_of y) ++ rest → (x ≡ y) × (more ≡ rest)

-- whether a record begins a day, lists a name, is a clock or an index tick, and names a symbol by its id
pub record Does (day name tick symbol : Bool) (x : Record) : Type 0 where
  pub begins_day : is_day x ≡ day
  pub lists_name : is_some (name_of x) ≡ name
  pub is_a_tick : is_tick x ≡ tick
  pub names_symbol : is_some (symbol_of x) ≡ symbol

-- a record of each kind does one of these, and no other
abbrev pub IsOfKind : RecordKind → Record → Type 0
IsOfKind kinds.Day x = Does true false false false x
IsOfKind kinds.Listing x = Does false true false false x
IsOfKind kinds.Tick x = Does false false true false x
IsOfKind kinds.OfSymbol x = Does false false false true x

-- a record is of one kind
abbrev pub KindIsUnique : Type 0
KindIsUnique = (x : Record) (kind : RecordKind) → kind_of x ≡ kind ↔ IsOfKind kind x
