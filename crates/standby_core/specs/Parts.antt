-- The frames of a standby: a Part carries a record of a journal with its number, and a Have tells how many records are kept. Numbers
-- are unsigned and big-endian.
use Rattle.std.specs.Prelude.{◌≡◌, ◌≢◌, ℕ, ◌+◌, ◌<◌, ◌^◌, ◌==◌, ◌&&◌, nat_le, nat_lt, Bool, if◌then◌else◌, List, ◌∷◌, ◌++◌, length, drop, slice_index, Option, Some, None}
use Rattle.std.specs.Int.{w64, to_be_bytes}
use Rattle.std.specs.Result.{result_ok}
use Rattle.wire_core.specs.Fields.{checked, number}
use Rattle.wire_core.specs.Frames.{framed}
use Rattle.wire_core.specs.OptionSteps.{◌>>=◌}
use Rattle.wire_in.specs.declared.record.Record.{Record}
use Rattle.wire_in.specs.Laws.{IsSound}
use Rattle.wire_in.specs.Reading.{record_of}
use Rattle.wire_in.specs.Spelling.{body_of}

-- the body of a Part: its type, the number of the record, and the record's frame
abbrev pub part_body : ℕ → Record → List ℕ
part_body number x = 161 ∷ to_be_bytes w64 number ++ framed (body_of x)

-- the body of a Have: its type, and how many records are kept
abbrev pub have_body : ℕ → List ℕ
have_body count = 162 ∷ to_be_bytes w64 count

-- their bytes, with the length byte
abbrev pub part_bytes : ℕ → Record → List ℕ
part_bytes number x = framed (part_body number x)

abbrev pub have_bytes : ℕ → List ℕ
have_bytes count = framed (have_body count)

-- a body spells the Part of a record with a number from 1 on
pub record SpellsPart (body : List ℕ) (number : ℕ) (x : Record) : Type 0 where
  pub some : number ≢ 0
  pub below : number < 2 ^ 64
  pub sound : IsSound x
  pub bytes : body ≡ part_body number x

-- a body spells the Have of a count
pub record SpellsHave (body : List ℕ) (count : ℕ) : Type 0 where
  pub below : count < 2 ^ 64
  pub bytes : body ≡ have_body count

-- Reading

-- whether a body has the form of a Part: its type, a number of eight bytes, and a frame to its end
abbrev pub has_part_form : List ℕ → Bool
has_part_form body = nat_le 10 (length body) && (slice_index body 0 == 161) && (slice_index body 9 + 10 == length body)

-- the number of a Part, from 1 on
abbrev pub number_of : List ℕ → Option ℕ
number_of body = checked (nat_lt 0 (number w64 1 body)) (number w64 1 body)

-- the number and the record of the Part that a body spells
unfoldable pub part_of : List ℕ → Option (ℕ × Record)
part_of body = if has_part_form body then (do
  n ← number_of body
  x ← result_ok (record_of (drop 10 body))
  Some (n, x)) else None

-- the count of the Have that a body spells
unfoldable pub have_of : List ℕ → Option ℕ
have_of body = if (length body == 9) && (slice_index body 0 == 162) then Some (number w64 1 body) else None

-- Laws

-- a body spells one Part at most
abbrev pub PartIsAlone : Type 0
PartIsAlone = (body : List ℕ) (number other : ℕ) (x y : Record) → SpellsPart body number x → SpellsPart body other y → (number ≡ other) × (x ≡ y)

-- a body spells one Have at most
abbrev pub HaveIsAlone : Type 0
HaveIsAlone = (body : List ℕ) (count other : ℕ) → SpellsHave body count → SpellsHave body other → count ≡ other
