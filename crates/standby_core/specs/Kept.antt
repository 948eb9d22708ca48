-- What a standby keeps of the frames that it takes, and what it replies to each.
use Rattle.std.specs.Prelude.{◌≡◌, ℕ, ◌+◌, ◌==◌, ◌&&◌, Bool, is_none, if◌then◌else◌, List, [], ◌∷◌, ◌++◌, length, Option, Some, None}
use Rattle.wire_in.specs.declared.record.Record.{Record}
use Rattle.wire_in.specs.declared.record.Refusal.{Refusal}
use Rattle.wire_in.specs.declared.record.Refusal.TheVariants.{UnknownType, BadLength}
use Rattle.wire_in.specs.Refusals.{code_of}
use Rattle.wire_out.specs.declared.message.Frame.TheVariants.{Refused}
use Rattle.wire_out.specs.Spelling.{spelling}
use Rattle.rulebook.specs.Admission.{IsLawful, verdict}
use Rattle.recovery_core.specs.Recoveries.{IsPart}
use Rattle.standby_core.specs.Parts.{have_bytes, part_of}

-- Frames are given by their bodies, the oldest first; accepted records have the newest first. A number and a record are those of a Part.

-- whether the record of this number comes next
abbrev pub is_next : List Record → ℕ → Bool
is_next accepted number = number == length accepted + 1

-- Kept: the records after one more frame. The record of a Part is accepted where it comes next and is admissible.
abbrev pub with_part : ℕ → List Record → Option (ℕ × Record) → List Record
with_part limit accepted None = accepted
with_part limit accepted (Some part) = if is_next accepted part.0 && is_none (verdict limit accepted part.1) then part.1 ∷ accepted else accepted

-- and after these frames
abbrev pub kept : ℕ → List Record → List (List ℕ) → List Record
kept limit accepted [] = accepted
kept limit accepted (body ∷ later) = kept limit (with_part limit accepted (part_of body)) later

-- Replies: why a frame of the type of a Part is refused. It spells no Part, or its record comes next and isn't admissible.
abbrev pub part_refusal : ℕ → List Record → Option (ℕ × Record) → Option Refusal
part_refusal limit accepted None = Some BadLength
part_refusal limit accepted (Some part) = if is_next accepted part.0 then verdict limit accepted part.1 else None

-- why a frame is refused after these records: its body is empty, it has another type, or as above
abbrev pub refusal_of : ℕ → List Record → List ℕ → Option Refusal
refusal_of limit accepted [] = Some BadLength
refusal_of limit accepted (kind ∷ rest) = if kind == 161 then part_refusal limit accepted (part_of (kind ∷ rest)) else Some UnknownType

-- a refusal of the frame at a place, or how many records are kept after it
abbrev pub reply_of : ℕ → ℕ → Option Refusal → List ℕ
reply_of place count None = have_bytes count
reply_of place count (Some refusal) = spelling (Refused place (code_of refusal) 0)

-- what is sent for the frame at a place
abbrev pub reply : ℕ → ℕ → List Record → List ℕ → List ℕ
reply limit place accepted body = reply_of place (length (with_part limit accepted (part_of body))) (refusal_of limit accepted body)

-- and for the frames from a place on
abbrev pub replies : ℕ → ℕ → List Record → List (List ℕ) → List ℕ
replies limit place accepted [] = []
replies limit place accepted (body ∷ later) = reply limit place accepted body ++ replies limit (place + 1) (with_part limit accepted (part_of body)) later

-- Laws

-- what is kept behind a lawful list is lawful
abbrev pub KeptIsLawful : Type 0
KeptIsLawful = (limit : ℕ) (accepted : List Record) (frames : List (List ℕ)) → IsLawful limit accepted → IsLawful limit (kept limit accepted frames)

-- a list has this record at this number
pub record HasAt (number : ℕ) (x : Record) (records : List Record) : Type 0 where
  pub later : List Record
  pub earlier : List Record
  pub parts : later ++ x ∷ earlier ≡ records
  pub count : length (x ∷ earlier) ≡ number

-- each Part among these frames carries the record of its number in this list
abbrev pub ArePartsOf : List Record → List (List ℕ) → Type 0
ArePartsOf records [] = Unit {0}
ArePartsOf records (body ∷ later) = ((part : ℕ × Record) → part_of body ≡ Some part → HasAt part.0 part.1 records) × ArePartsOf records later

-- Where a list has what is kept first, and each Part carries its record of the list, it has all that is kept: none is lost between two,
-- repeated or in another order.
abbrev pub KeptIsPart : Type 0
KeptIsPart = (limit : ℕ) (records accepted : List Record) (frames : List (List ℕ)) → ArePartsOf records frames → IsPart accepted records → IsPart (kept limit accepted frames) records
