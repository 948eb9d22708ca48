-- The frames of a round: judged one after the other, their new records kept together, and then replied to. Private words.
use Rattle.std.specs.Prelude.{ℕ, ◌+◌, ◌==◌, ◌≤◌, if◌then◌else◌, List, [], ◌∷◌, length, Option, Some, None, Result, Ok, Err}
use Rattle.std.specs.List.{flat_map}
use Rattle.wire_in.specs.declared.record.Record.{Record}
use Rattle.wire_in.specs.declared.record.Refusal.{Refusal}
use Rattle.wire_in.specs.declared.record.Refusal.TheVariants.{UnknownType, BadLength}
use Rattle.wire_in.specs.Refusals.{code_of}
use Rattle.wire_out.specs.declared.message.Frame.TheVariants as frame
use Rattle.wire_out.specs.Spelling.{spelling}
use Rattle.market_core.specs.AdmissionState as admissions
use Rattle.market_core.specs.AdmissionState.{AdmissionState}
use Rattle.standby_core.specs.declared.round.Reply.{Reply}
use Rattle.standby_core.specs.declared.round.Reply.TheVariants.{Have, Refused}
use Rattle.standby_core.specs.Parts.{have_bytes, part_of}

-- the replies to up to so many frames, the oldest first, and the new records among them
pub record RoundState : Type 0 where
  pub replies : List Reply
  pub records : List Record
  pub most : ℕ

-- at most 64 replies, for which room was taken, and no more records than replies
pub record IsRound (round : RoundState) (reserved : ℕ) : Type 0 where
  pub few : length round.replies ≤ round.most
  pub within : round.most ≤ 64
  pub reserve : round.most ≤ reserved
  pub fewer : length round.records ≤ length round.replies

-- Replies

-- the bytes of a reply
abbrev pub bytes_of : Reply → List ℕ
bytes_of (Have count) = have_bytes count
bytes_of (Refused place refusal) = spelling (frame.Refused place (code_of refusal) 0)

-- and of several, one after the other
abbrev pub spelled : List Reply → List ℕ
spelled replies = flat_map bytes_of replies

-- the reply to the frame at a place: why it is refused, or how many records are kept after it
abbrev pub reply_with : ℕ → ℕ → Option Refusal → Reply
reply_with place count None = Have count
reply_with place count (Some refusal) = Refused place refusal

-- Judging

-- the Part that was found, or that the body spells none
abbrev pub part_or_bad : Option (ℕ × Record) → Result (ℕ × Record) Refusal
part_or_bad None = Err BadLength
part_or_bad (Some part) = Ok part

-- the Part in a body, or why its frame is refused whatever is kept
abbrev pub part_in : List ℕ → Result (ℕ × Record) Refusal
part_in [] = Err BadLength
part_in (kind ∷ rest) = if kind == 161 then part_or_bad (part_of (kind ∷ rest)) else Err UnknownType

-- why an admission refuses the frame of a Part: its record comes next, and isn't admissible
abbrev pub refusal_by : AdmissionState → Result (ℕ × Record) Refusal → Option Refusal
refusal_by admission (Err refusal) = Some refusal
refusal_by admission (Ok part) = if part.0 == admission.count + 1 then admissions.refusal_of admission part.1 else None

-- a record, unless it is refused
abbrev pub unless : Option Refusal → Record → List Record
unless None x = x ∷ []
unless (Some refusal) x = []

-- the record of a Part, where it comes next and is admissible
abbrev pub new_by : AdmissionState → Result (ℕ × Record) Refusal → List Record
new_by admission (Err refusal) = []
new_by admission (Ok part) = if part.0 == admission.count + 1 then unless (admissions.refusal_of admission part.1) part.1 else []
