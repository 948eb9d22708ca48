-- What is sent for a list of frames, one after the other.
use Rattle.std.specs.Prelude.{ℕ, ◌+◌, ◌-◌, min, Bool, true, false, not, List, [], ◌∷◌, ◌++◌, length, drop, Option, Some, None, Result, Ok, Err}
use Rattle.std.specs.List.{flat_map, filter}
use Rattle.wire_in.specs.declared.record.Record.{Record}
use Rattle.wire_in.specs.declared.record.Refusal.{Refusal}
use Rattle.wire_in.specs.Refusals.{code_of, field_of}
use Rattle.wire_in.specs.Reading.{record_of}
use Rattle.wire_out.specs.declared.message.Frame.{Frame}
use Rattle.wire_out.specs.declared.message.Frame.TheVariants.{Hello, Numbered, Ack, Refused}
use Rattle.wire_out.specs.declared.message.Stamped.{Stamped}
use Rattle.wire_out.specs.Spelling.{spelling}
use Rattle.rulebook.specs.Admission.{verdict}
use Rattle.rulebook.specs.Book.{messages_of, newest_messages}

-- Accepted records have the newest first, and frames and what is sent for them the oldest.

-- the record, or the refusal where there is one
abbrev pub record_or_refusal : Record → Option Refusal → Result Record Refusal
record_or_refusal x None = Ok x
record_or_refusal x (Some refusal) = Err refusal

-- the record where it is admissible, else the first refusal that applies
abbrev pub admitted : ℕ → List Record → Result Record Refusal → Result Record Refusal
admitted capacity held (Ok x) = record_or_refusal x (verdict capacity held x)
admitted capacity held (Err refusal) = Err refusal

-- the record of a frame's body that is accepted after these, or the first refusal that applies
abbrev pub judged : ℕ → List Record → List ℕ → Result Record Refusal
judged capacity held body = admitted capacity held (record_of body)

-- the accepted records after one more frame: a refused one leaves no trace
abbrev pub with_record : List Record → Result Record Refusal → List Record
with_record held (Ok x) = x ∷ held
with_record held (Err refusal) = held

-- the accepted records after the frames of these bodies
abbrev pub accepted_of : ℕ → List Record → List (List ℕ) → List Record
accepted_of capacity held [] = held
accepted_of capacity held (body ∷ later) = accepted_of capacity (with_record held (judged capacity held body)) later

-- messages, numbered on from n
abbrev pub numbered : ℕ → List Stamped → List Frame
numbered n [] = []
numbered n (m ∷ later) = Numbered (n + 1) m ∷ numbered (n + 1) later

-- what is sent for a record that is accepted after these: its messages, numbered on, and its acknowledgement
abbrev pub accepted : List Record → Record → List Frame
accepted held x = numbered (length (messages_of held)) (newest_messages (x ∷ held)) ++ Ack (length held + 1) ∷ []

-- what is sent for a frame that is refused, with its number
abbrev pub refused : ℕ → Refusal → List Frame
refused number refusal = Refused number (code_of refusal) (field_of refusal) ∷ []

-- what is sent for the frame of a number
abbrev pub reply : ℕ → List Record → Result Record Refusal → List Frame
reply number held (Ok x) = accepted held x
reply number held (Err refusal) = refused number refusal

-- what is sent for the frames from a number on, after these records
abbrev pub replies : ℕ → ℕ → List Record → List (List ℕ) → List Frame
replies capacity number held [] = []
replies capacity number held (body ∷ later) =
    reply number held (judged capacity held body) ++ replies capacity (number + 1) (with_record held (judged capacity held body)) later

-- a session's first frame: how many records are held, and how many messages they gave
abbrev pub hello : List Record → Frame
hello held = Hello (length held) (length (messages_of held))

-- the messages of these records that are asked for again: those with this number and later ones, or none
abbrev pub sent_again : Option ℕ → List Record → List Frame
sent_again None held = []
sent_again (Some from) held = drop (from - 1) (numbered 0 (messages_of held))

-- how many of a record's messages are not asked for again, where so many messages came before them
abbrev pub passed_over : Option ℕ → ℕ → ℕ → ℕ
passed_over None before count = count
passed_over (Some from) before count = min (from - 1 - before) count

-- an acknowledgement
abbrev pub is_ack : Frame → Bool
is_ack (Ack number) = true
is_ack frame = false

-- the frames without acknowledgements
abbrev pub unacknowledged : List Frame → List Frame
unacknowledged frames = filter (λ frame. not (is_ack frame)) frames

-- frames, spelled one after the other
abbrev pub spelled : List Frame → List ℕ
spelled frames = flat_map spelling frames
