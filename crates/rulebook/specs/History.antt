-- A history is a list of events, the newest first: the records that were accepted, and behind each the messages
-- that it gave. The newest record's step is open: rules still publish in it.
use Rattle.std.specs.Prelude.{ℕ, Option, Some, None, List, [], ◌∷◌, ◌++◌, if◌then◌else◌}
use Rattle.std.specs.Option.{option_map_or}
use Rattle.wire_in.specs.declared.record.Record.{Record}
use Rattle.wire_in.specs.Records.{moment_of, is_day}
use Rattle.wire_out.specs.declared.message.Message.{Message}
use Rattle.wire_out.specs.declared.message.Stamped.{Stamped}
use Rattle.rulebook.specs.declared.event.Event.{Event}
use Rattle.rulebook.specs.declared.event.Event.TheVariants.{Accepted, Published}

-- the moment of the newest record
abbrev pub now : List Event → ℕ
now [] = 0
now (Accepted x ∷ h) = moment_of x
now (Published m ∷ h) = now h

-- the newest record, which is that of the open step
abbrev pub newest : List Event → Option Record
newest [] = None
newest (Accepted x ∷ h) = Some x
newest (Published m ∷ h) = newest h

-- the open step without its messages
abbrev pub step_record : List Event → List Event
step_record h = option_map_or (λ x. Accepted x ∷ []) (newest h) []

-- the events of the open step
abbrev pub open_step : List Event → List Event
open_step [] = []
open_step (Accepted x ∷ h) = Accepted x ∷ []
open_step (Published m ∷ h) = Published m ∷ open_step h

-- the events before the open step
abbrev pub before_step : List Event → List Event
before_step [] = []
before_step (Accepted x ∷ h) = h
before_step (Published m ∷ h) = before_step h

-- the events since the last day record, that one included
abbrev pub today : List Event → List Event
today [] = []
today (Accepted x ∷ h) = if is_day x then Accepted x ∷ [] else Accepted x ∷ today h
today (Published m ∷ h) = Published m ∷ today h

-- the accepted records
abbrev pub records : List Event → List Record
records [] = []
records (Accepted x ∷ h) = x ∷ records h
records (Published m ∷ h) = records h

-- the messages, the oldest first, with the moments of their records
abbrev pub messages : List Event → List Stamped
messages [] = []
messages (Accepted x ∷ h) = messages h
messages (Published m ∷ h) = messages h ++ record { moment = now h; message = m } ∷ []

-- the messages of the open step
abbrev pub step_messages : List Event → List Stamped
step_messages [] = []
step_messages (Accepted x ∷ h) = []
step_messages (Published m ∷ h) = step_messages h ++ record { moment = now h; message = m } ∷ []

-- the history with these messages in its open step, the first of them first
abbrev pub publish : List Message → List Event → List Event
publish [] h = h
publish (m ∷ ms) h = publish ms (Published m ∷ h)

-- a value that a message has, and the moment of that message
pub record Found (X : Type 0) : Type 0 where
  pub moment : ℕ
  pub value : X

-- the last message that has such a value
abbrev pub last : {X : Type 0} → (Message → Option X) → List Event → Option (Found X)
last has [] = None
last has (Accepted x ∷ h) = last has h
last has (Published m ∷ h) = elim (has m) [ Some x ↦ Some (record { moment = now h; value = x }) | None ↦ last has h ]
