-- What the two commands did, whatever their answer.
use Rattle.std.specs.Prelude.{ℕ}
use Rattle.host_core.specs.declared.status.Status.{Status}
use Rattle.host_core.specs.declared.status.Status.TheVariants.{Done, Truncated, ReadFault, SendFault, SessionFull, NoMemory, BadText}
use Rattle.host_core.specs.Outside.{Outside}
use Rattle.text_core.specs.declared.kind.Kind.{Kind}
use Rattle.text_core.specs.declared.task.Task.{Task}
use Rattle.text_core.specs.declared.task.Task.TheVariants.{Print, Pack}
use Rattle.stream_core.specs.Streamed.{Streamed}
use Rattle.text_core.specs.Streams.{units_within, text_of, text_for, end_of}

-- the most bytes that a command reads
abbrev pub bytes_max : ℕ
bytes_max = 1099511627776

-- the input was read to its end, to the most bytes, or to a bad unit
abbrev pub IsEnd : Status → Type 0
IsEnd Done = Unit {0}
IsEnd Truncated = Unit {0}
IsEnd SessionFull = Unit {0}
IsEnd (BadText line) = Unit {0}
IsEnd _ = ⊥

-- the answers of a command: a text is never truncated
abbrev pub IsAnswer : Task → Status → Type 0
IsAnswer task Done = Unit {0}
IsAnswer Print Truncated = Unit {0}
IsAnswer task ReadFault = Unit {0}
IsAnswer task SendFault = Unit {0}
IsAnswer task SessionFull = Unit {0}
IsAnswer task NoMemory = Unit {0}
IsAnswer task (BadText line) = Unit {0}
IsAnswer _ _ = ⊥

-- The input was translated, up to so many bytes. Memory is short only before the first call of the host; what says that none was made
-- is given.
abbrev pub Translated : Type 0 → Task → Kind → ℕ → Status → Outside → Outside → Type 0
Translated unbegun task values most = Streamed (text_for task values) (λ input. text_of task values (units_within task most input)) (end_of task values most) IsEnd (IsAnswer task) unbegun most

-- frames were printed as lines
abbrev pub Printed : Type 0 → Kind → Status → Outside → Outside → Type 0
Printed unbegun kind = Translated unbegun Print kind bytes_max

-- lines were packed as frames
abbrev pub Packed : Type 0 → Kind → Status → Outside → Outside → Type 0
Packed unbegun kind = Translated unbegun Pack kind bytes_max
