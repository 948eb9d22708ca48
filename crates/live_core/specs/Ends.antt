-- What a session has read, kept and sent at its end.
use Rattle.std.specs.Prelude.{◌≡◌, ℕ, List, Some}
use Rattle.host_core.specs.declared.status.Status.{Status}
use Rattle.host_core.specs.declared.status.Status.TheVariants.{Done, Truncated, ReadFault, SendFault, DiskFault, SessionFull, Damaged, NoJournal, NoMemory}
use Rattle.host_core.specs.Outside.{Outside, IsSettled}
use Rattle.wire_in.specs.declared.record.Record.{Record}
use Rattle.journal_core.specs.Layout.{Holds}
use Rattle.engine_core.specs.Sessions as engine
use Rattle.live_core.specs.Safe.{Begin, start_of}

-- nothing is pending, and the disk, where it is known, holds these records
pub record IsKept (capacity : ℕ) (records : List Record) (now : Outside) : Type 0 where
  pub settled : IsSettled now
  pub holds : (disk : List ℕ) → now.disk ≡ Some disk → Holds disk capacity records

-- So many bytes of the input were read, all that is expected for them was sent, and the disk holds the records that they
-- gave.
abbrev pub Answered : Begin → List ℕ → ℕ → Outside → Type 0
Answered begin = engine.Answered (IsKept begin.capacity) (start_of begin)

-- the answers of a session
abbrev pub IsAnswer : Status → Type 0
IsAnswer Done = Unit {0}
IsAnswer Truncated = Unit {0}
IsAnswer ReadFault = Unit {0}
IsAnswer SendFault = Unit {0}
IsAnswer DiskFault = Unit {0}
IsAnswer SessionFull = Unit {0}
IsAnswer (Damaged at) = Unit {0}
IsAnswer NoJournal = Unit {0}
IsAnswer NoMemory = Unit {0}
IsAnswer _ = ⊥

-- no session was served: there is no journal, or it is damaged
abbrev pub IsUnserved : Status → Type 0
IsUnserved NoJournal = Unit {0}
IsUnserved (Damaged at) = Unit {0}
IsUnserved _ = ⊥

-- nothing of the input was read, nothing was sent, and the disk has what it had
pub record IsLeftAlone (old new : Outside) : Type 0 where
  pub input : new.input ≡ old.input
  pub sent : new.sent ≡ old.sent
  pub disk : new.disk ≡ old.disk
