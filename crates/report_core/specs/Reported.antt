-- What a journal holds, told in five lines, and what the command that tells it did, whatever its answer.
use Rattle.std.specs.Prelude.{◌≡◌, ◌≢◌, ◌⊎◌, ℕ, List, [], ◌∷◌, ◌++◌, length, Option, Some, None, codes, decimal}
use Rattle.std.specs.Io.KnownBytes.{append_known}
use Rattle.host_core.specs.declared.status.Status.{Status}
use Rattle.host_core.specs.declared.status.Status.TheVariants.{Done, SendFault, DiskFault, Damaged, NoJournal, NoMemory}
use Rattle.host_core.specs.Outside.{Outside, Elapses, Rose, NoFault, Continues}
use Rattle.session_core.specs.Dates.{text_of}
use Rattle.session_core.specs.declared.day.Day.{Day}
use Rattle.wire_in.specs.declared.base.Base.{Base}
use Rattle.wire_in.specs.declared.record.Record.{Record}
use Rattle.journal_core.specs.Walk.{HasNoHeader}
use Rattle.rulebook.specs.Admission.{last_day, names}
use Rattle.rulebook.specs.Book.{messages_of}
use Rattle.stream_core.specs.Pending.{SendsPrefix, SentPrefix}
use Rattle.recovery_core.specs.Damage.{IsDamagedAt}
use Rattle.recovery_core.specs.Held.{IsHeld}
use Rattle.recovery_core.specs.Origins.{again}
use Rattle.recovery_core.specs.Recoveries.{IsReadThrough}
use Rattle.recovery_core.specs.Starved.{StarvedAtBase, StarvedAtRecord, StarvedBehind}
use Rattle.recovery_core.specs.Ends.{TellsNoJournal, TellsDamage}

-- a word and a value, with a blank between them, and a newline (10)
abbrev pub line : List ℕ → List ℕ → List ℕ
line word value = word ++ codes " " ++ value ++ 10 ∷ []

-- a date, or none
abbrev pub day_word : Option Day → List ℕ
day_word None = codes "none"
day_word (Some day) = text_of day.date

-- Of a journal of this capacity that holds these records, the newest first: how many they are, how many messages they gave,
-- the capacity, the last day, and how many names were ever listed.
abbrev pub report_of : ℕ → List Record → List ℕ
report_of capacity held =
    line (codes "inputs") (decimal (length held))
    ++ line (codes "messages") (decimal (length (messages_of held)))
    ++ line (codes "limit") (decimal capacity)
    ++ line (codes "day") (day_word (last_day held))
    ++ line (codes "names") (decimal (length (names held)))

-- the answers of the command
abbrev pub IsReport : Status → Type 0
IsReport Done = Unit {0}
IsReport SendFault = Unit {0}
IsReport DiskFault = Unit {0}
IsReport (Damaged at) = Unit {0}
IsReport NoJournal = Unit {0}
IsReport NoMemory = Unit {0}
IsReport _ = ⊥

-- a journal was told of; what says that no call of the host was made is given
pub record Reported (unbegun : Type 0) (status : Status) (old new : Outside) : Type 0 where
  -- where all went well, exactly the five lines were sent, and the disk was read to its end
  pub exact : (capacity : ℕ) (held : List Record) → IsHeld capacity held old → status ≡ Done → new.sent ≡ append_known old.sent (report_of capacity held)
  pub sound : (disk : List ℕ) → old.disk ≡ Some disk → status ≡ Done → IsReadThrough disk
  -- whenever the run is stopped, and at its end, a prefix of them was sent, and what the disk may be left with is as before
  pub moments : (capacity : ℕ) (held : List Record) → IsHeld capacity held old → Elapses old new (SendsPrefix old.sent (report_of capacity held) old)
  pub part : (capacity : ℕ) (held : List Record) → IsHeld capacity held old → SentPrefix old.sent new.sent (report_of capacity held)
  -- memory is short only before the first call of the host, for the last base, or at a Trade behind it, and nothing was sent
  pub short : (capacity : ℕ) (held : List Record) (is : IsHeld capacity held old) → status ≡ NoMemory
      → unbegun ⊎ StarvedAtBase is.disk old.sent new.sent ⊎ StarvedBehind 1 None is.disk held old.sent new.sent
  pub starved : (capacity : ℕ) (held : List Record) → IsHeld capacity held old → status ≡ NoMemory → new.sent ≡ old.sent
  -- where no header stands it is told, unless the disk fails or memory is short, and nothing is sent
  pub no_journal : status ≡ NoJournal → (disk : List ℕ) → old.disk ≡ Some disk → HasNoHeader disk
  pub no_header : (disk : List ℕ) → old.disk ≡ Some disk → HasNoHeader disk → TellsNoJournal status
  pub no_header_starved : (disk : List ℕ) → old.disk ≡ Some disk → HasNoHeader disk → status ≡ NoMemory → unbegun
  pub unsent : status ≡ NoJournal → new.sent ≡ old.sent
  -- damage is told where no scan of the journal begins, or at the gate of the first batch behind the last base that has no form or
  -- holds a record that may not follow, never of a lawful list, and nothing is sent
  pub damaged : (at : ℕ) → status ≡ Damaged at → (disk : List ℕ) → old.disk ≡ Some disk
      → (capacity : ℕ) × (base : Option Base) × (before : List Record) × IsDamagedAt capacity at base before disk
  pub undamaged : (capacity : ℕ) (held : List Record) → IsHeld capacity held old → (at : ℕ) → status ≢ Damaged at
  pub damage_is_told : (capacity at : ℕ) (base : Option Base) (before : List Record) (disk : List ℕ) → old.disk ≡ Some disk → IsDamagedAt capacity at base before disk → ¬ HasNoHeader disk → TellsDamage at status
  pub damage_is_unsent : (at : ℕ) (disk : List ℕ) → status ≡ Damaged at → old.disk ≡ Some disk → new.sent ≡ old.sent
  pub damage_short : (capacity at : ℕ) (base : Option Base) (before : List Record) (disk : List ℕ) → old.disk ≡ Some disk → IsDamagedAt capacity at base before disk → status ≡ NoMemory
      → unbegun ⊎ StarvedAtBase disk old.sent new.sent ⊎ StarvedAtRecord 1 (again None base) before old.sent new.sent
  pub damage_starved : (capacity at : ℕ) (base : Option Base) (before : List Record) (disk : List ℕ) → old.disk ≡ Some disk → IsDamagedAt capacity at base before disk → status ≡ NoMemory → new.sent ≡ old.sent
  -- whatever the answer, nothing is written, and no input is read
  pub disk : new.disk ≡ old.disk
  pub input : new.input ≡ old.input
  pub asks : new.asks ≡ old.asks
  -- a fault is told only where the host met one, and want of memory only where it met none
  pub send_cause : status ≡ SendFault → Rose old.send_faults new.send_faults
  pub disk_cause : status ≡ DiskFault → Rose old.disk_faults new.disk_faults
  pub memory : status ≡ NoMemory → NoFault old new
  pub kind : IsReport status
  pub continues : Continues old new
