-- What the command did that adds the base of all records to a journal, whatever its answer.
use Rattle.std.specs.Prelude.{◌≡◌, ◌≢◌, ◌⊎◌, ℕ, Bool, true, false, List, [], ◌∷◌, Option, Some, None}
use Rattle.host_core.specs.declared.status.Status.{Status}
use Rattle.host_core.specs.declared.status.Status.TheVariants.{Done, DiskFault, Damaged, NoJournal, NoMemory, NotAtDay}
use Rattle.host_core.specs.Outside.{Outside, Agrees, MayLeave, Elapses, IsSettled, Rose, NoFault, Continues}
use Rattle.host_core.specs.Frames.{OnlyReadsDisk}
use Rattle.wire_in.specs.declared.base.Base.{Base}
use Rattle.wire_in.specs.declared.record.Record.{Record}
use Rattle.wire_in.specs.Records.{is_day}
use Rattle.journal_core.specs.Layout.{Holds}
use Rattle.journal_core.specs.Scan.{LeadsTo}
use Rattle.journal_core.specs.Walk.{HasNoHeader}
use Rattle.rulebook.specs.Admission.{IsLawful}
use Rattle.rulebook.specs.Base.{base_of}
use Rattle.recovery_core.specs.Damage.{IsDamagedAt}
use Rattle.recovery_core.specs.Ends.{TellsNoJournal, TellsDamage}
use Rattle.recovery_core.specs.Held.{IsHeld}
use Rattle.recovery_core.specs.Origins.{again}
use Rattle.recovery_core.specs.Recoveries.{HasDamage, IsReadThrough}
use Rattle.recovery_core.specs.Starved.{StarvedAtBase, StarvedAtRecord, StarvedBehind}

-- whether the newest of these records is a day
abbrev pub is_at_day : List Record → Bool
is_at_day [] = false
is_at_day (x ∷ earlier) = is_day x

-- the image holds this list, and its last block is the base of the whole list: a scan begins behind it, and finds no batch there
pub record IsRolled (capacity : ℕ) (held : List Record) (image : List ℕ) : Type 0 where
  pub holds : Holds image capacity held
  pub base : Base
  pub base_is : base_of held ≡ Some base
  pub gate : ℕ
  pub rest : List ℕ
  pub leads : LeadsTo capacity gate (Some base) [] image (0 ∷ rest)

-- a stop leaves an image that holds this list, or one that a stop at the start might have left, and nothing more was sent
pub record LeavesList (capacity : ℕ) (held : List Record) (old : Outside) (image bytes : List ℕ) : Type 0 where
  pub left : Holds image capacity held ⊎ MayLeave old image
  pub sent : Agrees old.sent bytes

-- the disk was read to its end, and holds no lawful list: only its base can say of what it holds what no lawful list has
pub record IsUnlawful (disk : List ℕ) : Type 0 where
  pub read : IsReadThrough disk
  pub none : (capacity : ℕ) (held : List Record) → Holds disk capacity held → ¬ IsLawful capacity held

-- the answers of the command: those over a lawful list that ends with a day, and over another lawful list, and all
abbrev pub IsRollAtDay : Status → Type 0
IsRollAtDay Done = Unit {0}
IsRollAtDay DiskFault = Unit {0}
IsRollAtDay NoMemory = Unit {0}
IsRollAtDay _ = ⊥

abbrev pub IsRollElsewhere : Status → Type 0
IsRollElsewhere NotAtDay = Unit {0}
IsRollElsewhere DiskFault = Unit {0}
IsRollElsewhere NoMemory = Unit {0}
IsRollElsewhere _ = ⊥

abbrev pub IsRoll : Status → Type 0
IsRoll Done = Unit {0}
IsRoll DiskFault = Unit {0}
IsRoll (Damaged at) = Unit {0}
IsRoll NoJournal = Unit {0}
IsRoll NoMemory = Unit {0}
IsRoll NotAtDay = Unit {0}
IsRoll _ = ⊥

-- a base was added to a journal, or was not; what says that no call of the host was made is given
pub record Rolled (unbegun : Type 0) (status : Status) (old new : Outside) : Type 0 where
  -- whenever the run is stopped, the image holds the list that the disk held, or a stop at the start might have left it
  pub moments : (capacity : ℕ) (held : List Record) → IsHeld capacity held old → Elapses old new (LeavesList capacity held old)
  -- where nothing is pending at the start, it always holds the list
  pub settled : (capacity : ℕ) (held : List Record) → IsHeld capacity held old → IsSettled old → Elapses old new (λ image bytes. Holds image capacity held)
  -- and whatever the answer, so does the disk as it is read then
  pub kept : (capacity : ℕ) (held : List Record) → IsHeld capacity held old → IsHeld capacity held new
  -- where all went well, the last block of the disk is the base of the whole list, and the disk was read to its end
  pub exact : (capacity : ℕ) (held : List Record) → IsHeld capacity held old → status ≡ Done → (disk : List ℕ) → new.disk ≡ Some disk → IsRolled capacity held disk
  pub sound : (disk : List ℕ) → old.disk ≡ Some disk → (status ≡ Done) ⊎ (status ≡ NotAtDay) → IsReadThrough disk
  -- where it was that before, the disk is only read
  pub as_before : (capacity : ℕ) (held : List Record) (is : IsHeld capacity held old) → IsRolled capacity held is.disk → OnlyReadsDisk old new
  -- the answer says whether the list ends with a day, unless the disk fails or memory is short
  pub day : (capacity : ℕ) (held : List Record) → IsHeld capacity held old → is_at_day held ≡ true → IsRollAtDay status
  pub no_day : (capacity : ℕ) (held : List Record) → IsHeld capacity held old → is_at_day held ≡ false → IsRollElsewhere status
  -- nothing is written with any answer but these
  pub unwritten : status ≢ Done → status ≢ DiskFault → OnlyReadsDisk old new
  -- whatever the answer, nothing is sent, and no input is read
  pub sent : new.sent ≡ old.sent
  pub input : new.input ≡ old.input
  pub asks : new.asks ≡ old.asks
  -- memory is short only before the first call of the host, for the last base, at a Trade behind it, or for the base of a list that ends
  -- with a day
  pub short : (capacity : ℕ) (held : List Record) (is : IsHeld capacity held old) → status ≡ NoMemory
      → unbegun ⊎ StarvedAtBase is.disk old.sent new.sent ⊎ StarvedBehind 1 None is.disk held old.sent new.sent ⊎ (is_at_day held ≡ true)
  -- where no header stands it is told, unless the disk fails or memory is short
  pub no_journal : status ≡ NoJournal → (disk : List ℕ) → old.disk ≡ Some disk → HasNoHeader disk
  pub no_header : (disk : List ℕ) → old.disk ≡ Some disk → HasNoHeader disk → TellsNoJournal status
  pub no_header_starved : (disk : List ℕ) → old.disk ≡ Some disk → HasNoHeader disk → status ≡ NoMemory → unbegun
  -- Damage is told where no scan of the journal begins, or at the gate of the first batch behind the last base that has no form or
  -- holds a record that may not follow; or at the last gate that was read, where the new base would be of no lawful list. It is never
  -- told of a lawful list.
  pub damaged : (at : ℕ) → status ≡ Damaged at → (disk : List ℕ) → old.disk ≡ Some disk → HasDamage at disk ⊎ IsUnlawful disk
  pub undamaged : (capacity : ℕ) (held : List Record) → IsHeld capacity held old → (at : ℕ) → status ≢ Damaged at
  pub damage_is_told : (capacity at : ℕ) (base : Option Base) (before : List Record) (disk : List ℕ) → old.disk ≡ Some disk → IsDamagedAt capacity at base before disk → ¬ HasNoHeader disk → TellsDamage at status
  pub damage_is_left : (capacity at : ℕ) (base : Option Base) (before : List Record) (disk : List ℕ) → old.disk ≡ Some disk → IsDamagedAt capacity at base before disk → OnlyReadsDisk old new
  pub damage_short : (capacity at : ℕ) (base : Option Base) (before : List Record) (disk : List ℕ) → old.disk ≡ Some disk → IsDamagedAt capacity at base before disk → status ≡ NoMemory
      → unbegun ⊎ StarvedAtBase disk old.sent new.sent ⊎ StarvedAtRecord 1 (again None base) before old.sent new.sent
  -- a fault is told only where the host met one, and want of memory only where it met none
  pub disk_cause : status ≡ DiskFault → Rose old.disk_faults new.disk_faults
  pub memory : status ≡ NoMemory → NoFault old new
  pub kind : IsRoll status
  pub continues : Continues old new
