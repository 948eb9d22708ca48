-- The parts of adding a base to a journal.
use Rattle.std.specs.Prelude.{◌≡◌, ◌≢◌, ◌⊎◌, ℕ, true, false, IsTrue, List, ◌∷◌, Option, Some, None}
use Rattle.host_core.specs.declared.status.Status.{Status}
use Rattle.host_core.specs.declared.status.Status.TheVariants.{Done, SendFault, DiskFault, Damaged, NoMemory, NotAtDay}
use Rattle.host_core.specs.Outside.{Outside, Agrees, Elapses, Rose, NoFault}
use Rattle.host_core.specs.Frames.{OnlyReadsDisk, OnlyWrites}
use Rattle.wire_in.specs.Bases.{IsInRange}
use Rattle.wire_in.specs.declared.base.Base.{Base}
use Rattle.wire_in.specs.declared.record.Record.{Record}
use Rattle.wire_in.specs.Records.{is_day}
use Rattle.journal_core.specs.Journal.{JournalState, IsAtRest, Represents}
use Rattle.journal_core.specs.Layout.{Holds}
use Rattle.journal_core.specs.Scan.{HasRead, is_rolled}
use Rattle.journal_core.specs.Walk.{HasNoHeader}
use Rattle.rulebook.specs.Base.{base_of}
use Rattle.engine_core.specs.declared.engine.Engine.{Engine}
use Rattle.engine_core.specs.EngineState as engines
use Rattle.evaluator_core.specs.Evaluating.{workers_of}
use Rattle.recovery_core.specs.declared.recovery.Recovery.{Recovery}
use Rattle.recovery_core.specs.Ends.{TellsNoJournal}
use Rattle.recovery_core.specs.Held.{IsHeld}
use Rattle.recovery_core.specs.Origins.{again}
use Rattle.recovery_core.specs.Recoveries.{HasDamage, Hinders, IsReading, Recovers, StarvesOn}
use Rattle.roll_core.specs.Rolled.{IsRolled, is_at_day}

-- a journal was read to its end by one worker, and nothing was sent
pub record IsGathered (recovery : Recovery) (old new : Outside) : Type 0 where
  pub closed : IsTrue recovery.scan.is_closed
  pub reading : IsReading recovery.scan recovery.engine 0 new.disk
  pub alone : workers_of recovery.engine.evaluator ≡ 1
  pub recovers : (disk : List ℕ) → old.disk ≡ Some disk → Recovers (again None) old.sent disk recovery new
  pub reads : OnlyReadsDisk old new
  pub none : NoFault old new

-- A journal was not read to its end, for this reason, and nothing was sent. Memory was short before the first call of the host,
-- for the last base, or at a record.
pub record IsUngathered (unbegun : Type 0) (status : Status) (old new : Outside) : Type 0 where
  pub no_header : (disk : List ℕ) → old.disk ≡ Some disk → HasNoHeader disk → TellsNoJournal status
  pub no_header_starved : (disk : List ℕ) → old.disk ≡ Some disk → HasNoHeader disk → status ≡ NoMemory → unbegun
  pub unsent : status ≢ SendFault
  pub reads : OnlyReadsDisk old new
  pub hinders : Hinders (λ at. (disk : List ℕ) → old.disk ≡ Some disk → HasDamage at disk) ((disk : List ℕ) → old.disk ≡ Some disk → HasNoHeader disk)
      (unbegun ⊎ ((disk : List ℕ) → old.disk ≡ Some disk → StarvesOn 1 None old.sent disk new)) status old new

-- what is made as the base of the records of an engine, of which this day is the last one
pub record IsBaseFor (engine : Engine) (day : Record) (base : Base) : Type 0 where
  pub of_list : (capacity : ℕ) (earlier : List Record) → is_day day ≡ true → engines.Represents engine capacity (day ∷ earlier) (day ∷ earlier) → base_of (day ∷ earlier) ≡ Some base
  pub records_are : base.records ≡ engine.evaluated

-- room for it, or none where it is outside its ranges
abbrev pub IsRoomFor : Engine → Record → Option Base → Type 0
IsRoomFor engine day None = (base : Base) × IsBaseFor engine day base × (IsInRange base → ⊥)
IsRoomFor engine day (Some base) = IsBaseFor engine day base

-- how it ended: the disk failed, or no fault was met
abbrev pub IsAdded : Status → Outside → Outside → Type 0
IsAdded DiskFault old new = Rose old.disk_faults new.disk_faults
IsAdded Done old new = NoFault old new
IsAdded NotAtDay old new = NoFault old new
IsAdded NoMemory old new = NoFault old new
IsAdded (Damaged at) old new = NoFault old new
IsAdded status old new = ⊥

-- this base was added to a journal, or the disk failed
pub record AddsBase (journal : JournalState) (base : Base) (status : Status) (old new : Outside) : Type 0 where
  pub moments : (held : List Record) → IsAtRest journal held old → base_of held ≡ Some base → Elapses old new (λ image bytes. Holds image journal.capacity held × Agrees old.sent bytes)
  pub done : status ≡ Done → (held : List Record) → IsAtRest journal held old → base_of held ≡ Some base
      → (next : JournalState) × (next.capacity ≡ journal.capacity) × (next.rolled ≡ true) × IsAtRest next held new
  pub kind : (status ≡ Done) ⊎ (status ≡ DiskFault)
  pub keeps : OnlyWrites old new
  pub ends : IsAdded status old new

-- all records of the disk were read, which holds this lawful list, and nothing is pending
pub record IsAllRead (capacity : ℕ) (held : List Record) (recovery : Recovery) (now : Outside) : Type 0 where
  pub is_held : IsHeld capacity held now
  pub begin : Option (List ℕ)
  pub recovers : Recovers (again None) begin is_held.disk recovery now

-- the reading of a journal has ended: its engine, and the journal that it leaves
pub record IsFinished (recovery : Recovery) (engine : Engine) (journal : JournalState) : Type 0 where
  pub engine_is : recovery.engine ≡ engine
  pub closed : IsTrue recovery.scan.is_closed
  pub limit : journal.capacity ≡ recovery.scan.capacity
  pub rolled_is : journal.rolled ≡ is_rolled recovery.scan.base recovery.scan.count
  pub keeps : (batches : List (List Record)) (disk : List ℕ) (capacity : ℕ) (records : List Record) → HasRead recovery.scan batches disk → Holds disk capacity records → Represents journal records disk

-- what was added to a journal that was read to its end
pub record Adds (recovery : Recovery) (status : Status) (old new : Outside) : Type 0 where
  pub moments : (capacity : ℕ) (held : List Record) → IsAllRead capacity held recovery old → Elapses old new (λ image bytes. Holds image capacity held × Agrees old.sent bytes)
  pub exact : (capacity : ℕ) (held : List Record) → IsAllRead capacity held recovery old → status ≡ Done → (disk : List ℕ) → new.disk ≡ Some disk → IsRolled capacity held disk
  pub again : (capacity : ℕ) (held : List Record) (all : IsAllRead capacity held recovery old) → IsRolled capacity held all.is_held.disk → OnlyReadsDisk old new
  pub day : (capacity : ℕ) (held : List Record) → IsAllRead capacity held recovery old → status ≢ NotAtDay → is_at_day held ≡ true
  pub no_day : (capacity : ℕ) (held : List Record) → IsAllRead capacity held recovery old → status ≡ NotAtDay → is_at_day held ≡ false
  pub undamaged : (capacity : ℕ) (held : List Record) → IsAllRead capacity held recovery old → (at : ℕ) → status ≢ Damaged at
  pub unwritten : status ≢ Done → status ≢ DiskFault → OnlyReadsDisk old new
  pub keeps : OnlyWrites old new
  pub ends : IsAdded status old new
