-- The parts of telling what a journal holds.
use Rattle.std.specs.Prelude.{◌≡◌, ◌⊎◌, ℕ, List, [], Option, Some, None}
use Rattle.std.specs.Io.KnownBytes.{append_known}
use Rattle.host_core.specs.declared.status.Status.{Status}
use Rattle.host_core.specs.declared.status.Status.TheVariants.{Done, SendFault, NoJournal, NoMemory}
use Rattle.host_core.specs.Outside.{Outside, Elapses, Rose, NoFault}
use Rattle.wire_in.specs.declared.base.Base.{Base}
use Rattle.wire_in.specs.declared.record.Record.{Record}
use Rattle.journal_core.specs.Walk.{HasNoHeader}
use Rattle.engine_core.specs.EngineState.{Represents}
use Rattle.stream_core.specs.Pending.{SendsPrefix}
use Rattle.recovery_core.specs.Ends.{TellsNoJournal}
use Rattle.recovery_core.specs.Damage.{IsDamagedAt}
use Rattle.recovery_core.specs.Origins.{IsReadFrom}
use Rattle.recovery_core.specs.Recoveries.{HasDamage, Hinders, IsReadThrough, OnlyRecovers, SendsAgain, StarvesOn}
use Rattle.recovery_core.specs.Held.{IsHeld}
use Rattle.recovery_core.specs.declared.recovery.Recovery.{Recovery}

-- a text was sent, as far as the status says
pub record Tells (text : List ℕ) (status : Status) (old new : Outside) : Type 0 where
  pub done : status ≡ Done → new.sent ≡ append_known old.sent text
  pub moments : Elapses old new (SendsPrefix old.sent text old)

-- how the sending ended: no memory was needed for it
abbrev pub IsTold : Status → Outside → Outside → Type 0
IsTold Done old new = Unit {0}
IsTold SendFault old new = Rose old.send_faults new.send_faults
IsTold status old new = ⊥

-- a journal was read to its end: where the disk held a lawful list, the engine is that of this list, and nothing was sent
pub record IsGathered (recovery : Recovery) (old new : Outside) : Type 0 where
  pub sound : (disk : List ℕ) → old.disk ≡ Some disk → IsReadThrough disk
  pub represents : (capacity : ℕ) (held : List Record) → IsHeld capacity held old
      → (recovery.scan.capacity ≡ capacity) × Represents recovery.engine recovery.scan.capacity held held
  pub unsent : (capacity : ℕ) (held : List Record) → IsHeld capacity held old → new.sent ≡ old.sent
  pub moments : (base : Option Base) (disk : List ℕ) → old.disk ≡ Some disk → IsReadFrom base disk → SendsAgain None base old.sent disk old new
  pub keeps : OnlyRecovers old new
  pub none : NoFault old new

-- A journal was not read to its end, for this reason, and nothing was sent. Memory was short before the first call of the host,
-- for the last base, or at a record.
pub record IsUngathered (unbegun : Type 0) (status : Status) (old new : Outside) : Type 0 where
  pub moments : (base : Option Base) (disk : List ℕ) → old.disk ≡ Some disk → IsReadFrom base disk → SendsAgain None base old.sent disk old new
  pub damage_moments : (capacity at : ℕ) (base : Option Base) (before : List Record) (disk : List ℕ) → old.disk ≡ Some disk → IsDamagedAt capacity at base before disk → Elapses old new (SendsPrefix old.sent [] old)
  pub no_header : (disk : List ℕ) → old.disk ≡ Some disk → HasNoHeader disk → TellsNoJournal status
  pub no_header_starved : (disk : List ℕ) → old.disk ≡ Some disk → HasNoHeader disk → status ≡ NoMemory → unbegun
  pub unsent : status ≡ NoJournal → new.sent ≡ old.sent
  pub keeps : OnlyRecovers old new
  pub hinders : Hinders (λ at. (disk : List ℕ) → old.disk ≡ Some disk → HasDamage at disk) ((disk : List ℕ) → old.disk ≡ Some disk → HasNoHeader disk)
      (unbegun ⊎ ((disk : List ℕ) → old.disk ≡ Some disk → StarvesOn 1 None old.sent disk new)) status old new
