-- The parts of sending the records of a journal.
use Rattle.std.specs.Prelude.{◌≡◌, ◌⊎◌, ℕ, List, Option, Some}
use Rattle.host_core.specs.declared.status.Status.{Status}
use Rattle.host_core.specs.declared.status.Status.TheVariants.{NoJournal, NoMemory}
use Rattle.host_core.specs.Outside.{Outside, Elapses, NoFault}
use Rattle.wire_in.specs.declared.base.Base.{Base}
use Rattle.wire_in.specs.declared.record.Record.{Record}
use Rattle.journal_core.specs.Layout.{records_of}
use Rattle.journal_core.specs.Scan.{records_before}
use Rattle.journal_core.specs.Walk.{HasBase, HasNoHeader}
use Rattle.stream_core.specs.Pending.{Expects, SendsPrefix}
use Rattle.recovery_core.specs.Damage.{IsDamagedAt}
use Rattle.recovery_core.specs.Ends.{TellsNoJournal}
use Rattle.recovery_core.specs.Origins.{IsReadFrom}
use Rattle.recovery_core.specs.Recoveries.{Covers, HasDamage, Hinders, OnlyRecovers}
use Rattle.standby_core.specs.declared.reading.Reading.{Reading}
use Rattle.standby_core.specs.Reading.{Reads}
use Rattle.standby_core.specs.Shipped.{ShipsThrough, parts_behind}

-- of each list that covers the disk behind this base, a prefix was sent of the Parts that are asked for
abbrev pub Ships : ℕ → Option Base → Option (List ℕ) → List ℕ → Outside → Outside → Type 0
Ships from base begin disk old new = (all : List Record) → Covers base disk all → Elapses old new (SendsPrefix begin (parts_behind (records_before base) from all) old)

-- some batches behind the last base of a disk were read, and the Parts of their records are expected that are asked for
pub record HasShipped (from : ℕ) (begin : Option (List ℕ)) (disk : List ℕ) (reading : Reading) (outbox : List ℕ) (now : Outside) : Type 0 where
  pub batches : List (List Record)
  pub reads : Reads batches disk reading now
  pub pending_is : Expects begin now.sent outbox (parts_behind (records_before reading.scan.base) from (records_of batches))

-- the records of a journal were sent, to the last
pub record IsShipped (from : ℕ) (old new : Outside) : Type 0 where
  pub sound : (disk : List ℕ) → old.disk ≡ Some disk → ShipsThrough from disk old new
  pub moments : (base : Option Base) (disk : List ℕ) → old.disk ≡ Some disk → IsReadFrom base disk → Ships from base old.sent disk old new
  pub keeps : OnlyRecovers old new
  pub none : NoFault old new

-- they were not, for this reason; memory was short before the first call of the host, or for the last base
pub record IsUnshipped (unbegun : Type 0) (from : ℕ) (status : Status) (old new : Outside) : Type 0 where
  pub moments : (base : Option Base) (disk : List ℕ) → old.disk ≡ Some disk → IsReadFrom base disk → Ships from base old.sent disk old new
  pub damage_moments : (capacity at : ℕ) (base : Option Base) (before : List Record) (disk : List ℕ) → old.disk ≡ Some disk → IsDamagedAt capacity at base before disk
      → Elapses old new (SendsPrefix old.sent (parts_behind (records_before base) from before) old)
  pub no_header : (disk : List ℕ) → old.disk ≡ Some disk → HasNoHeader disk → TellsNoJournal status
  pub no_header_starved : (disk : List ℕ) → old.disk ≡ Some disk → HasNoHeader disk → status ≡ NoMemory → unbegun
  pub unsent : status ≡ NoJournal → new.sent ≡ old.sent
  pub starved : status ≡ NoMemory → new.sent ≡ old.sent
  pub keeps : OnlyRecovers old new
  pub hinders : Hinders (λ at. (disk : List ℕ) → old.disk ≡ Some disk → HasDamage at disk) ((disk : List ℕ) → old.disk ≡ Some disk → HasNoHeader disk)
      (unbegun ⊎ ((disk : List ℕ) → old.disk ≡ Some disk → HasBase disk)) status old new
