-- What is sent of a journal to a standby, and what the command that sends it did, whatever its answer.
use Rattle.std.specs.Prelude.{◌≡◌, ◌≢◌, ◌⊎◌, ℕ, ◌+◌, max, nat_le, if◌then◌else◌, List, [], ◌∷◌, ◌++◌, length, Option, Some}
use Rattle.std.specs.Io.KnownBytes.{append_known}
use Rattle.host_core.specs.declared.status.Status.{Status}
use Rattle.host_core.specs.declared.status.Status.TheVariants.{Done, SendFault, DiskFault, Damaged, NoJournal, NoMemory}
use Rattle.host_core.specs.Outside.{Outside, Elapses, Rose, NoFault, Continues}
use Rattle.wire_in.specs.declared.base.Base.{Base}
use Rattle.wire_in.specs.declared.record.Record.{Record}
use Rattle.journal_core.specs.Layout.{records_of}
use Rattle.journal_core.specs.Scan.{records_before}
use Rattle.journal_core.specs.Walk.{HasNoHeader}
use Rattle.stream_core.specs.Pending.{SendsPrefix, SentPrefix}
use Rattle.recovery_core.specs.Damage.{IsDamagedAt}
use Rattle.recovery_core.specs.Ends.{TellsNoJournal, TellsDamage}
use Rattle.recovery_core.specs.Held.{IsHeld}
use Rattle.recovery_core.specs.Origins.{IsReadFrom}
use Rattle.recovery_core.specs.Recoveries.{IsReadThrough}
use Rattle.recovery_core.specs.Starved.{StarvedAtBase}
use Rattle.standby_core.specs.Parts.{part_bytes}

-- the Part of the record of a number, where that is at least from
abbrev pub part_at : ℕ → ℕ → Record → List ℕ
part_at from number x = if nat_le from number then part_bytes number x else []

-- Of records behind so many others, the newest first: the Parts of those with a number of at least from, in rising order. The number
-- of a record is how many there are up to it.
abbrev pub parts_behind : ℕ → ℕ → List Record → List ℕ
parts_behind before from [] = []
parts_behind before from (x ∷ earlier) = parts_behind before from earlier ++ part_at from (before + length (x ∷ earlier)) x

-- the same of a list from its begin
abbrev pub parts_from : ℕ → List Record → List ℕ
parts_from from held = parts_behind 0 from held

-- of a list that begins with the records of this base, the Parts that are asked for of those behind it
abbrev pub shipped : ℕ → Option Base → List Record → List ℕ
shipped from base held = parts_from (max from (records_before base + 1)) held

-- the disk was read to its end, and exactly the Parts that are asked for of what stands behind its last base were sent
pub record ShipsThrough (from : ℕ) (disk : List ℕ) (old new : Outside) : Type 0 where
  pub through : IsReadThrough disk
  pub sent : new.sent ≡ append_known old.sent (parts_behind (records_before through.base) from (records_of through.batches))

-- the answers of the command
abbrev pub IsShipment : Status → Type 0
IsShipment Done = Unit {0}
IsShipment SendFault = Unit {0}
IsShipment DiskFault = Unit {0}
IsShipment (Damaged at) = Unit {0}
IsShipment NoJournal = Unit {0}
IsShipment NoMemory = Unit {0}
IsShipment _ = ⊥

-- the records of a journal were sent; what says that no call of the host was made is given
pub record Shipped (unbegun : Type 0) (from : ℕ) (status : Status) (old new : Outside) : Type 0 where
  -- where all went well, exactly the Parts were sent that are asked for of the records behind the last base
  pub exact : (capacity : ℕ) (held : List Record) (is : IsHeld capacity held old) (base : Option Base) → IsReadFrom base is.disk → status ≡ Done → new.sent ≡ append_known old.sent (shipped from base held)
  pub sound : (disk : List ℕ) → old.disk ≡ Some disk → status ≡ Done → ShipsThrough from disk old new
  -- whenever the run is stopped, and at its end, a prefix of them was sent, and what the disk may be left with is as before
  pub moments : (capacity : ℕ) (held : List Record) (is : IsHeld capacity held old) (base : Option Base) → IsReadFrom base is.disk → Elapses old new (SendsPrefix old.sent (shipped from base held) old)
  pub part : (capacity : ℕ) (held : List Record) (is : IsHeld capacity held old) (base : Option Base) → IsReadFrom base is.disk → SentPrefix old.sent new.sent (shipped from base held)
  -- memory is short only before the first call of the host or for the last base, and nothing was sent
  pub short : (disk : List ℕ) → old.disk ≡ Some disk → status ≡ NoMemory → unbegun ⊎ StarvedAtBase disk old.sent new.sent
  pub starved : status ≡ NoMemory → new.sent ≡ old.sent
  -- where no header stands it is told, unless the disk fails or memory is short, and nothing is sent
  pub no_journal : status ≡ NoJournal → (disk : List ℕ) → old.disk ≡ Some disk → HasNoHeader disk
  pub no_header : (disk : List ℕ) → old.disk ≡ Some disk → HasNoHeader disk → TellsNoJournal status
  pub no_header_starved : (disk : List ℕ) → old.disk ≡ Some disk → HasNoHeader disk → status ≡ NoMemory → unbegun
  pub unsent : status ≡ NoJournal → new.sent ≡ old.sent
  -- Damage is told where no scan of the journal begins, or at the gate of the first batch behind the last base that has no form or
  -- holds a record that may not follow, never of a lawful list. A prefix was sent of the Parts of the records before it.
  pub damaged : (at : ℕ) → status ≡ Damaged at → (disk : List ℕ) → old.disk ≡ Some disk
      → (capacity : ℕ) × (base : Option Base) × (before : List Record) × IsDamagedAt capacity at base before disk
  pub undamaged : (capacity : ℕ) (held : List Record) → IsHeld capacity held old → (at : ℕ) → status ≢ Damaged at
  pub damage_is_told : (capacity at : ℕ) (base : Option Base) (before : List Record) (disk : List ℕ) → old.disk ≡ Some disk → IsDamagedAt capacity at base before disk → ¬ HasNoHeader disk → TellsDamage at status
  pub damage_moments : (capacity at : ℕ) (base : Option Base) (before : List Record) (disk : List ℕ) → old.disk ≡ Some disk → IsDamagedAt capacity at base before disk
      → Elapses old new (SendsPrefix old.sent (parts_behind (records_before base) from before) old)
  pub damage_part : (capacity at : ℕ) (base : Option Base) (before : List Record) (disk : List ℕ) → old.disk ≡ Some disk → IsDamagedAt capacity at base before disk
      → SentPrefix old.sent new.sent (parts_behind (records_before base) from before)
  -- whatever the answer, nothing is written, and no input is read
  pub disk : new.disk ≡ old.disk
  pub input : new.input ≡ old.input
  pub asks : new.asks ≡ old.asks
  -- a fault is told only where the host met one, and want of memory only where it met none
  pub send_cause : status ≡ SendFault → Rose old.send_faults new.send_faults
  pub disk_cause : status ≡ DiskFault → Rose old.disk_faults new.disk_faults
  pub memory : status ≡ NoMemory → NoFault old new
  pub kind : IsShipment status
  pub continues : Continues old new
