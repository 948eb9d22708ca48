-- How a command on a journal ends.
use Rattle.std.specs.Prelude.{◌≡◌, ◌⊎◌, ℕ, List, [], Some}
use Rattle.host_core.specs.declared.status.Status.{Status}
use Rattle.host_core.specs.declared.status.Status.TheVariants as statuses
use Rattle.host_core.specs.Outside.{Outside, Elapses, Changes, Torn, IsSettled, Rose}
use Rattle.host_core.specs.Frames.{OnlyWrites}
use Rattle.journal_core.specs.declared.error.ScanError.{ScanError}
use Rattle.journal_core.specs.declared.error.ScanError.TheVariants.{NoMemory, DiskFault, NoJournal, Damaged}
use Rattle.journal_core.specs.Layout.{Holds}

-- the status of a run that could not read its journal
abbrev pub scan_status : ScanError → Status
scan_status NoMemory = statuses.NoMemory
scan_status DiskFault = statuses.DiskFault
scan_status NoJournal = statuses.NoJournal
scan_status (Damaged at) = statuses.Damaged at

-- an empty journal was made, or the disk failed, and nothing was read or sent
pub record Formatted (capacity : ℕ) (status : Status) (old new : Outside) : Type 0 where
  pub kind : (status ≡ statuses.Done) ⊎ (status ≡ statuses.DiskFault)
  pub stored : status ≡ statuses.Done → (disk : List ℕ) → new.disk ≡ Some disk → Holds disk capacity []
  pub settled : status ≡ statuses.Done → IsSettled new
  pub moments : Elapses old new (Changes (Torn 0 17) old)
  pub keeps : OnlyWrites old new
  pub disk_cause : status ≡ statuses.DiskFault → Rose old.disk_faults new.disk_faults
  pub faultless : status ≡ statuses.Done → new.disk_faults ≡ old.disk_faults
