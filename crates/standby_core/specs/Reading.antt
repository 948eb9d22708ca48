-- A journal that is read batch by batch behind its last base, each record admitted and none evaluated.
use Rattle.std.specs.Prelude.{◌≡◌, ℕ, ◌+◌, ◌≤◌, List, ◌++◌, length, Option}
use Rattle.host_core.specs.Outside.{Outside}
use Rattle.wire_in.specs.declared.base.Base.{Base}
use Rattle.wire_in.specs.declared.record.Record.{Record}
use Rattle.journal_core.specs.Layout.{records_of}
use Rattle.journal_core.specs.Scan.{ScanState, HasRead, IsScanOf}
use Rattle.rulebook.specs.Base.{IsLawfulAfter}
use Rattle.market_core.specs.AdmissionState.{AdmissionState, Stands}
use Rattle.recovery_core.specs.Origins.{origin_of}
use Rattle.recovery_core.specs.Recoveries.{Rests}
use Rattle.standby_core.specs.declared.reading.Reading.{Reading}

-- under this limit an admission has taken these records behind the base, which are lawful there
pub record Admits (capacity : ℕ) (base : Option Base) (accepted : List Record) (admission : AdmissionState) : Type 0 where
  pub limit : admission.capacity ≡ capacity
  pub stands : Stands admission (accepted ++ (origin_of base).list)
  pub count : admission.count ≡ (origin_of base).records + length accepted
  pub lawful : IsLawfulAfter (origin_of base) capacity accepted

-- The scan is of this disk, where it is known. It has counted the records that the admission has taken, and has the same limit, which
-- is that of a journal.
pub record IsInStep (scan : ScanState) (admission : AdmissionState) (known : Option (List ℕ)) : Type 0 where
  pub of_disk : IsScanOf scan known
  pub capacity : scan.capacity ≡ admission.capacity
  pub count : scan.count ≡ admission.count
  pub few : admission.capacity ≤ 2000000000
  pub within : admission.count ≤ admission.capacity

-- these batches behind the last base of a disk that rests were read, and their records admitted
pub record Reads (batches : List (List Record)) (disk : List ℕ) (reading : Reading) (now : Outside) : Type 0 where
  pub rests : Rests disk now
  pub read : HasRead reading.scan batches disk
  pub admits : Admits reading.scan.capacity reading.scan.base (records_of batches) reading.admission
