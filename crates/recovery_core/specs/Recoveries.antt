-- What is kept while a journal is read, and what it represents.
use Rattle.std.specs.Prelude.{◌≡◌, ◌≢◌, ◌⊎◌, ℕ, ◌+◌, ◌*◌, ◌≤◌, List, [], ◌∷◌, ◌++◌, length, Option, Some, None}
use Rattle.host_core.specs.declared.status.Status.{Status}
use Rattle.host_core.specs.declared.status.Status.TheVariants.{SendFault, DiskFault, Damaged, NoJournal, NoMemory}
use Rattle.host_core.specs.Outside.{Outside, Elapses, IsSettled, Rose, NoFault, Continues}
use Rattle.wire_in.specs.declared.base.Base.{Base}
use Rattle.wire_in.specs.declared.record.Record.{Record}
use Rattle.journal_core.specs.Layout.{Holds, records_of, with_batch}
use Rattle.journal_core.specs.Scan.{ScanState, HasRead, IsScanOf, LeadsTo, records_before}
use Rattle.rulebook.specs.Admission.{IsLawful}
use Rattle.rulebook.specs.Base.{IsLawfulAfter, messages_after, verdict_after}
use Rattle.evaluator_core.specs.Evaluating.{IsAhead, IsIdle, IsWorking}
use Rattle.engine_core.specs.declared.engine.Engine.{Engine}
use Rattle.engine_core.specs.EngineState.{Stands, IsRoomy}
use Rattle.stream_core.specs.Pending.{Expects, SendsPrefix}
use Rattle.recovery_core.specs.Damage.{IsDamagedAt}
use Rattle.recovery_core.specs.Origins.{IsPast, IsReadFrom, again, newest_of, origin_of}
use Rattle.recovery_core.specs.Starved.{StarvedAtBase, StarvedAtRecord}
use Rattle.recovery_core.specs.declared.recovery.Recovery.{Recovery}

-- an engine that accepted what it evaluated, and maybe more, within the capacity of a journal
pub record IsSmall (engine : Engine) : Type 0 where
  pub range : engine.admission.capacity ≤ 2000000000
  pub within : engine.admission.count ≤ engine.admission.capacity
  pub evaluated : engine.evaluated ≤ engine.admission.count
  pub few : engine.published ≤ 262146 * engine.evaluated

-- Behind the base an engine has accepted these records, which are lawful there, and has evaluated those: it stands for them behind each
-- list that may stand before them.
pub record Admits (capacity : ℕ) (base : Option Base) (accepted evaluated : List Record) (engine : Engine) : Type 0 where
  pub stands : (past : List Record) → IsPast base past → Stands engine capacity (accepted ++ past) (evaluated ++ past)
  pub count : engine.admission.count ≡ (origin_of base).records + length accepted
  pub evaluated_is : engine.evaluated ≡ (origin_of base).records + length evaluated
  pub published : engine.published ≡ (origin_of base).messages + length (messages_after (origin_of base) evaluated)
  pub lawful : IsLawfulAfter (origin_of base) capacity accepted

-- an engine of what stands before a scan that reads behind this base, under its limit
pub record IsBefore (capacity : ℕ) (base : Option Base) (engine : Engine) : Type 0 where
  pub admits : Admits capacity base [] [] engine
  pub limit : engine.admission.capacity ≡ capacity
  pub count : engine.admission.count ≡ records_before base
  pub all : engine.evaluated ≡ engine.admission.count
  pub small : IsSmall engine

-- Behind the base an engine has accepted these records, and has evaluated all but those that wait, the oldest first. The messages are
-- expected that are asked for again of what it has evaluated. Where there are several workers, these are evaluated ahead.
pub record Resumes (from : Option ℕ) (capacity : ℕ) (base : Option Base) (accepted waiting prepared : List Record) (begin : Option (List ℕ)) (engine : Engine) (outbox : List ℕ) (now : Outside) : Type 0 where
  pub held : List Record
  pub whole : with_batch held waiting ≡ accepted
  pub admits : Admits capacity base accepted held engine
  pub ahead : IsAhead engine.evaluator prepared
  pub pending_is : Expects begin now.sent outbox (again from base held)

-- these records stand behind others in a list
pub record IsPart (records all : List Record) : Type 0 where
  pub more : List Record
  pub whole : more ++ records ≡ all

-- wherever batches stand behind this last base of the disk and the first of their records are lawful there, these stand in the list
abbrev pub Covers : Option Base → List ℕ → List Record → Type 0
Covers base disk all = (capacity gate : ℕ) (batches : List (List Record)) (rest : List ℕ) (records : List Record) → LeadsTo capacity gate base batches disk rest
    → IsPart records (records_of batches) → IsLawfulAfter (origin_of base) capacity records → IsPart records all

-- of each list that covers the disk, a prefix was sent of the messages that are asked for again
abbrev pub SendsAgain : Option ℕ → Option Base → Option (List ℕ) → List ℕ → Outside → Outside → Type 0
SendsAgain from base begin disk old new = (all : List Record) → Covers base disk all → Elapses old new (SendsPrefix begin (again from base all) old)

-- in each list that covers the disk, memory was short behind some of its first records
abbrev pub StarvesAgain : ℕ → Option ℕ → Option Base → Option (List ℕ) → List ℕ → Outside → Type 0
StarvesAgain workers from base begin disk new = (all : List Record) → Covers base disk all → StarvedAtRecord workers (again from base) all begin new.sent

-- memory was short for the last base of the disk, or behind it
abbrev pub StarvesOn : ℕ → Option ℕ → Option (List ℕ) → List ℕ → Outside → Type 0
StarvesOn workers from begin disk new = StarvedAtBase disk begin new.sent ⊎ ((base : Option Base) × IsReadFrom base disk × StarvesAgain workers from base begin disk new)

-- The scan is of this disk, where it is known, and has counted the records that the engine has accepted. It has room, and has
-- evaluated all but so many of them.
pub record IsReading (scan : ScanState) (engine : Engine) (waiting : ℕ) (known : Option (List ℕ)) : Type 0 where
  pub of_disk : IsScanOf scan known
  pub capacity : scan.capacity ≡ engine.admission.capacity
  pub count : scan.count ≡ engine.admission.count
  pub small : IsSmall engine
  pub all : engine.admission.count ≡ engine.evaluated + waiting
  pub roomy : IsRoomy engine

-- nothing is pending on this disk
pub record Rests (disk : List ℕ) (now : Outside) : Type 0 where
  pub known : now.disk ≡ Some disk
  pub settled : IsSettled now

-- some batches behind the last base of a disk that rests were read, their records evaluated, for which there was memory, and this text
-- is expected for them
pub record Recovers (text : Option Base → List Record → List ℕ) (begin : Option (List ℕ)) (disk : List ℕ) (recovery : Recovery) (now : Outside) : Type 0 where
  pub rests : Rests disk now
  pub batches : List (List Record)
  pub read : HasRead recovery.scan batches disk
  pub admits : Admits recovery.scan.capacity recovery.scan.base (records_of batches) (records_of batches) recovery.engine
  pub idle : IsIdle recovery.engine.evaluator
  pub working : IsWorking recovery.engine.evaluator
  pub pending_is : Expects begin now.sent recovery.outbox (text recovery.scan.base (records_of batches))
  pub newest_is : recovery.newest ≡ newest_of recovery.scan.base (records_of batches)

-- some batches behind the last base of a disk that rests were read, and of their records some wait; for the others there was memory
pub record Gathers (from : Option ℕ) (begin : Option (List ℕ)) (disk : List ℕ) (recovery : Recovery) (now : Outside) : Type 0 where
  pub rests : Rests disk now
  pub batches : List (List Record)
  pub read : HasRead recovery.scan batches disk
  pub resumes : Resumes from recovery.scan.capacity recovery.scan.base (records_of batches) recovery.waiting.records [] begin recovery.engine recovery.outbox now
  pub working : IsWorking recovery.engine.evaluator
  pub newest_is : recovery.newest ≡ newest_of recovery.scan.base (records_of batches)

-- behind the base and these records, the first of some more are lawful, up to one that may not follow
pub record Refuses (capacity : ℕ) (base : Option Base) (accepted records : List Record) : Type 0 where
  pub good : List Record
  pub bad : Record
  pub later : List Record
  pub parts : good ++ bad ∷ later ≡ records
  pub lawful : IsLawfulAfter (origin_of base) capacity (with_batch accepted good)
  pub refused : verdict_after (origin_of base) capacity (with_batch accepted good) bad ≢ None

-- the journal is read, and messages are sent
pub record OnlyRecovers (old new : Outside) : Type 0 where
  pub input : new.input ≡ old.input
  pub asks : new.asks ≡ old.asks
  pub disk : new.disk ≡ old.disk
  pub continues : Continues old new

-- the disk is damaged there
abbrev pub HasDamage : ℕ → List ℕ → Type 0
HasDamage at disk = (capacity : ℕ) × (base : Option Base) × (before : List Record) × IsDamagedAt capacity at base before disk

-- The disk was read to its end: behind its last base batches stand whose records are lawful there, and then a closed gate. Where it
-- has no base, it holds these records.
pub record IsReadThrough (disk : List ℕ) : Type 0 where
  pub capacity : ℕ
  pub gate : ℕ
  pub base : Option Base
  pub batches : List (List Record)
  pub rest : List ℕ
  pub leads : LeadsTo capacity gate base batches disk (0 ∷ rest)
  pub lawful : IsLawfulAfter (origin_of base) capacity (records_of batches)
  pub whole : base ≡ None → Holds disk capacity (records_of batches) × IsLawful capacity (records_of batches)

-- Why a journal was not read to its end: a fault whose count rose, or another reason, and then no count rose. Damage there
-- and the want of a journal say this of the disk, and want of memory says this.
abbrev pub Hinders : (ℕ → Type 0) → Type 0 → Type 0 → Status → Outside → Outside → Type 0
Hinders damaged missing starved SendFault old new = Rose old.send_faults new.send_faults
Hinders damaged missing starved DiskFault old new = Rose old.disk_faults new.disk_faults
Hinders damaged missing starved NoMemory old new = NoFault old new × starved
Hinders damaged missing starved NoJournal old new = NoFault old new × missing
Hinders damaged missing starved (Damaged at) old new = NoFault old new × damaged at
Hinders damaged missing starved status old new = ⊥
