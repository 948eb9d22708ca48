-- A standby whose journal is opened, and then takes the frames of an input. Private words.
use Rattle.std.specs.Prelude.{◌≡◌, ◌⊎◌, ℕ, ◌<◌, ◌^◌, IsTrue, Option, Some, List, [], length, min, take}
use Rattle.host_core.specs.declared.status.Status.{Status}
use Rattle.host_core.specs.declared.status.Status.TheVariants.{ReadFault, NoMemory}
use Rattle.host_core.specs.Outside.{Outside, Elapses, NoFault, Continues}
use Rattle.host_core.specs.Frames.{OnlyReadsDisk}
use Rattle.wire_in.specs.Cutting.{bodies_of}
use Rattle.wire_in.specs.declared.record.Record.{Record}
use Rattle.journal_core.specs.Extended.{Extends}
use Rattle.journal_core.specs.Journal.{IsOfDisk, Represents}
use Rattle.journal_core.specs.Layout.{Holds}
use Rattle.journal_core.specs.Scan.{HasRead, IsScanOf}
use Rattle.journal_core.specs.Walk.{HasBase, HasNoHeader}
use Rattle.stream_core.specs.Answering as stream
use Rattle.stream_core.specs.Asking.{Prompt}
use Rattle.stream_core.specs.Ends.{IsEnd, end_of}
use Rattle.stream_core.specs.Taking.{ReadsAtMost}
use Rattle.engine_core.specs.Ends.{Told}
use Rattle.recovery_core.specs.Ends.{TellsNoJournal}
use Rattle.recovery_core.specs.Recoveries.{HasDamage, Hinders, IsReadThrough}
use Rattle.standby_core.specs.declared.reading.Reading.{Reading}
use Rattle.standby_core.specs.declared.standing.Standby.{Standby}
use Rattle.standby_core.specs.Reading.{Reads}
use Rattle.standby_core.specs.Rounds.{RoundState}
use Rattle.standby_core.specs.Standing.{Follows, Given, IsReady}
use Rattle.standby_core.specs.StoodBy.{Answered, Begin, Begins, IsSafe, IsUnbegun, replies_to}

-- some batches behind the last base of a disk that rests were read, and their records admitted
pub record IsRead (disk : List ℕ) (reading : Reading) (now : Outside) : Type 0 where
  pub batches : List (List Record)
  pub reads : Reads batches disk reading now

-- a standby over what was read of a journal, with this round
pub record IsFinished (reading : Reading) (round : RoundState) (standby : Standby) : Type 0 where
  pub cutter : standby.cutter ≡ []
  pub admission : standby.admission ≡ reading.admission
  pub gathers : standby.round ≡ round
  pub answered : standby.answered ≡ 0
  pub capacity : standby.journal.capacity ≡ reading.scan.capacity
  pub count : standby.journal.count ≡ reading.scan.count
  pub whole : IsTrue standby.journal.whole
  pub keeps : (batches : List (List Record)) (disk : List ℕ) (capacity : ℕ) (records : List Record) → HasRead reading.scan batches disk → Holds disk capacity records → Represents standby.journal records disk
  pub of_disk : (known : Option (List ℕ)) → IsScanOf reading.scan known → IsOfDisk standby.journal known

-- what is given over an input to a standby that began so
abbrev pub given_of : Begin → List ℕ → ℕ → Given
given_of begin input most = record { capacity = begin.capacity; held = begin.held; begin = Some begin.sent; input = input; most = most }

-- The journal was read to its end, and nothing of the input yet.
pub record IsOpened (standby : Standby) (old new : Outside) : Type 0 where
  pub follows : (begin : Begin) (input : List ℕ) (most : ℕ) → Begins begin input old → Follows (given_of begin input most) 0 [] standby new
  pub ready : (more : ℕ) → more < 2 ^ 62 → IsReady more standby new
  pub sound : (disk : List ℕ) → old.disk ≡ Some disk → IsReadThrough disk
  pub reads : OnlyReadsDisk old new
  pub none : NoFault old new

-- It was not, for this reason: memory was short before the first call of the host, or for the last base.
pub record IsUnopened (unbegun : Type 0) (status : Status) (old new : Outside) : Type 0 where
  pub no_header : (disk : List ℕ) → old.disk ≡ Some disk → HasNoHeader disk → TellsNoJournal status
  pub no_header_starved : (disk : List ℕ) → old.disk ≡ Some disk → HasNoHeader disk → status ≡ NoMemory → unbegun
  pub reads : OnlyReadsDisk old new
  pub hinders : Hinders (λ at. (disk : List ℕ) → old.disk ≡ Some disk → HasDamage at disk) ((disk : List ℕ) → old.disk ≡ Some disk → HasNoHeader disk)
      (unbegun ⊎ ((disk : List ℕ) → old.disk ≡ Some disk → HasBase disk)) status old new

-- a standby follows this input, of which nothing was read
abbrev pub HasBegun : Begin → List ℕ → ℕ → Standby → Outside → Type 0
HasBegun begin input most standby now = stream.HasRead (λ count waiting later. Follows (given_of begin input most) count waiting standby later) input 0 [] now

-- what was replied to the frames of this input, up to so many bytes
pub record Takes (begin : Begin) (input : List ℕ) (most : ℕ) (status : Status) (old new : Outside) : Type 0 where
  pub exact : IsEnd status → (status ≡ end_of most input) × Answered begin input (min most (length input)) new
  pub unread : status ≡ ReadFault → (count : ℕ) × (count < most) × Answered begin input count new
  pub prompt : Prompt (λ read. replies_to begin (bodies_of read)) (Some begin.sent) input old.asks new.asks

-- The input was taken, up to so many bytes.
pub record HasTaken (most : ℕ) (standby : Standby) (status : Status) (old new : Outside) : Type 0 where
  pub moments : (begin : Begin) (input : List ℕ) → HasBegun begin input most standby old → Elapses old new (IsSafe begin (bodies_of (take most input)))
  pub takes : (begin : Begin) (input : List ℕ) → HasBegun begin input most standby old → Takes begin input most status old new
  pub extends : Extends standby.round.most old new
  pub bytes : ReadsAtMost most old.input new.input
  pub continues : Continues old new
  pub begun : ¬ IsUnbegun status
  pub told : Told status old new
