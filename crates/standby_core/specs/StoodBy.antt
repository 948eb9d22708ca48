-- What a standby did, whatever its answer.
use Rattle.std.specs.Prelude.{◌≡◌, ◌≢◌, ◌⊎◌, ℕ, ◌<◌, ◌≤◌, List, ◌++◌, length, min, take, drop, Option, Some}
use Rattle.host_core.specs.declared.status.Status.{Status}
use Rattle.host_core.specs.declared.status.Status.TheVariants.{Done, Truncated, ReadFault, SendFault, DiskFault, SessionFull, Damaged, NoJournal, NoMemory}
use Rattle.host_core.specs.Outside.{Outside, Agrees, MayLeave, Elapses, Ends, IsSettled, Rose, NoFault, Continues}
use Rattle.wire_in.specs.Cutting.{bodies_of}
use Rattle.wire_in.specs.declared.base.Base.{Base}
use Rattle.wire_in.specs.declared.record.Record.{Record}
use Rattle.journal_core.specs.Extended.{Extends}
use Rattle.journal_core.specs.Layout.{Holds}
use Rattle.journal_core.specs.Walk.{HasNoHeader}
use Rattle.rulebook.specs.Admission.{IsLawful}
use Rattle.stream_core.specs.Asking.{Prompt}
use Rattle.stream_core.specs.Ends.{IsEnd, end_of}
use Rattle.stream_core.specs.Pending.{SentPrefix}
use Rattle.stream_core.specs.Taking.{ReadsAtMost}
use Rattle.recovery_core.specs.Damage.{IsDamagedAt}
use Rattle.recovery_core.specs.Ends.{TellsNoJournal, TellsDamage}
use Rattle.recovery_core.specs.Recoveries.{HasDamage}
use Rattle.recovery_core.specs.Starved.{StarvedAtBase}
use Rattle.standby_core.specs.Kept.{kept, replies}

-- A standby begins with the records that its journal holds, the newest first, under a limit, and the bytes that were sent before.
pub record Begin : Type 0 where
  pub capacity : ℕ
  pub held : List Record
  pub sent : List ℕ

-- a host exposes an input, what was sent, and a disk that holds a lawful list of records under a limit
pub record Begins (begin : Begin) (input : List ℕ) (now : Outside) : Type 0 where
  pub input_known : now.input ≡ Some input
  pub sent_known : now.sent ≡ Some begin.sent
  pub disk : List ℕ
  pub disk_known : now.disk ≡ Some disk
  pub holds : Holds disk begin.capacity begin.held
  pub lawful : IsLawful begin.capacity begin.held

-- what is held after the frames of these bodies
abbrev pub held_after : Begin → List (List ℕ) → List Record
held_after begin bodies = kept begin.capacity begin.held bodies

-- what is sent for them
abbrev pub replies_to : Begin → List (List ℕ) → List ℕ
replies_to begin bodies = replies begin.capacity 1 begin.held bodies

-- For some number of the first frames, the image holds what is held after them, and since the begin a prefix of the replies to them
-- was sent.
pub record IsSafe (begin : Begin) (bodies : List (List ℕ)) (image bytes : List ℕ) : Type 0 where
  pub count : ℕ
  pub within : count ≤ length bodies
  pub holds : Holds image begin.capacity (held_after begin (take count bodies))
  pub since : List ℕ
  pub unsent : List ℕ
  pub sent : bytes ≡ begin.sent ++ since
  pub prefix : since ++ unsent ≡ replies_to begin (take count bodies)

-- nothing was sent since the begin, and a stop there might have left the image
pub record IsPending (start : Outside) (begin : Begin) (image bytes : List ℕ) : Type 0 where
  pub was : MayLeave start image
  pub unsent : bytes ≡ begin.sent

abbrev pub IsSafeOrPending : Outside → Begin → List (List ℕ) → List ℕ → List ℕ → Type 0
IsSafeOrPending start begin bodies image bytes = IsSafe begin bodies image bytes ⊎ IsPending start begin image bytes

-- So many bytes of the input were read, the replies to all whole frames among them were sent, nothing is pending, and the disk holds what
-- is held after these frames.
pub record Answered (begin : Begin) (input : List ℕ) (count : ℕ) (now : Outside) : Type 0 where
  pub input_left : now.input ≡ Some (drop count input)
  pub there : count ≤ length input
  pub sent : now.sent ≡ Some (begin.sent ++ replies_to begin (bodies_of (take count input)))
  pub settled : IsSettled now
  pub holds : (disk : List ℕ) → now.disk ≡ Some disk → Holds disk begin.capacity (held_after begin (bodies_of (take count input)))

-- the answers of the command
abbrev pub IsAnswer : Status → Type 0
IsAnswer Done = Unit {0}
IsAnswer Truncated = Unit {0}
IsAnswer ReadFault = Unit {0}
IsAnswer SendFault = Unit {0}
IsAnswer DiskFault = Unit {0}
IsAnswer SessionFull = Unit {0}
IsAnswer (Damaged at) = Unit {0}
IsAnswer NoJournal = Unit {0}
IsAnswer NoMemory = Unit {0}
IsAnswer _ = ⊥

-- no frame was answered: there is no journal, it is damaged, or memory was short
abbrev pub IsUnbegun : Status → Type 0
IsUnbegun NoJournal = Unit {0}
IsUnbegun (Damaged at) = Unit {0}
IsUnbegun NoMemory = Unit {0}
IsUnbegun _ = ⊥

-- nothing of the input was read, nothing was sent, the disk has what it had, and a stop meanwhile left it so
pub record IsLeftAlone (old new : Outside) : Type 0 where
  pub input : new.input ≡ old.input
  pub sent : new.sent ≡ old.sent
  pub disk : new.disk ≡ old.disk
  pub moments : Elapses old new (λ image bytes. MayLeave old image × Agrees old.sent bytes)

-- A standby took the frames of an input, by batches of at most so many, up to so many bytes; what says that no call of the host was made
-- is given.
pub record StoodBy (unbegun : Type 0) (batch most : ℕ) (status : Status) (old new : Outside) : Type 0 where
  -- Whenever the run is stopped, the image holds the records from before and those kept of some of the first frames, and a prefix of
  -- the replies to just these was sent. Or nothing was sent, and a stop at the start might have left the image.
  pub moments : (begin : Begin) (input : List ℕ) → Begins begin input old → Elapses old new (IsSafeOrPending old begin (bodies_of (take most input)))
  -- where nothing is pending at the start, it is always the first
  pub settled : (begin : Begin) (input : List ℕ) → Begins begin input old → IsSettled old → Elapses old new (IsSafe begin (bodies_of (take most input)))
  -- a run that returned is one that was stopped at its end
  pub at_return : (begin : Begin) (input : List ℕ) → Begins begin input old → Ends (IsSafeOrPending old begin (bodies_of (take most input))) new
  -- where the end was read, all was replied to and kept, and the status is that of the end
  pub exact : (begin : Begin) (input : List ℕ) → Begins begin input old → IsEnd status → (status ≡ end_of most input) × Answered begin input (min most (length input)) new
  -- where a read failed, all that was read before it was replied to and kept
  pub unread : (begin : Begin) (input : List ℕ) → Begins begin input old → status ≡ ReadFault → (count : ℕ) × (count < most) × Answered begin input count new
  -- what was sent is a prefix of the replies in any case
  pub part : (begin : Begin) (input : List ℕ) → Begins begin input old → SentPrefix old.sent new.sent (replies_to begin (bodies_of (take most input)))
  -- whenever the input was read, the replies to all whole frames read before had been sent, and no more
  pub prompt : (begin : Begin) (input : List ℕ) → Begins begin input old → Prompt (λ read. replies_to begin (bodies_of read)) old.sent input old.asks new.asks
  -- memory is short only before the first call of the host or for the last base
  pub short : (disk : List ℕ) → old.disk ≡ Some disk → status ≡ NoMemory → unbegun ⊎ StarvedAtBase disk old.sent new.sent
  -- where no frame was answered, nothing was read, sent or written
  pub alone : IsUnbegun status → IsLeftAlone old new
  -- where no header stands it is told, unless the disk fails or memory is short
  pub no_journal : status ≡ NoJournal → (disk : List ℕ) → old.disk ≡ Some disk → HasNoHeader disk
  pub no_header : (disk : List ℕ) → old.disk ≡ Some disk → HasNoHeader disk → TellsNoJournal status × IsLeftAlone old new
  pub no_header_starved : (disk : List ℕ) → old.disk ≡ Some disk → HasNoHeader disk → status ≡ NoMemory → unbegun
  -- damage is told where no scan of the journal begins, or at the gate of the first batch behind the last base that has no form or holds
  -- a record that may not follow, and never of a journal of lawful records
  pub damaged : (at : ℕ) → status ≡ Damaged at → (disk : List ℕ) → old.disk ≡ Some disk → HasDamage at disk
  pub undamaged : (begin : Begin) (input : List ℕ) → Begins begin input old → (at : ℕ) → status ≢ Damaged at
  -- a damaged journal behind a header is told at just its gate, unless a fault or want of memory comes before; whatever the answer,
  -- nothing is read, sent or written
  pub damage_is_told : (capacity at : ℕ) (base : Option Base) (before : List Record) (disk : List ℕ) → old.disk ≡ Some disk → IsDamagedAt capacity at base before disk → ¬ HasNoHeader disk
      → TellsDamage at status
  pub damage_is_left : (capacity at : ℕ) (base : Option Base) (before : List Record) (disk : List ℕ) → old.disk ≡ Some disk → IsDamagedAt capacity at base before disk → IsLeftAlone old new
  -- The file is the header, the blocks and the closed gate as they are spelled, and behind them what stood there before. No batch that
  -- was written has more records than a batch may have frames.
  pub extends : Extends batch old new
  -- no more bytes than asked for are read, whatever the answer
  pub bytes : ReadsAtMost most old.input new.input
  -- with enough memory and no faults, the input is read to its end or to the most bytes
  pub complete : (begin : Begin) (input : List ℕ) → Begins begin input old → status ≢ NoMemory
      → ¬ (Rose old.read_faults new.read_faults) → ¬ (Rose old.send_faults new.send_faults) → ¬ (Rose old.disk_faults new.disk_faults) → IsEnd status
  -- a fault is told only where the host met one, and want of memory only where it met none
  pub read_cause : status ≡ ReadFault → Rose old.read_faults new.read_faults
  pub send_cause : status ≡ SendFault → Rose old.send_faults new.send_faults
  pub disk_cause : status ≡ DiskFault → Rose old.disk_faults new.disk_faults
  pub memory : status ≡ NoMemory → NoFault old new
  pub kind : IsAnswer status
  pub continues : Continues old new
