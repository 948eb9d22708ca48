-- What a session did, whatever its answer.
use Rattle.std.specs.Prelude.{◌≡◌, ◌≢◌, ◌⊎◌, ℕ, ◌<◌, List, length, min, take, Option, Some}
use Rattle.host_core.specs.declared.status.Status.{Status}
use Rattle.host_core.specs.declared.status.Status.TheVariants.{ReadFault, SendFault, DiskFault, Damaged, NoJournal, NoMemory}
use Rattle.host_core.specs.Outside.{Outside, Elapses, Ends, IsSettled, Rose, NoFault, Continues}
use Rattle.wire_in.specs.Cutting.{bodies_of}
use Rattle.wire_in.specs.declared.base.Base.{Base}
use Rattle.wire_in.specs.declared.record.Record.{Record}
use Rattle.journal_core.specs.Walk.{HasNoHeader}
use Rattle.stream_core.specs.Ends.{IsEnd, end_of}
use Rattle.stream_core.specs.Taking.{ReadsAtMost}
use Rattle.stream_core.specs.Pending.{SendsPrefix, SentPrefix}
use Rattle.engine_core.specs.Sessions.{Prompt, Starved, expected}
use Rattle.live_core.specs.Safe.{Begin, Begins, start_of, IsSafe, IsSafeOrPending}
use Rattle.recovery_core.specs.Damage.{IsDamagedAt, StopsAtDamage}
use Rattle.recovery_core.specs.Origins.{again}
use Rattle.recovery_core.specs.Starved.{StarvedAtBase, StarvedAtRecord, StarvedBehind}
use Rattle.live_core.specs.Written.{Written}
use Rattle.recovery_core.specs.Ends.{TellsNoJournal, TellsDamage}
use Rattle.live_core.specs.Ends.{Answered, IsAnswer, IsUnserved, IsLeftAlone}

-- A session was served by so many workers, from that message on, by batches of at most so many frames, up to so many bytes; what
-- says that no call of the host was made is given.
pub record Served (unbegun : Type 0) (workers : ℕ) (from : Option ℕ) (batch most : ℕ) (status : Status) (old new : Outside) : Type 0 where
  -- Whenever the run is stopped, the image holds the records from before and those of some of the first frames, and a
  -- prefix of what is expected for them was sent. Or nothing was sent, and a stop at the start might have left the image.
  pub moments : (begin : Begin) (input : List ℕ) → begin.from ≡ from → Begins begin input old → Elapses old new (IsSafeOrPending old begin (bodies_of (take most input)))
  -- where nothing is pending at the start, it is always the first
  pub settled : (begin : Begin) (input : List ℕ) → begin.from ≡ from → Begins begin input old → IsSettled old → Elapses old new (IsSafe begin (bodies_of (take most input)))
  -- a run that returned is one that was stopped at its end
  pub at_return : (begin : Begin) (input : List ℕ) → begin.from ≡ from → Begins begin input old → Ends (IsSafeOrPending old begin (bodies_of (take most input))) new
  -- where the end was read, all was answered and kept, and the status is that of the end
  pub exact : (begin : Begin) (input : List ℕ) → begin.from ≡ from → Begins begin input old → IsEnd status → (status ≡ end_of most input) × Answered begin input (min most (length input)) new
  -- where a read failed, all that was read before it was answered and kept
  pub unread : (begin : Begin) (input : List ℕ) → begin.from ≡ from → Begins begin input old → status ≡ ReadFault → (count : ℕ) × (count < most) × Answered begin input count new
  -- what was sent is a prefix of what is expected in any case
  pub part : (begin : Begin) (input : List ℕ) → begin.from ≡ from → Begins begin input old → SentPrefix old.sent new.sent (expected (start_of begin) (bodies_of (take most input)))
  -- whenever the input was read, all that is expected for the whole frames read before had been sent
  pub prompt : (begin : Begin) (input : List ℕ) → begin.from ≡ from → Begins begin input old → Prompt (start_of begin) input old.asks new.asks
  -- memory is short only before the first call of the host, for the last base of the journal, at a record behind it, or at a record
  -- of the input that is accepted, with all sent that is expected before it; where there is one worker, it is one that takes memory
  pub starved : (begin : Begin) (input : List ℕ) → begin.from ≡ from → (begins : Begins begin input old) → status ≡ NoMemory
      → unbegun ⊎ StarvedAtBase begins.disk old.sent new.sent ⊎ StarvedBehind workers from begins.disk begin.held old.sent new.sent
      ⊎ Starved (start_of begin) (bodies_of (take most input)) new
  -- where no header stands it is told, unless the disk fails or memory is short, and nothing is read, sent or written
  pub no_journal : status ≡ NoJournal → (disk : List ℕ) → old.disk ≡ Some disk → HasNoHeader disk
  pub no_header : (disk : List ℕ) → old.disk ≡ Some disk → HasNoHeader disk → TellsNoJournal status
  pub no_header_starved : (disk : List ℕ) → old.disk ≡ Some disk → HasNoHeader disk → status ≡ NoMemory → unbegun
  pub unsent : status ≡ NoJournal → new.sent ≡ old.sent
  pub left_alone : (disk : List ℕ) → old.disk ≡ Some disk → HasNoHeader disk → IsLeftAlone old new
  -- Damage is told where no scan of the journal begins, or at the gate of the first batch behind the last base that has no form or
  -- holds a record that may not follow, and never of a journal of lawful records.
  pub damaged : (at : ℕ) → status ≡ Damaged at → (disk : List ℕ) → old.disk ≡ Some disk → StopsAtDamage from old.sent at disk new
  pub undamaged : (begin : Begin) (input : List ℕ) → Begins begin input old → (at : ℕ) → status ≢ Damaged at
  -- a damaged journal behind a header is told at just its gate, unless a fault or want of memory comes before
  pub damage_is_told : (capacity at : ℕ) (base : Option Base) (before : List Record) (disk : List ℕ) → old.disk ≡ Some disk → IsDamagedAt capacity at base before disk → ¬ HasNoHeader disk → TellsDamage at status
  -- Whatever the answer, nothing is written to it, no input is read, and a prefix of the messages is sent that are asked for
  -- again of the records before the damage and behind the last base.
  pub damage_is_left : (capacity at : ℕ) (base : Option Base) (before : List Record) (disk : List ℕ) → old.disk ≡ Some disk → IsDamagedAt capacity at base before disk → new.disk ≡ old.disk
  pub damage_is_unserved : (capacity at : ℕ) (base : Option Base) (before : List Record) (disk : List ℕ) → old.disk ≡ Some disk → IsDamagedAt capacity at base before disk → new.input ≡ old.input
  pub damage_part : (capacity at : ℕ) (base : Option Base) (before : List Record) (disk : List ℕ) → old.disk ≡ Some disk → IsDamagedAt capacity at base before disk
      → SentPrefix old.sent new.sent (again from base before)
  -- and whenever it is stopped, it leaves an image as before
  pub damage_moments : (capacity at : ℕ) (base : Option Base) (before : List Record) (disk : List ℕ) → old.disk ≡ Some disk → IsDamagedAt capacity at base before disk
      → Elapses old new (SendsPrefix old.sent (again from base before) old)
  -- and memory is short only before the first call of the host, for the last base, or at a record before the damage, as above
  pub damage_starved : (capacity at : ℕ) (base : Option Base) (before : List Record) (disk : List ℕ) → old.disk ≡ Some disk → IsDamagedAt capacity at base before disk → status ≡ NoMemory
      → unbegun ⊎ StarvedAtBase disk old.sent new.sent ⊎ StarvedAtRecord workers (again from base) before old.sent new.sent
  -- where there is no journal or a damaged one, nothing is written, and nothing of the input is read
  pub untouched : IsUnserved status → new.disk ≡ old.disk
  pub input_is_left : IsUnserved status → new.input ≡ old.input
  -- what is written to the journal's file
  pub written : Written from batch most old new
  -- no more bytes than asked for are read, whatever the answer
  pub bytes : ReadsAtMost most old.input new.input
  -- with enough memory and no faults, the input is read to its end or to the most bytes
  pub complete : (begin : Begin) (input : List ℕ) → Begins begin input old → status ≢ NoMemory
      → ¬ (Rose old.read_faults new.read_faults) → ¬ (Rose old.send_faults new.send_faults) → ¬ (Rose old.disk_faults new.disk_faults) → IsEnd status
  -- a fault is told only where the host met one, and want of memory only where it met none
  pub read_cause : status ≡ ReadFault → Rose old.read_faults new.read_faults
  pub send_cause : status ≡ SendFault → Rose old.send_faults new.send_faults
  pub disk_cause : status ≡ DiskFault → Rose old.disk_faults new.disk_faults
  pub memory : status ≡ NoMemory → NoFault old new
  pub kind : IsAnswer status
  pub continues : Continues old new
