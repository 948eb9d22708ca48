-- A session whose journal was read to its end, and one whose journal was not.
use Rattle.std.specs.Prelude.{◌≡◌, ◌⊎◌, ℕ, ◌<◌, ◌≤◌, List, [], length, min, take, true, Option, Some}
use Rattle.host_core.specs.declared.status.Status.{Status}
use Rattle.host_core.specs.declared.status.Status.TheVariants.{ReadFault, NoMemory}
use Rattle.host_core.specs.Outside.{Outside, MayLeave, Elapses, NoFault, Continues}
use Rattle.host_core.specs.Frames.{OnlyReadsDisk}
use Rattle.wire_in.specs.declared.base.Base.{Base}
use Rattle.wire_in.specs.Cutting.{bodies_of}
use Rattle.wire_in.specs.declared.record.Record.{Record}
use Rattle.journal_core.specs.Journal.{JournalState, IsAtRest}
use Rattle.journal_core.specs.Journal as journal
use Rattle.journal_core.specs.Layout.{Holds}
use Rattle.journal_core.specs.Scan.{HasRead}
use Rattle.journal_core.specs.Walk.{HasNoHeader}
use Rattle.engine_core.specs.declared.session.Session.{Session}
use Rattle.engine_core.specs.Ends.{Told}
use Rattle.engine_core.specs.Rounds.{RoundState}
use Rattle.stream_core.specs.Taking.{ReadsAtMost}
use Rattle.stream_core.specs.Ends.{IsEnd, end_of}
use Rattle.stream_core.specs.Pending.{SendsPrefix}
use Rattle.engine_core.specs.Serving.{Reads, Leaves, IsReady}
use Rattle.engine_core.specs.Sessions.{Start, Answered, Prompt, Starved}
use Rattle.engine_core.specs.Unwritten.{WritesNothing, AcceptsNone}
use Rattle.journal_core.specs.Extended.{Extends}
use Rattle.recovery_core.specs.declared.recovery.Recovery.{Recovery}
use Rattle.live_core.specs.declared.start.Restoring.{Restoring}
use Rattle.live_core.specs.declared.start.Serving.{Serving}
use Rattle.live_core.specs.Safe.{Begin, Begins, start_of, IsSafeOrPending}
use Rattle.recovery_core.specs.Damage.{IsDamagedAt}
use Rattle.live_core.specs.Ends as ends
use Rattle.recovery_core.specs.Ends.{TellsNoStart}
use Rattle.live_core.specs.Ends.{IsUnserved}
use Rattle.recovery_core.specs.Origins.{again}
use Rattle.recovery_core.specs.Starved.{StarvedAtBase, StarvedBehind}
use Rattle.live_core.specs.Written.{HasGrown}
use Rattle.live_core.specs.InternalKeeping.{HasRoom, Regains}
use Rattle.recovery_core.specs.Recoveries.{HasDamage, StarvesOn, IsReading, IsReadThrough, OnlyRecovers, Hinders}

-- room for a start: nothing is in it, what is read of a journal can wait there, and a round has at most as many frames as a batch
pub record IsRoom (room : Restoring) : Type 0 where
  pub outbox : room.outbox ≡ []
  pub waiting : 64 ≤ room.waiting.most
  pub round : room.round.outcomes ≡ []
  pub most : (1 ≤ room.round.most) × (room.round.most ≤ 64)

-- a session over what a journal was read into, with this round
pub record IsFinished (recovery : Recovery) (round : RoundState) (serving : Serving) : Type 0 where
  pub keeps : (batches : List (List Record)) (disk : List ℕ) (capacity : ℕ) (records : List Record) → HasRead recovery.scan batches disk → Holds disk capacity records → journal.Represents serving.keeper.journal records disk
  pub capacity : serving.keeper.journal.capacity ≡ recovery.scan.capacity
  pub ready : (known : Option (List ℕ)) → IsReading recovery.scan recovery.engine 0 known → IsReady (HasRoom serving.keeper.journal known) 64 serving.session
  pub session : serving.session ≡ record { cutter = []; engine = recovery.engine; round = round; outbox = recovery.outbox; answered = 0 }

-- a session may begin
pub record IsRestored (from : Option ℕ) (serving : Serving) (old new : Outside) : Type 0 where
  pub moments : (begin : Begin) (input : List ℕ) → begin.from ≡ from → Begins begin input old → Elapses old new (IsSafeOrPending old begin [])
  pub reads : (begin : Begin) (input : List ℕ) → begin.from ≡ from → Begins begin input old
      → Reads (λ records now. IsAtRest serving.keeper.journal records now) (start_of begin) input 0 serving.session new
  pub nothing : (begin : Begin) (input : List ℕ) → begin.from ≡ from → Begins begin input old → WritesNothing old new
  pub capacity : (begin : Begin) (input : List ℕ) → begin.from ≡ from → Begins begin input old → serving.keeper.journal.capacity ≡ begin.capacity
  pub sound : (disk : List ℕ) → old.disk ≡ Some disk → IsReadThrough disk
  pub ready : IsReady (HasRoom serving.keeper.journal new.disk) 64 serving.session
  pub empty : serving.session.round.outcomes ≡ []
  pub answered : serving.session.answered ≡ 0
  pub keeps : OnlyRecovers old new
  pub none : NoFault old new

-- why no session begins: damage and the want of a journal are those of the disk, and want of memory comes before the first call or while
-- the journal is read
abbrev pub IsHindered : Type 0 → ℕ → Option ℕ → Status → Outside → Outside → Type 0
IsHindered unbegun workers from status old new =
    Hinders (λ at. (disk : List ℕ) → old.disk ≡ Some disk → HasDamage at disk) (OnlyReadsDisk old new × ((disk : List ℕ) → old.disk ≡ Some disk → HasNoHeader disk))
    (unbegun ⊎ ((disk : List ℕ) → old.disk ≡ Some disk → StarvesOn workers from old.sent disk new)) status old new

-- no session begins, for this reason
pub record IsUnread (unbegun : Type 0) (workers : ℕ) (from : Option ℕ) (status : Status) (old new : Outside) : Type 0 where
  pub moments : (begin : Begin) (input : List ℕ) → begin.from ≡ from → Begins begin input old → Elapses old new (IsSafeOrPending old begin [])
  pub nothing : (begin : Begin) (input : List ℕ) → begin.from ≡ from → Begins begin input old → WritesNothing old new
  pub damage_moments : (capacity at : ℕ) (base : Option Base) (before : List Record) (disk : List ℕ) → old.disk ≡ Some disk → IsDamagedAt capacity at base before disk
      → Elapses old new (SendsPrefix old.sent (again from base before) old)
  -- where no header stands, the disk is read and no more is done, and memory is short only before the first call
  pub no_header : (disk : List ℕ) → old.disk ≡ Some disk → HasNoHeader disk → TellsNoStart status × (status ≡ NoMemory → unbegun) × OnlyReadsDisk old new
  pub keeps : OnlyRecovers old new
  pub hinders : IsHindered unbegun workers from status old new

-- what a session did that began so, by batches of at most so many frames, up to so many bytes of this input
pub record Serves (unbegun : Type 0) (workers : ℕ) (from : Option ℕ) (batch : ℕ) (begin : Begin) (input : List ℕ) (most : ℕ) (status : Status) (old new : Outside) : Type 0 where
  pub moments : Elapses old new (IsSafeOrPending old begin (bodies_of (take most input)))
  pub exact : IsEnd status → (status ≡ end_of most input) × ends.Answered begin input (min most (length input)) new
  pub unread : status ≡ ReadFault → (count : ℕ) × (count < most) × ends.Answered begin input count new
  pub prompt : Prompt (start_of begin) input old.asks new.asks
  pub starved : (disk : List ℕ) → old.disk ≡ Some disk → Holds disk begin.capacity begin.held → status ≡ NoMemory
      → unbegun ⊎ StarvedAtBase disk old.sent new.sent ⊎ StarvedBehind workers from disk begin.held old.sent new.sent ⊎ Starved (start_of begin) (bodies_of (take most input)) new
  pub unwritten : AcceptsNone (start_of begin) (bodies_of (take most input)) → WritesNothing old new
  pub stops : Elapses old new (λ image bytes. MayLeave old image ⊎ HasGrown batch begin (bodies_of (take most input)) old image)

-- the input was answered, by batches of at most so many frames, up to so many bytes
pub record IsAnswered (batch most : ℕ) (before after : JournalState) (session : Session) (status : Status) (old new : Outside) : Type 0 where
  pub exact : (start : Start) (input : List ℕ) → start.acknowledges ≡ true → Reads (λ records now. IsAtRest before records now) start input 0 session old
      → IsEnd status → (status ≡ end_of most input) × Answered (λ records now. IsAtRest after records now) start input (min most (length input)) new
  pub unread : (start : Start) (input : List ℕ) → start.acknowledges ≡ true → Reads (λ records now. IsAtRest before records now) start input 0 session old
      → status ≡ ReadFault → (count : ℕ) × (count < most) × Answered (λ records now. IsAtRest after records now) start input count new
  pub nothing : (start : Start) (input : List ℕ) → start.acknowledges ≡ true → Reads (λ records now. IsAtRest before records now) start input 0 session old
      → AcceptsNone start (bodies_of (take most input)) → WritesNothing old new
  pub extends : Extends batch old new
  pub grows : (start : Start) (input : List ℕ) → start.acknowledges ≡ true → Reads (λ records now. IsAtRest before records now) start input 0 session old
      → Elapses old new (Leaves batch (λ records pending image. Regains before old records pending image) start (bodies_of (take most input)))
  pub prompt : (start : Start) (input : List ℕ) → start.acknowledges ≡ true → Reads (λ records now. IsAtRest before records now) start input 0 session old
      → Prompt start input old.asks new.asks
  pub starved : (start : Start) (input : List ℕ) → start.acknowledges ≡ true → Reads (λ records now. IsAtRest before records now) start input 0 session old
      → status ≡ NoMemory → Starved start (bodies_of (take most input)) new
  pub bytes : ReadsAtMost most old.input new.input
  pub continues : Continues old new
  pub served : ¬ IsUnserved status
  pub told : Told status old new
