-- What a command did that sends one text and reads nothing, whatever its answer.
use Rattle.std.specs.Prelude.{◌≡◌, ℕ, List}
use Rattle.std.specs.List.{flat_map}
use Rattle.std.specs.Io.KnownBytes.{append_known}
use Rattle.host_core.specs.declared.status.Status.{Status}
use Rattle.host_core.specs.declared.status.Status.TheVariants.{Done, SendFault, NoMemory}
use Rattle.host_core.specs.Outside.{Outside, Elapses, Rose, NoFault}
use Rattle.host_core.specs.Frames.{OnlySends}
use Rattle.wire_core.specs.Frames.{framed}
use Rattle.wire_in.specs.declared.record.Record.{Record}
use Rattle.wire_in.specs.Spelling.{body_of}
use Rattle.stream_core.specs.Pending.{SendsPrefix, SentPrefix}
use Rattle.gen_core.specs.declared.plan.DayPlan.{DayPlan}
use Rattle.gen_core.specs.Generated.{generated}

-- the frames of these records, one after the other
abbrev pub frames_of : List Record → List ℕ
frames_of records = flat_map (λ x. framed (body_of x)) records

-- the answers of such a command
abbrev pub IsAnswer : Status → Type 0
IsAnswer Done = Unit {0}
IsAnswer SendFault = Unit {0}
IsAnswer NoMemory = Unit {0}
IsAnswer _ = ⊥

-- a text was sent
pub record SendsText (text : List ℕ) (status : Status) (old new : Outside) : Type 0 where
  -- at Done exactly this text was sent, and no call failed
  pub exact : status ≡ Done → new.sent ≡ append_known old.sent text
  pub faultless : status ≡ Done → NoFault old new
  -- whenever the run is stopped, and at its end, a prefix of it was sent
  pub moments : Elapses old new (SendsPrefix old.sent text old)
  pub part : SentPrefix old.sent new.sent text
  -- nothing is read, and the disk is not touched
  pub keeps : OnlySends old new
  -- a fault is told only where the host met one, and want of memory only where it met none and before anything was sent
  pub send_cause : status ≡ SendFault → Rose old.send_faults new.send_faults
  pub memory : status ≡ NoMemory → NoFault old new
  pub unsent : status ≡ NoMemory → new.sent ≡ old.sent
  pub kind : IsAnswer status

-- the frames of a plan's records were sent, in order
abbrev pub SentDay : DayPlan → Status → Outside → Outside → Type 0
SentDay plan status old new = SendsText (frames_of (generated plan)) status old new
