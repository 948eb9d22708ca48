-- An audit of an input on its way. Private words: no public clause cites them.
use Rattle.std.specs.Prelude.{◌≡◌, ℕ, ◌+◌, ◌<◌, ◌≤◌, ◌^◌, nat_le, Bool, true, if◌then◌else◌, Option, Some, None, List, [], ◌∷◌, length, take, option_map}
use Rattle.std.proofs.Common.{refl, sym, ap, ◌∙◌, arith}
use Rattle.std.specs.Io.KnownBytes.{append_known}
use Rattle.host_core.specs.declared.status.Status.{Status}
use Rattle.host_core.specs.declared.status.Status.TheVariants.{Done, Truncated, SessionFull, BadText, Breach}
use Rattle.host_core.specs.Outside.{Outside}
use Rattle.host_core.proofs.Known.{append_known-nil}
use Rattle.wire_in.specs.Cutting.{bodies_of, rest_of, pending}
use Rattle.wire_out.specs.declared.message.Frame.{Frame}
use Rattle.stream_core.specs.Pending.{Expects}
use Rattle.audit_core.specs.declared.stream.Flaw.{Flaw}
use Rattle.audit_core.specs.declared.stream.Flaw.TheVariants.{NoFrame, Law}
use Rattle.audit_core.specs.declared.stream.Inspection.{Inspection}
use Rattle.audit_core.specs.declared.stream.Auditing.{Auditing}
use Rattle.audit_core.specs.Audits.{Represents}
use Rattle.audit_core.specs.Streams.{first_fault, frames_in}

-- the status of what is wrong behind so many frames
abbrev pub fault_status : ℕ → Flaw → Status
fault_status taken NoFrame = BadText (taken + 1)
fault_status taken (Law law) = Breach (taken + 1) law

-- Of these bodies the frames were taken up to the first with which something is wrong.
pub record Audits (bodies : List (List ℕ)) (inspection : Inspection) : Type 0 where
  pub frames : List Frame
  pub represents : inspection.flaw ≡ None → Represents inspection.audit frames
  pub taken : inspection.taken ≡ length frames
  pub found : first_fault [] bodies ≡ option_map (fault_status inspection.taken) inspection.flaw
  pub all : inspection.flaw ≡ None → frames_in [] bodies ≡ frames

-- these bytes were read
pub record Reads (read : List ℕ) (auditing : Auditing) : Type 0 where
  pub audits : Audits (bodies_of read) auditing.inspection
  pub begun : auditing.inspection.flaw ≡ None → pending auditing.cutter ≡ rest_of read

-- what an audit is given: what had been sent before, its input, and how many bytes of that may be read
pub record Given : Type 0 where
  pub begin : Option (List ℕ)
  pub input : List ℕ
  pub most : ℕ

-- so many bytes were read, and nothing was sent
pub record Knows (given : Given) (count : ℕ) (waiting : List ℕ) (auditing : Auditing) (now : Outside) : Type 0 where
  pub reads : Reads (take count given.input) auditing
  pub none : waiting ≡ []
  pub unsent : now.sent ≡ given.begin

-- an audit of nothing
pub record IsFresh (auditing : Auditing) : Type 0 where
  pub cutter : auditing.cutter ≡ []
  pub represents : Represents auditing.inspection.audit []
  pub clean : auditing.inspection.audit.clean ≡ true
  pub taken : auditing.inspection.taken ≡ 0
  pub sound : auditing.inspection.flaw ≡ None

-- how an audit ends
abbrev pub unhindered : Bool → ℕ → ℕ → Status
unhindered inside read most = if nat_le most read then SessionFull else if inside then Truncated else Done

abbrev pub status_of : Option Flaw → ℕ → Status → Status
status_of None taken end = end
status_of (Some flaw) taken end = fault_status taken flaw

abbrev pub status_by : Inspection → Bool → ℕ → ℕ → Status
status_by inspection inside read most = status_of inspection.flaw inspection.taken (unhindered inside read most)

pub expects_none : {given : Given} {count : ℕ} {waiting : List ℕ} {auditing : Auditing} {now : Outside} → Knows given count waiting auditing now → Expects given.begin now.sent waiting []
expects_none {given} knows = record { sent = []; known = knows.unsent ∙ sym (append_known-nil given.begin); whole = knows.none }

pub still_none : {given : Given} {count : ℕ} {waiting : List ℕ} {auditing : Auditing} {old new : Outside} → Knows given count waiting auditing old → new.sent ≡ append_known given.begin [] → Knows given count [] auditing new
still_none {given} knows sent = record { reads = knows.reads; none = refl; unsent = sent ∙ append_known-nil given.begin }

-- so many bytes more may be audited
pub record IsReadyFor (more : ℕ) (inspection : Inspection) : Type 0 where
  pub clean : inspection.flaw ≡ None → inspection.audit.clean ≡ true
  pub few : inspection.taken + more < 2 ^ 42

pub ready_for_fewer : (fewer more : ℕ) (inspection : Inspection) → fewer ≤ more → IsReadyFor more inspection → IsReadyFor fewer inspection
ready_for_fewer fewer more inspection le ready = record { clean = ready.clean; few = omega (arith, le, ready.few) }
