-- The status of a run that answers an input, and what it says.
use Rattle.std.proofs.Common.{◌≡◌, ◌≢◌, ℕ, ◌<◌, List, length, drop, refl, ap, subst, arith}
use Rattle.std.specs.Prelude.{Some, min, Result, Ok, Err, IfOk}
use Rattle.std.specs.Io.KnownBytes.{append_known}
use Rattle.host_core.specs.declared.fault.Fault.{Fault}
use Rattle.host_core.specs.declared.fault.Fault.TheVariants as fault
use Rattle.host_core.specs.declared.status.Status.{Status}
use Rattle.host_core.specs.declared.status.Status.TheVariants.{ReadFault, SendFault, NoMemory}
use Rattle.host_core.specs.Outside.{Outside, Agrees, MayLeave, Elapses, Rose, Continues}
use Rattle.host_core.specs.Faults.{Causes, status_of}
use Rattle.host_core.proofs.Moments.{ended, nothing, widened, unchanged}
use Rattle.host_core.proofs.Causes.{no_fault}
use Rattle.stream_core.specs.Pending.{SendsPrefix}
use Rattle.stream_core.specs.Taking.{ReadsAtMost}
use Rattle.stream_core.specs.Asking.{Prompt}
use Rattle.stream_core.specs.Ends.{IsEnd, answer_of}
use Rattle.stream_core.specs.Answering.{HasAnswered}
use Rattle.stream_core.specs.Streamed.{Streamed}
use Rattle.stream_core.proofs.Pending.{prefix_sent, sends_none}
use Rattle.stream_core.proofs.Asking.{no_ask}
use Rattle.stream_core.proofs.Taken.{takes_none}

-- each fault but that of the disk is an answer, and none of these faults is an end
pub record TellsApart (Ends IsAnswer : Status → Type 0) : Type 0 where
  pub read : IsAnswer ReadFault
  pub send : IsAnswer SendFault
  pub memory : IsAnswer NoMemory
  pub no_read : Ends ReadFault → ⊥
  pub no_send : Ends SendFault → ⊥
  pub no_memory : Ends NoMemory → ⊥

-- a run that answered an input and left the disk alone
pub record Ran (text whole : List ℕ → List ℕ) (end_of : List ℕ → Status) (Ends IsAnswer : Status → Type 0) (most : ℕ) (result : Result Status Fault) (old new : Outside) : Type 0 where
  pub moments : (input : List ℕ) → old.input ≡ Some input → Elapses old new (SendsPrefix old.sent (whole input) old)
  pub exact : (input : List ℕ) → old.input ≡ Some input → IfOk result (λ status. (status ≡ end_of input) × (new.sent ≡ append_known old.sent (whole input)))
  pub taken : (input : List ℕ) → old.input ≡ Some input → IfOk result (λ status. IsEnd status → new.input ≡ Some (drop (min most (length input)) input))
  pub unread : (input : List ℕ) → old.input ≡ Some input → result ≡ Err fault.Read → (count : ℕ) × (count < most) × HasAnswered text old.sent input count new
  pub prompt : (input : List ℕ) → old.input ≡ Some input → Prompt text old.sent input old.asks new.asks
  pub bytes : ReadsAtMost most old.input new.input
  pub end : IfOk result (λ status. Ends status × IsAnswer status)
  pub causes : Causes result old new
  pub unkept : result ≢ Err fault.Disk
  pub disk : new.disk ≡ old.disk
  pub disk_faults : new.disk_faults ≡ old.disk_faults
  pub continues : Continues old new

-- each fault has a status of its own
same_fault : (e f : Fault) → status_of e ≡ status_of f → e ≡ f
same_fault e f is = grind (arith, is)

module _ {Ends IsAnswer : Status → Type 0} (tells : TellsApart Ends IsAnswer) where
  -- a fault is told by its status, and by no other
  told_by : (f : Fault) → (Ends (status_of f) → ⊥) → (result : Result Status Fault) → IfOk result (λ s. Ends s × IsAnswer s) → answer_of result ≡ status_of f → result ≡ Err f
  told_by f none (Ok s) end is = absurd (none (subst Ends is end.0))
  told_by f none (Err e) end is = ap Err (same_fault e f is)

  -- the status is an answer, what holds at an end holds where the status is one, and it is one where nothing failed
  told : (old new : Outside) (result : Result Status Fault) (P : Status → Type 0) → IfOk result (λ s. Ends s × IsAnswer s) → result ≢ Err fault.Disk → Causes result old new
      → IsAnswer (answer_of result) × (Ends (answer_of result) → IfOk result P → P (answer_of result))
      × (answer_of result ≢ NoMemory → ¬ (Rose old.read_faults new.read_faults) → ¬ (Rose old.send_faults new.send_faults) → Ends (answer_of result))
  told old new (Ok s) P end unkept causes = (end.1, λ ends p. p, λ memory no_reads no_sends. end.0)
  told old new (Err fault.Read) P end unkept causes = (tells.read, λ ends p. absurd (tells.no_read ends), λ memory no_reads no_sends. absurd (no_reads causes))
  told old new (Err fault.Send) P end unkept causes = (tells.send, λ ends p. absurd (tells.no_send ends), λ memory no_reads no_sends. absurd (no_sends causes))
  told old new (Err fault.Disk) P end unkept causes = absurd (unkept refl)
  told old new (Err fault.Memory) P end unkept causes = (tells.memory, λ ends p. absurd (tells.no_memory ends), λ memory no_reads no_sends. absurd (memory refl))

  -- what is taken is so at an end alone
  read_out : (result : Result Status Fault) (P : Status → Type 0) → IfOk result (λ s. IsEnd s → P s) → IsEnd (answer_of result) → P (answer_of result)
  read_out (Ok s) P p out = p out
  read_out (Err fault.Read) P p out = absurd out
  read_out (Err f) P p out = absurd out

  -- what the run did, told by its status; a run that returned is one that was stopped at its end
  pub streamed : {text whole : List ℕ → List ℕ} {end_of : List ℕ → Status} {most : ℕ} (result : Result Status Fault) {old new : Outside} → Ran text whole end_of Ends IsAnswer most result old new
      → ((image bytes : List ℕ) → new.leaves new.moment image bytes → Agrees new.sent bytes) → ((sent : List ℕ) → new.sent ≡ Some sent → (image : List ℕ) × MayLeave new image)
      → {starved : Type 0} → (result ≡ Err fault.Memory → starved) → Streamed text whole end_of Ends IsAnswer starved most (answer_of result) old new
  streamed {whole = whole} result {old} {new} ran sent_now stops_now short = record {
    moments = ran.moments;
    exact = λ input is ends. (told old new result _ ran.end ran.unkept ran.causes).1 ends (ran.exact input is);
    taken = λ input is. read_out result _ (ran.taken input is);
    unread = λ input is failed. ran.unread input is (told_by fault.Read tells.no_read result ran.end failed);
    part = λ input is. prefix_sent old old.sent new.sent (whole input) ran.continues.sent (λ sent known.
        let stop = stops_now sent known in (stop.0, rw (sent_now stop.0 stop.1.bytes stop.1.left sent known) at (ended (ran.moments input is) stop.1)));
    prompt = ran.prompt;
    starved = λ is. short (told_by fault.Memory tells.no_memory result ran.end is);
    bytes = ran.bytes;
    complete = (told old new result IsAnswer ran.end ran.unkept ran.causes).2;
    read_cause = λ is. subst (λ (r : Result Status Fault). Causes r old new) (told_by fault.Read tells.no_read result ran.end is) ran.causes;
    send_cause = λ is. subst (λ (r : Result Status Fault). Causes r old new) (told_by fault.Send tells.no_send result ran.end is) ran.causes;
    memory = λ is. subst (λ (r : Result Status Fault). Causes r old new) (told_by fault.Memory tells.no_memory result ran.end is) ran.causes;
    disk = ran.disk;
    disk_faults = ran.disk_faults;
    kind = (told old new result IsAnswer ran.end ran.unkept ran.causes).0;
    continues = ran.continues;
  }

  -- a run that found no memory before it called the host
  pub nothing_streamed : {text whole : List ℕ → List ℕ} {end_of : List ℕ → Status} {most : ℕ} (now : Outside) {starved : Type 0} → starved
      → ((image bytes : List ℕ) → now.leaves now.moment image bytes → Agrees now.sent bytes) → ((sent : List ℕ) → now.sent ≡ Some sent → (image : List ℕ) × MayLeave now image)
      → Streamed text whole end_of Ends IsAnswer starved most NoMemory now now
  nothing_streamed {text} {whole} {end_of} {most} now short sent_now stops_now = streamed (Err fault.Memory) (record {
    moments = λ input is. widened (nothing now sent_now) _ (sends_none _ _);
    exact = λ input is. tt;
    taken = λ input is. tt;
    unread = λ input is failed. absurd cc;
    prompt = λ input is. no_ask text now.sent input refl;
    bytes = takes_none most _ _ refl;
    end = tt;
    causes = no_fault now;
    unkept = λ is. absurd cc;
    disk = refl;
    disk_faults = refl;
    continues = unchanged now;
  }) sent_now stops_now (λ is. short)
