-- What a command did that answers an input and leaves the disk alone, whatever its answer.
use Rattle.std.specs.Prelude.{◌≡◌, ◌≢◌, ℕ, ◌<◌, List, length, min, drop, Option, Some}
use Rattle.std.specs.Io.KnownBytes.{append_known}
use Rattle.host_core.specs.declared.status.Status.{Status}
use Rattle.host_core.specs.declared.status.Status.TheVariants.{ReadFault, SendFault, NoMemory}
use Rattle.host_core.specs.Outside.{Outside, Elapses, Rose, NoFault, Continues}
use Rattle.stream_core.specs.Pending.{SendsPrefix, SentPrefix}
use Rattle.stream_core.specs.Asking.{Prompt}
use Rattle.stream_core.specs.Taking.{ReadsAtMost}
use Rattle.stream_core.specs.Ends.{IsEnd}
use Rattle.stream_core.specs.Answering.{HasAnswered}

-- The input was answered up to so many bytes: for bytes that more may follow a text is sent, and for the input another. At an end
-- the status is that of the input. Where memory was short, that is given.
pub record Streamed (text whole : List ℕ → List ℕ) (end_of : List ℕ → Status) (Ends IsAnswer : Status → Type 0) (short : Type 0) (most : ℕ) (status : Status) (old new : Outside) : Type 0 where
  -- whenever it is stopped, a prefix of what is expected was sent, and the disk has an image from before
  pub moments : (input : List ℕ) → old.input ≡ Some input → Elapses old new (SendsPrefix old.sent (whole input) old)
  -- at an end all was sent, and the status is the one that the input gives
  pub exact : (input : List ℕ) → old.input ≡ Some input → Ends status → (status ≡ end_of input) × (new.sent ≡ append_known old.sent (whole input))
  -- and where that is the end of the input or of the bytes that may be read, these were taken
  pub taken : (input : List ℕ) → old.input ≡ Some input → IsEnd status → new.input ≡ Some (drop (min most (length input)) input)
  -- where a read failed, all that is expected for the bytes before it was sent
  pub unread : (input : List ℕ) → old.input ≡ Some input → status ≡ ReadFault → (count : ℕ) × (count < most) × HasAnswered text old.sent input count new
  -- what was sent is a prefix of what is expected in any case
  pub part : (input : List ℕ) → old.input ≡ Some input → SentPrefix old.sent new.sent (whole input)
  -- whenever the input was read, all that is expected for the bytes read before had been sent
  pub prompt : (input : List ℕ) → old.input ≡ Some input → Prompt text old.sent input old.asks new.asks
  -- where memory was short
  pub starved : status ≡ NoMemory → short
  -- no more bytes than that are read, whatever the answer
  pub bytes : ReadsAtMost most old.input new.input
  -- with enough memory and no faults, it ends as the input says
  pub complete : status ≢ NoMemory → ¬ (Rose old.read_faults new.read_faults) → ¬ (Rose old.send_faults new.send_faults) → Ends status
  -- a fault is told only where the host met one, and want of memory only where it met none
  pub read_cause : status ≡ ReadFault → Rose old.read_faults new.read_faults
  pub send_cause : status ≡ SendFault → Rose old.send_faults new.send_faults
  pub memory : status ≡ NoMemory → NoFault old new
  pub disk : new.disk ≡ old.disk
  pub disk_faults : new.disk_faults ≡ old.disk_faults
  pub kind : IsAnswer status
  pub continues : Continues old new
