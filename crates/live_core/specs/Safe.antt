-- What a stop of a session may leave: records on the disk, and what was sent for them.
use Rattle.std.specs.Prelude.{◌≡◌, ◌⊎◌, ℕ, true, List, ◌++◌, Option, Some}
use Rattle.host_core.specs.Outside.{Outside, MayLeave}
use Rattle.wire_in.specs.declared.record.Record.{Record}
use Rattle.wire_out.specs.Spelling.{spelling}
use Rattle.journal_core.specs.Layout.{Holds}
use Rattle.journal_core.specs.Scan.{IsBased}
use Rattle.rulebook.specs.Sent.{hello, spelled}
use Rattle.rulebook.specs.Admission.{IsLawful}
use Rattle.rulebook.specs.Base.{sent_above}
use Rattle.engine_core.specs.Sessions as engine
use Rattle.engine_core.specs.Sessions.{Start}

-- What a session begins with: the capacity of its journal, how many messages its last base has, which are not sent again, the number
-- from which on messages are asked for again, the records that the journal holds, the newest first, and the bytes that were sent
-- before.
pub record Begin : Type 0 where
  pub capacity : ℕ
  pub passed : ℕ
  pub from : Option ℕ
  pub held : List Record
  pub sent : List ℕ

-- a host exposes an input, what was sent, and a disk that holds a lawful list of records under a capacity, and whose last base has so
-- many messages
pub record Begins (begin : Begin) (input : List ℕ) (now : Outside) : Type 0 where
  pub input_known : now.input ≡ Some input
  pub sent_known : now.sent ≡ Some begin.sent
  pub disk : List ℕ
  pub disk_known : now.disk ≡ Some disk
  pub holds : Holds disk begin.capacity begin.held
  pub lawful : IsLawful begin.capacity begin.held
  pub based : IsBased begin.passed disk

-- By one worker: accepted records are acknowledged, and before the first frame is answered the messages that are asked for
-- again are sent, but for those of the base, and then how many records and messages there are.
abbrev pub start_of : Begin → Start
start_of begin = record {
  workers = 1;
  capacity = begin.capacity;
  held = begin.held;
  acknowledges = true;
  opening = spelled (sent_above begin.passed begin.from begin.held) ++ spelling (hello begin.held);
  sent = Some begin.sent;
}

-- For some number of the first frames, the image holds the records from before and those that these frames gave, and
-- what was sent since the begin is a prefix of all that is expected for them.
abbrev pub IsSafe : Begin → List (List ℕ) → List ℕ → List ℕ → Type 0
IsSafe begin = engine.IsSafe (λ records image. Holds image begin.capacity records) (start_of begin)

-- nothing was sent since the begin, and a stop there might have left the image
pub record IsPending (start : Outside) (begin : Begin) (image bytes : List ℕ) : Type 0 where
  pub was : MayLeave start image
  pub unsent : bytes ≡ begin.sent

abbrev pub IsSafeOrPending : Outside → Begin → List (List ℕ) → List ℕ → List ℕ → Type 0
IsSafeOrPending start begin bodies image bytes = IsSafe begin bodies image bytes ⊎ IsPending start begin image bytes
