-- A board of an input on its way. Private words: no public clause cites them.
use Rattle.std.specs.Prelude.{◌≡◌, ℕ, ◌+◌, ◌≤◌, ◌^◌, Option, IfSome, IsSome, List, [], length, take, vec_capacity}
use Rattle.std.specs.Io.KnownBytes.{append_known}
use Rattle.std.proofs.Common.{refl, sym, ◌∙◌, arith}
use Rattle.host_core.specs.Outside.{Outside}
use Rattle.host_core.proofs.Known.{append_known-nil}
use Rattle.wire_in.specs.declared.record.Record.{Record}
use Rattle.wire_in.specs.Cutting.{bodies_of, rest_of, pending}
use Rattle.stream_core.specs.Pending.{Expects}
use Rattle.rulebook.specs.Admission.{IsLawful}
use Rattle.market_core.specs.AdmissionState as admissions
use Rattle.market_core.specs.MarketState as markets
use Rattle.market_core.specs.MarketState.{most_messages}
use Rattle.screen_core.specs.declared.screen.Screen.{Screen}
use Rattle.screen_core.specs.declared.stream.Screening.{Screening}
use Rattle.screen_core.specs.Screened.{capacity, accepted, said}
use Rattle.screen_core.specs.InternalDesk.{HasPublished, HasRoom}

-- it stands for these accepted records, the newest first, and their messages were published
pub record Keeps (held : List Record) (screen : Screen) : Type 0 where
  pub within : screen.admission.capacity ≡ capacity
  pub admission : admissions.Represents screen.admission held
  pub market : markets.Represents screen.market held
  pub lawful : IsLawful capacity held
  pub published : IfSome screen.desk (HasPublished (said held))

-- so many records more may be accepted, and the board hasn't ended
pub record IsReadyFor (more : ℕ) (screen : Screen) : Type 0 where
  pub held : List Record
  pub keeps : Keeps held screen
  pub few : length held + more ≤ 2 ^ 30
  pub room : most_messages ≤ vec_capacity screen.messages
  pub shows : IsSome screen.desk

-- a screen of no records
pub record IsBlank (screen : Screen) : Type 0 where
  pub keeps : Keeps [] screen
  pub room : most_messages ≤ vec_capacity screen.messages
  pub shows : IsSome screen.desk

-- these bytes were read
pub record Reads (read : List ℕ) (screening : Screening) : Type 0 where
  pub keeps : Keeps (accepted (bodies_of read)) screening.screen
  pub begun : pending screening.cutter ≡ rest_of read

-- what is given: what had been sent before, the input, and how many bytes of it may be read
pub record Given : Type 0 where
  pub begin : Option (List ℕ)
  pub input : List ℕ
  pub most : ℕ

-- so many bytes were read, and nothing was sent
pub record Knows (given : Given) (count : ℕ) (waiting : List ℕ) (screening : Screening) (now : Outside) : Type 0 where
  pub reads : Reads (take count given.input) screening
  pub none : waiting ≡ []
  pub unsent : now.sent ≡ given.begin

-- so many bytes more may be read
pub record IsReady (more : ℕ) (screening : Screening) : Type 0 where
  pub screen : IsReadyFor more screening.screen
  pub room : HasRoom screening.pages

-- nothing was read yet
pub record IsFresh (screening : Screening) : Type 0 where
  pub cutter : screening.cutter ≡ []
  pub blank : IsBlank screening.screen
  pub room : HasRoom screening.pages

pub expects_none : {given : Given} {count : ℕ} {waiting : List ℕ} {screening : Screening} {now : Outside} → Knows given count waiting screening now → Expects given.begin now.sent waiting []
expects_none {given} knows = record { sent = []; known = knows.unsent ∙ sym (append_known-nil given.begin); whole = knows.none }

pub still_none : {given : Given} {count : ℕ} {waiting : List ℕ} {screening : Screening} {old new : Outside} → Knows given count waiting screening old → new.sent ≡ append_known given.begin [] → Knows given count [] screening new
still_none {given} knows sent = record { reads = knows.reads; none = refl; unsent = sent ∙ append_known-nil given.begin }

pub ready_for : {screen : Screen} (fewer more : ℕ) → fewer ≤ more → IsReadyFor more screen → IsReadyFor fewer screen
ready_for fewer more le ready = record { held = ready.held; keeps = ready.keeps; few = omega (arith, le, ready.few); room = ready.room; shows = ready.shows }

pub ready_for_fewer : (fewer more : ℕ) (screening : Screening) → fewer ≤ more → IsReady more screening → IsReady fewer screening
ready_for_fewer fewer more screening le ready = record { screen = ready_for fewer more le ready.screen; room = ready.room }
