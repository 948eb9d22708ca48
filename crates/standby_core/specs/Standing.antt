-- A standby on its way through an input. Private words: no public clause cites them.
use Rattle.std.specs.Prelude.{◌≡◌, ◌⊎◌, ℕ, ◌+◌, ◌^◌, ◌<◌, ◌≤◌, IsTrue, Option, List, [], ◌++◌, length, take}
use Rattle.std.specs.Io.KnownBytes.{append_known}
use Rattle.std.proofs.Common.{refl, sym, ap, subst, ◌∙◌, length-append, arith}
use Rattle.std.proofs.lemmas.List.{take_at}
use Rattle.host_core.specs.Outside.{Outside, Agrees, MayLeave, Elapses}
use Rattle.host_core.proofs.Moments.{goes_on, widened}
use Rattle.wire_in.specs.Cutting.{bodies_of, rest_of, pending}
use Rattle.wire_in.specs.declared.base.Base.{Base}
use Rattle.wire_in.specs.declared.record.Record.{Record}
use Rattle.journal_core.specs.Extended.{Extends}
use Rattle.journal_core.specs.Journal.{JournalState, IsAtRest, IsOfDisk}
use Rattle.journal_core.specs.Laws.{IsPassed}
use Rattle.journal_core.specs.Layout.{Holds, with_batch}
use Rattle.journal_core.proofs.Extending.{extends_on, extends_same}
use Rattle.market_core.specs.AdmissionState.{AdmissionState}
use Rattle.stream_core.specs.Pending.{Expects, SendsPrefix}
use Rattle.stream_core.specs.Taking.{OnlyExchanges}
use Rattle.stream_core.proofs.Pending.{expects_nothing}
use Rattle.standby_core.specs.declared.standing.Standby.{Standby}
use Rattle.standby_core.specs.Kept.{kept, replies}
use Rattle.standby_core.specs.Reading.{Admits}
use Rattle.standby_core.specs.Rounds.{RoundState, spelled}

-- what is given: the limit and the records of the journal at the start, what had been sent before, the input, and how many bytes of it
-- may be read
pub record Given : Type 0 where
  pub capacity : ℕ
  pub held : List Record
  pub begin : Option (List ℕ)
  pub input : List ℕ
  pub most : ℕ

-- what is kept of these bytes, and what is replied to them
abbrev pub kept_after : Given → List ℕ → List Record
kept_after given read = kept given.capacity given.held (bodies_of read)

abbrev pub replies_after : Given → List ℕ → List ℕ
replies_after given read = replies given.capacity 1 given.held (bodies_of read)

-- the frames of the bytes that may be read
abbrev pub frames_of : Given → List (List ℕ)
frames_of given = bodies_of (take given.most given.input)

-- an admission has taken these records: those behind the last base of the journal one by one, and those before it by the base
pub record HasAdmitted (capacity : ℕ) (accepted : List Record) (admission : AdmissionState) : Type 0 where
  pub base : Option Base
  pub later : List Record
  pub before : List Record
  pub passed : IsPassed base before
  pub whole : later ++ before ≡ accepted
  pub admits : Admits capacity base later admission

-- so many bytes of the input were read, what is kept of them is in the journal, and their replies were sent but for those that wait
pub record Follows (given : Given) (count : ℕ) (waiting : List ℕ) (standby : Standby) (now : Outside) : Type 0 where
  pub cutter : pending standby.cutter ≡ rest_of (take count given.input)
  pub admitted : HasAdmitted given.capacity (kept_after given (take count given.input)) standby.admission
  pub at_rest : IsAtRest standby.journal (kept_after given (take count given.input)) now
  pub limit : standby.journal.capacity ≡ given.capacity
  pub answered : standby.answered ≡ length (bodies_of (take count given.input))
  pub pending_is : Expects given.begin now.sent waiting (replies_after given (take count given.input))
  pub more : List (List ℕ)
  pub frames : bodies_of (take count given.input) ++ more ≡ frames_of given

-- the journal may be written, as many records were admitted as it holds, nothing waits in the round, and so many bytes more may be read
pub record IsReady (more : ℕ) (standby : Standby) (now : Outside) : Type 0 where
  pub whole : IsTrue standby.journal.whole
  pub of_disk : IsOfDisk standby.journal now.disk
  pub capacity : standby.admission.capacity ≡ standby.journal.capacity
  pub count : standby.admission.count ≡ standby.journal.count
  pub within : standby.admission.count ≤ standby.admission.capacity
  pub replies : standby.round.replies ≡ []
  pub records : standby.round.records ≡ []
  pub some : 1 ≤ standby.round.most
  pub most : standby.round.most ≤ 64
  pub few : standby.answered + more < 2 ^ 63

-- Rounds

-- Of all frames these were replied to, and the others were judged and wait: their replies, and the records among them that are new, which
-- were admitted.
pub record Judges (given : Given) (answered all : List (List ℕ)) (number : ℕ) (round : RoundState) (admission : AdmissionState) : Type 0 where
  pub waiting : List (List ℕ)
  pub whole : answered ++ waiting ≡ all
  pub number_is : number ≡ length answered
  pub count : length round.replies ≡ length waiting
  pub replied : spelled round.replies ≡ replies given.capacity (1 + length answered) (kept given.capacity given.held answered) waiting
  pub added : with_batch (kept given.capacity given.held answered) round.records ≡ kept given.capacity given.held all
  pub admitted : HasAdmitted given.capacity (kept given.capacity given.held all) admission

-- and these are the whole frames of the bytes read, the rest of which is the frame begun
pub record Gathers (given : Given) (answered : List (List ℕ)) (read : List ℕ) (standby : Standby) : Type 0 where
  pub cutter : pending standby.cutter ≡ rest_of read
  pub judges : Judges given answered (bodies_of read) standby.answered standby.round standby.admission

-- so many bytes of the input were read; what is kept of the frames that were replied to is in the journal
pub record Serves (given : Given) (count : ℕ) (waiting : List ℕ) (standby : Standby) (now : Outside) : Type 0 where
  pub answered : List (List ℕ)
  pub gathers : Gathers given answered (take count given.input) standby
  pub at_rest : IsAtRest standby.journal (kept given.capacity given.held answered) now
  pub limit : standby.journal.capacity ≡ given.capacity
  pub pending_is : Expects given.begin now.sent waiting (replies given.capacity 1 given.held answered)
  pub more : List (List ℕ)
  pub frames : bodies_of (take count given.input) ++ more ≡ frames_of given

-- the journal may be written, and as many records were admitted as it holds and wait in the round
pub record IsSound (standby : Standby) (known : Option (List ℕ)) : Type 0 where
  pub whole : IsTrue standby.journal.whole
  pub of_disk : IsOfDisk standby.journal known
  pub capacity : standby.admission.capacity ≡ standby.journal.capacity
  pub count : standby.admission.count ≡ standby.journal.count + length standby.round.records
  pub within : standby.admission.count ≤ standby.admission.capacity

-- a stop leaves the records as they were or with the batch, and nothing more was sent
pub record Keeps (capacity : ℕ) (records batch : List Record) (old : Outside) (image bytes : List ℕ) : Type 0 where
  pub holds : Holds image capacity records ⊎ Holds image capacity (with_batch records batch)
  pub sent : Agrees old.sent bytes

-- Runs

-- For some number of the first frames, the image holds what is kept of them, and since the begin a prefix of the replies to them was
-- sent.
pub record Leaves (given : Given) (image bytes : List ℕ) : Type 0 where
  pub count : ℕ
  pub within : count ≤ length (frames_of given)
  pub holds : Holds image given.capacity (kept given.capacity given.held (take count (frames_of given)))
  pub since : List ℕ
  pub unsent : List ℕ
  pub sent : Agrees (append_known given.begin since) bytes
  pub prefix : since ++ unsent ≡ replies given.capacity 1 given.held (take count (frames_of given))

-- the file was only extended, by batches of at most as many records as a round has frames
pub record Does (first next : Standby) (old new : Outside) : Type 0 where
  pub extends : Extends first.round.most old new
  pub most : next.round.most ≡ first.round.most

pub does_both : (first next last : Standby) (old mid new : Outside) → Does first next old mid → Does next last mid new → Does first last old new
does_both first next last old mid new one two = record {
  extends = extends_on first.round.most old mid new one.extends (subst (λ (most : ℕ). Extends most mid new) one.most two.extends);
  most = two.most ∙ one.most;
}

pub does_exchange : (standby : Standby) (old new : Outside) → OnlyExchanges old new → Does standby standby old new
does_exchange standby old new exchanges = record { extends = extends_same exchanges.disk (omega (arith, exchanges.disk_faults)); most = refl }

-- the disk is left alone
pub rests_still : {journal : JournalState} {records : List Record} {old new : Outside} → IsAtRest journal records old → OnlyExchanges old new → IsAtRest journal records new
rests_still rest exchanges = record {
  settled = record { only = λ image now. exchanges.disk ∙ rest.settled.only image (exchanges.left image now) };
  keeps = λ disk known. rest.keeps disk (sym exchanges.disk ∙ known);
}

pub ready_still : (standby : Standby) (old new : Outside) (more : ℕ) → OnlyExchanges old new → IsReady more standby old → IsReady more standby new
ready_still standby old new more exchanges ready = record {
  whole = ready.whole;
  of_disk = subst (IsOfDisk standby.journal) (sym exchanges.disk) ready.of_disk;
  capacity = ready.capacity;
  count = ready.count;
  within = ready.within;
  replies = ready.replies;
  records = ready.records;
  some = ready.some;
  most = ready.most;
  few = ready.few;
}

pub ready_for_fewer : (standby : Standby) (now : Outside) (fewer more : ℕ) → fewer ≤ more → IsReady more standby now → IsReady fewer standby now
ready_for_fewer standby now fewer more le ready = record {
  whole = ready.whole;
  of_disk = ready.of_disk;
  capacity = ready.capacity;
  count = ready.count;
  within = ready.within;
  replies = ready.replies;
  records = ready.records;
  some = ready.some;
  most = ready.most;
  few = omega (arith, le, ready.few);
}

-- once all was sent, nothing waits
pub follows_sent : (given : Given) (count : ℕ) (waiting : List ℕ) (standby : Standby) (old new : Outside) → Follows given count waiting standby old → OnlyExchanges old new
    → new.sent ≡ append_known given.begin (replies_after given (take count given.input)) → Follows given count [] standby new
follows_sent given count waiting standby old new follows exchanges sent = record {
  cutter = follows.cutter;
  admitted = follows.admitted;
  at_rest = rests_still follows.at_rest exchanges;
  limit = follows.limit;
  answered = follows.answered;
  pending_is = expects_nothing _ _ [] _ refl sent;
  more = follows.more;
  frames = follows.frames;
}

-- what a stop leaves that holds what is kept of some of the first frames, while a prefix of the replies to them was sent
pub leaves_of : (given : Given) (answered later : List (List ℕ)) (image bytes since unsent : List ℕ) → answered ++ later ≡ frames_of given → Holds image given.capacity (kept given.capacity given.held answered)
    → Agrees (append_known given.begin since) bytes → since ++ unsent ≡ replies given.capacity 1 given.held answered → Leaves given image bytes
leaves_of given answered later image bytes since unsent frames holds sent prefix =
    let same : answered ≡ take (length answered) (frames_of given) = sym (take_at answered later (length answered) refl) ∙ ap (take (length answered)) frames in
    record {
      count = length answered;
      within = omega (arith, length-append answered later, ap length frames);
      holds = subst (λ (bodies : List (List ℕ)). Holds image given.capacity (kept given.capacity given.held bodies)) same holds;
      since = since;
      unsent = unsent;
      sent = sent;
      prefix = prefix ∙ ap (replies given.capacity 1 given.held) same;
    }

-- what a journal that rests holds is in what a stop leaves
pub held_now : (journal : JournalState) (records : List Record) (now : Outside) (image : List ℕ) (capacity : ℕ) → journal.capacity ≡ capacity → IsAtRest journal records now → MayLeave now image
    → Holds image capacity records
held_now journal records now image capacity limit rest left =
    subst (λ (most : ℕ). Holds image most records) limit (record { gate = journal.gate; held = (rest.keeps image (rest.settled.only image left)).held })

-- to send what waits
pub sends_leave : (given : Given) (count : ℕ) (waiting : List ℕ) (standby : Standby) (old new : Outside) → Follows given count waiting standby old
    → Elapses old new (SendsPrefix given.begin (replies_after given (take count given.input)) old) → Elapses old new (Leaves given)
sends_leave given count waiting standby old new follows run = widened run (Leaves given) (λ image bytes stop.
    leaves_of given (bodies_of (take count given.input)) follows.more image bytes stop.sent stop.rest follows.frames (held_now standby.journal _ old image given.capacity follows.limit follows.at_rest stop.was) stop.known stop.prefix)

pub leaves_both : (given : Given) (old mid new : Outside) → Elapses old mid (Leaves given) → Elapses mid new (Leaves given) → Elapses old new (Leaves given)
leaves_both given old mid new first second = goes_on first second (λ image bytes leaves. leaves)
