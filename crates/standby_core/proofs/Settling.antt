-- A round that is kept and then replied to, and what its stops leave.
use Rattle.std.proofs.Common.{◌≡◌, ◌⊎◌, inl, inr, ℕ, ◌+◌, ◌-◌, ◌≤◌, ◌<◌, ◌^◌, ◌==◌, true, cond, true≢false, List, [], ◌++◌, length, take, drop, sym, ap, subst, ◌∙◌, append_assoc, length-append, arith}
use Rattle.std.specs.Prelude.{Option, IsTrue, Result, nat_le}
use Rattle.std.specs.Io.KnownBytes.{append_known}
use Rattle.std.proofs.Math.Seq.{take-add}
use Rattle.std.proofs.lemmas.List.{append-nil, take_all, take-append-drop, take-append-le}
use Rattle.std.proofs.lemmas.Bool.Decides.{nat_tests}
use Rattle.host_core.specs.declared.status.Status.{Status}
use Rattle.host_core.specs.declared.status.Status.TheVariants.{Done, Truncated, SessionFull}
use Rattle.host_core.specs.Outside.{Outside, Agrees}
use Rattle.host_core.specs.Frames.{OnlySends, OnlyWrites}
use Rattle.wire_in.specs.declared.record.Record.{Record}
use Rattle.wire_in.specs.declared.record.Refusal.{Refusal}
use Rattle.wire_in.specs.Cutting.{bodies_of, rest_of, pending}
use Rattle.wire_in.proofs.Cuts.{bodies_of-append}
use Rattle.journal_core.specs.Extended.{Extends}
use Rattle.journal_core.specs.Journal.{JournalState, IsAtRest, IsOfDisk}
use Rattle.journal_core.specs.Layout.{Holds, with_batch}
use Rattle.journal_core.proofs.Extending.{extends_on, extends_same}
use Rattle.market_core.specs.AdmissionState.{AdmissionState}
use Rattle.stream_core.specs.Answering.{IsNext, IsThrough, LeavesInput}
use Rattle.stream_core.specs.Ends.{end_of}
use Rattle.stream_core.specs.Pending.{Expects, SendsPrefix}
use Rattle.standby_core.specs.declared.standing.Standby.{Standby}
use Rattle.standby_core.specs.Kept.{kept, replies}
use Rattle.standby_core.specs.Rounds.{new_by, spelled}
use Rattle.standby_core.specs.Standing.{Does, Follows, Gathers, Given, HasAdmitted, IsReady, IsSound, Judges, Keeps, Leaves, Serves, frames_of, held_now, kept_after, leaves_of, replies_after}
use Rattle.standby_core.proofs.OneFrame.{replies-append, within_by}

module _ {given : Given} {count : ℕ} {waiting : List ℕ} {standby : Standby} {now : Outside} (serves : Serves given count waiting standby now) where
  abbrev judged : Judges given serves.answered (bodies_of (take count given.input)) standby.answered standby.round standby.admission
  judged = serves.gathers.judges

  abbrev held : List Record
  held = kept given.capacity given.held serves.answered

  -- what is sent for the frames of the round, behind what was expected before
  pub replied_all : replies given.capacity 1 given.held serves.answered ++ spelled standby.round.replies ≡ replies_after given (take count given.input)
  replied_all =
      ap (λ (l : List ℕ). replies given.capacity 1 given.held serves.answered ++ l) judged.replied
      ∙ sym (replies-append given.capacity 1 given.held serves.answered judged.waiting)
      ∙ ap (replies given.capacity 1 given.held) judged.whole

  frames_behind : serves.answered ++ (judged.waiting ++ serves.more) ≡ frames_of given
  frames_behind = sym (append_assoc serves.answered judged.waiting serves.more) ∙ ap (λ (l : List (List ℕ)). l ++ serves.more) judged.whole ∙ serves.frames

  -- a stop while the batch is appended
  pub leaves_keeps : (image bytes : List ℕ) → Keeps standby.journal.capacity held standby.round.records now image bytes → Leaves given image bytes
  leaves_keeps image bytes stop = elim (subst (λ (c : ℕ). Holds image c held ⊎ Holds image c (with_batch held standby.round.records)) serves.limit stop.holds) [
    | inl before ↦ leaves_of given serves.answered (judged.waiting ++ serves.more) image bytes serves.pending_is.sent waiting frames_behind before sent serves.pending_is.whole
    | inr after ↦ leaves_of given (bodies_of (take count given.input)) serves.more image bytes serves.pending_is.sent (waiting ++ spelled standby.round.replies) serves.frames
        (subst (λ (l : List Record). Holds image given.capacity l) judged.added after) sent
        (sym (append_assoc serves.pending_is.sent waiting (spelled standby.round.replies)) ∙ ap (λ (l : List ℕ). l ++ spelled standby.round.replies) serves.pending_is.whole ∙ replied_all)
  ]
    where
      sent : Agrees (append_known given.begin serves.pending_is.sent) bytes
      sent = subst (λ (known : Option (List ℕ)). Agrees known bytes) serves.pending_is.known stop.sent

  -- a stop while the replies are sent, once the batch is kept
  pub leaves_replies : {mid : Outside} (journal : JournalState) → journal.capacity ≡ standby.journal.capacity → IsAtRest journal (with_batch held standby.round.records) mid → (image bytes : List ℕ)
      → SendsPrefix given.begin (replies given.capacity 1 given.held serves.answered ++ spelled standby.round.replies) mid image bytes → Leaves given image bytes
  leaves_replies {mid} journal limit rest image bytes stop =
      leaves_of given (bodies_of (take count given.input)) serves.more image bytes stop.sent stop.rest serves.frames
      (subst (λ (l : List Record). Holds image given.capacity l) judged.added (held_now journal _ mid image given.capacity (limit ∙ serves.limit) rest stop.was)) stop.known (stop.prefix ∙ replied_all)

  -- and where all were replied to
  pub follows_on : {next : Standby} {new : Outside} {left : List ℕ} → next.cutter ≡ standby.cutter → next.admission ≡ standby.admission → next.answered ≡ standby.answered + length standby.round.replies
      → next.journal.capacity ≡ standby.journal.capacity → IsAtRest next.journal (with_batch held standby.round.records) new
      → Expects given.begin new.sent left (replies given.capacity 1 given.held serves.answered ++ spelled standby.round.replies) → Follows given count left next new
  follows_on {next} {new} {left} cutter admission number limit rest expects = record {
    cutter = ap pending cutter ∙ serves.gathers.cutter;
    admitted = subst (HasAdmitted given.capacity (kept_after given (take count given.input))) (sym admission) judged.admitted;
    at_rest = subst (λ (l : List Record). IsAtRest next.journal l new) judged.added rest;
    limit = limit ∙ serves.limit;
    answered = omega (arith, number, judged.number_is, judged.count, length-append serves.answered judged.waiting, ap length judged.whole);
    pending_is = subst (λ (text : List ℕ). Expects given.begin new.sent left text) replied_all expects;
    more = serves.more;
    frames = serves.frames;
  }

-- Rounds and pieces

-- nothing waits in the round
pub gathers_none : {given : Given} {count : ℕ} {waiting : List ℕ} {standby : Standby} {now : Outside} → Follows given count waiting standby now → standby.round.replies ≡ [] → standby.round.records ≡ []
    → Gathers given (bodies_of (take count given.input)) (take count given.input) standby
gathers_none {given} {count} {standby = standby} follows none empty =
    let all = bodies_of (take count given.input) in
    record {
      cutter = follows.cutter;
      judges = record {
        waiting = [];
        whole = append-nil all;
        number_is = follows.answered;
        count = ap length none;
        replied = ap spelled none;
        added = ap (with_batch (kept given.capacity given.held all)) empty;
        admitted = follows.admitted;
      };
    }

-- the next bytes of the input behind so many
module _ (given : Given) {count : ℕ} {piece : List ℕ} (next : IsNext given.input given.most count piece) where
  pub joined : (n : ℕ) → n ≤ length piece → take count given.input ++ take n piece ≡ take (count + n) given.input
  joined n le =
      let behind = drop count given.input in
      let m = length piece in
      ap (λ (b : List ℕ). take count given.input ++ b)
      (ap (take n) (sym next.is) ∙ sym (take-append-le n (take m behind) (drop m behind) (omega (arith, le, ap length next.is))) ∙ ap (take n) (take-append-drop m behind))
      ∙ sym (take-add count n given.input)

  -- and their frames are the first of those that may be read
  pub frames_first : (n : ℕ) → n ≤ length piece → (more : List (List ℕ)) × (bodies_of (take (count + n) given.input) ++ more ≡ frames_of given)
  frames_first n le =
      let read = take (count + n) given.input in
      let rest = take (given.most - (count + n)) (drop (count + n) given.input) in
      let all : read ++ rest ≡ take given.most given.input = sym (take-add (count + n) (given.most - (count + n)) given.input) ∙ ap (λ (k : ℕ). take k given.input) (omega (arith, next.within, le)) in
      (bodies_of (rest_of read ++ rest), sym (bodies_of-append read rest) ∙ ap bodies_of all)

  -- a round behind so many bytes, filled from more of them
  pub serves_on : {from to : ℕ} {waiting : List ℕ} {standby later : Standby} {now : Outside} → from ≤ to → to ≤ length piece → Follows given (count + from) waiting standby now → standby.round.replies ≡ [] → standby.round.records ≡ []
      → later.journal ≡ standby.journal
      → (Gathers given (bodies_of (take (count + from) given.input)) (take count given.input ++ take from piece) standby → Gathers given (bodies_of (take (count + from) given.input)) (take count given.input ++ take to piece) later)
      → Serves given (count + to) waiting later now
  serves_on {from} {to} {waiting} {standby} {later} {now} up within follows none empty journal filled =
      let answered = bodies_of (take (count + from) given.input) in
      let more = frames_first to within in
      record {
        answered = answered;
        gathers = subst (λ (read : List ℕ). Gathers given answered read later) (joined to within)
            (filled (subst (λ (read : List ℕ). Gathers given answered read standby) (sym (joined from (omega (arith, up, within)))) (gathers_none follows none empty)));
        at_rest = subst (λ (j : JournalState). IsAtRest j (kept given.capacity given.held answered) now) (sym journal) follows.at_rest;
        limit = ap (λ (j : JournalState). j.capacity) journal ∙ follows.limit;
        pending_is = follows.pending_is;
        more = more.0;
        frames = more.1;
      }

-- a standby whose round is empty

pub sound_of : {standby : Standby} {now : Outside} (more : ℕ) → IsReady more standby now → IsSound standby now.disk
sound_of more ready = record {
  whole = ready.whole;
  of_disk = ready.of_disk;
  capacity = ready.capacity;
  count = omega (arith, ready.count, ap length ready.records);
  within = ready.within;
}

pub ready_of : {standby : Standby} {now : Outside} (more : ℕ) → IsSound standby now.disk → standby.round.replies ≡ [] → standby.round.records ≡ [] → 1 ≤ standby.round.most → standby.round.most ≤ 64
    → standby.answered + more < 2 ^ 63 → IsReady more standby now
ready_of more sound none empty some most few = record {
  whole = sound.whole;
  of_disk = sound.of_disk;
  capacity = sound.capacity;
  count = omega (arith, sound.count, ap length empty);
  within = sound.within;
  replies = none;
  records = empty;
  some = some;
  most = most;
  few = few;
}

pub writes_leave : {old new : Outside} → OnlyWrites old new → LeavesInput old new
writes_leave writes = record { input = writes.input; asks = writes.asks; read_faults = writes.read_faults; continues = writes.continues }

-- What was done.

-- what was done to a standby that filled its round since
pub does_as : {first next other : Standby} {old now : Outside} → Does first next old now → other.round.most ≡ next.round.most → Does first other old now
does_as does same = record { extends = does.extends; most = same ∙ does.most }

-- a round was kept, and replied to
pub does_round : (first next : Standby) {old mid new : Outside} → Extends first.round.most old mid → OnlySends mid new → next.round.most ≡ first.round.most → Does first next old new
does_round first next {old} {mid} {new} extends sends most = record {
  extends = extends_on first.round.most old mid new extends (extends_same sends.disk (omega (arith, sends.disk_faults)));
  most = most;
}

-- a frame was judged
pub sound_judged : {standby next : Standby} {known : Option (List ℕ)} (part : Result (ℕ × Record) Refusal) → IsSound standby known → next.journal ≡ standby.journal → next.round.records ≡ standby.round.records ++ new_by standby.admission part
    → next.admission.count ≡ standby.admission.count + length (new_by standby.admission part) → next.admission.capacity ≡ standby.admission.capacity → IsSound next known
sound_judged {standby} {next} {known} part sound journal recorded counts limit = record {
  whole = subst (λ (j : JournalState). IsTrue j.whole) (sym journal) sound.whole;
  of_disk = subst (λ (j : JournalState). IsOfDisk j known) (sym journal) sound.of_disk;
  capacity = limit ∙ sound.capacity ∙ ap (λ (j : JournalState). j.capacity) (sym journal);
  count = omega (arith, counts, sound.count, ap (λ (j : JournalState). j.count) journal, ap length recorded, length-append standby.round.records (new_by standby.admission part));
  within = omega (arith, counts, limit, within_by standby.admission part sound.within);
}

-- its round was kept
pub sound_kept : {standby next : Standby} {journal : JournalState} {old mid known : Option (List ℕ)} → IsSound standby old → known ≡ mid → next.journal ≡ journal → next.admission ≡ standby.admission → next.round.records ≡ []
    → IsTrue journal.whole → IsOfDisk journal mid → journal.count ≡ standby.journal.count + length standby.round.records → journal.capacity ≡ standby.journal.capacity → IsSound next known
sound_kept {standby} {next} {journal} {mid} {known} sound same is admission empty whole of_disk counts limit = record {
  whole = subst (λ (j : JournalState). IsTrue j.whole) (sym is) whole;
  of_disk = subst (λ (j : JournalState). IsOfDisk j known) (sym is) (subst (IsOfDisk journal) (sym same) of_disk);
  capacity = ap (λ (a : AdmissionState). a.capacity) admission ∙ sound.capacity ∙ sym limit ∙ ap (λ (j : JournalState). j.capacity) (sym is);
  count = omega (arith, ap (λ (a : AdmissionState). a.count) admission, sound.count, counts, ap (λ (j : JournalState). j.count) is, ap length empty);
  within = subst (λ (a : AdmissionState). a.count ≤ a.capacity) (sym admission) sound.within;
}

-- How an input ends

module _ {text : List ℕ → List ℕ} {begin : Option (List ℕ)} {count most : ℕ} {input : List ℕ} {now : Outside} (through : IsThrough text begin true input count most now) where
  reached : (now.sent ≡ append_known begin (text (take count input))) × ((count ≡ length input) ⊎ (count ≡ most))
  reached = elim through.ended [ inl stop ↦ absurd (true≢false stop) | inr end ↦ end ]

  -- all of it was read that may be
  all_read : take count input ≡ take most input
  all_read = elim reached.1 [
    | inl all ↦ take_all count input (omega (arith, all)) ∙ sym (take_all most input (omega (arith, all, through.within)))
    | inr full ↦ ap (λ (n : ℕ). take n input) full
  ]

  pub sent_all : now.sent ≡ append_known begin (text (take most input))
  sent_all = reached.0 ∙ ap (λ (bytes : List ℕ). append_known begin (text bytes)) all_read

  pub ends_so : (status : Status) → status ≡ cond (nat_le most count) SessionFull (cond (length (rest_of (take count input)) == 0) Done Truncated) → status ≡ end_of most input
  ends_so status is = elim reached.1 [
    | inl all ↦ is ∙ (λ i. cond (nat_le most (all i)) SessionFull (cond (length (rest_of (take_all count input (omega (arith, all)) i)) == 0) Done Truncated))
    | inr full ↦ grind (arith, nat_tests, is, full, through.there)
  ]
