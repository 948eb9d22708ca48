-- A session that reads its input: what its stops leave, and its runs, one after another.
use Rattle.std.proofs.Common.{◌≡◌, inl, inr, ℕ, ◌+◌, ◌-◌, ◌≤◌, List, [], ◌∷◌, ◌++◌, length, reverse, take, drop, take-add, Option, Result, Ok, refl, sym, ap, subst, ◌∙◌, append_assoc, append-nil, length-append, arith}
use Rattle.std.specs.Io.KnownBytes.{append_known}
use Rattle.std.proofs.lemmas.List.{nil_from_length, length-reverse}
use Rattle.std.proofs.lemmas.List.Elements.{All-nil, All-cons}
use Rattle.host_core.specs.Outside.{Outside, Agrees, MayLeave}
use Rattle.host_core.specs.declared.fault.Fault.{Fault}
use Rattle.host_core.proofs.Moments.{nothing, widened, goes_on, further}
use Rattle.wire_in.specs.declared.record.Record.{Record}
use Rattle.wire_in.specs.Cutting.{bodies_of, rest_of}
use Rattle.wire_in.proofs.Cuts.{bodies_of-append}
use Rattle.rulebook.proofs.Sending.{accepted_of-append}
use Rattle.journal_core.specs.Layout.{with_batch}
use Rattle.stream_core.specs.Pending.{Expects}
use Rattle.stream_core.specs.Taking.{TakesPiece}
use Rattle.stream_core.proofs.Pending.{on_ok}
use Rattle.engine_core.specs.declared.session.Session.{Session}
use Rattle.engine_core.specs.Sessions.{Start, held_after, expected, Answered, IsSafe}
use Rattle.engine_core.specs.Serving.{Reads, Serves, IsKeeping, Keeps, Leaves, OnlyAnswers, Runs}
use Rattle.engine_core.specs.Rounds.{records_in}
use Rattle.engine_core.specs.Unwritten.{AcceptsNone}
use Rattle.engine_core.proofs.Answering.{none_waits}
use Rattle.engine_core.proofs.Expecting.{Begins, accepted_grows, held_further, added, expected-more, at_rest, keeping_further, safe_of, safe_further}
use Rattle.engine_core.proofs.Rounds.{batch_of}
use Rattle.engine_core.proofs.Unwritten.{idle, still_nothing}

-- the first bytes of the input, and more of them
pub up_to : (n m : ℕ) (input : List ℕ) → n ≤ m → Begins (take n input) (take m input)
up_to n m input le = record { more = take (m - n) (drop n input); whole = sym (take-add n (m - n) input) ∙ ap (λ (k : ℕ). take k input) (omega arith) }

module _ {holds : List Record → Outside → Type 0} {start : Start} {input : List ℕ} {count : ℕ} {session : Session} {old : Outside}
    (reads : Reads holds start input count session old) (empty : session.round.outcomes ≡ []) where
  pub all_answered : reads.serves.answered ≡ bodies_of (take count input)
  all_answered = none_waits reads.serves.judges.answers.waits empty

  -- all that is expected waits or was sent
  pub expects_all : Expects start.sent old.sent session.outbox (expected start (bodies_of (take count input)))
  expects_all = subst (λ (b : List (List ℕ)). Expects start.sent old.sent session.outbox (expected start b)) all_answered reads.serves.judges.answers.pending_is

  pub held_all : holds (held_after start (bodies_of (take count input))) old
  held_all = subst (λ (b : List (List ℕ)). holds (held_after start b) old) all_answered reads.serves.held

  -- all that was read is answered, once it was sent
  pub answered_by : (new : Outside) → new.input ≡ old.input → new.sent ≡ append_known start.sent (expected start (bodies_of (take count input)))
      → ((records : List Record) → holds records old → holds records new) → Answered holds start input count new
  answered_by new same sent still = record { input_left = same ∙ reads.input_left; there = reads.there; sent = sent; held = still _ held_all }

-- n bytes more were read
pub piece_is : {holds : List Record → Outside → Type 0} {start : Start} {input : List ℕ} {count : ℕ} {session : Session} {old : Outside} → Reads holds start input count session old
    → {most n : ℕ} {mid : Option (List ℕ)} {buffer : List ℕ} → TakesPiece most old.input mid buffer n → take count input ++ take n buffer ≡ take (count + n) input
piece_is {input = input} {count = count} reads {n = n} takes =
    ap (λ (b : List ℕ). take count input ++ b) (takes.given (drop count input) reads.input_left) ∙ sym (take-add count n input)

module _ {holds : List Record → Outside → Type 0} {start : Start} {read : List ℕ} {session : Session} {now : Outside} (serves : Serves holds start read session now) where
  -- what the accepted records of the round make of those that are held
  pub kept_is : with_batch (held_after start serves.answered) (records_in session.round.outcomes) ≡ held_after start (bodies_of read)
  kept_is =
      rw (serves.judges.answers.waits.outcomes_are, ← serves.judges.answers.waits.whole)
      (batch_of start.capacity (held_after start serves.answered) serves.judges.answers.waits.waiting ∙ sym (accepted_of-append start.capacity start.held serves.answered serves.judges.answers.waits.waiting))

  -- where no record of all bytes is accepted, the round has none
  pub no_records : AcceptsNone start (bodies_of read) → records_in session.round.outcomes ≡ []
  no_records none =
      let answered = accepted_grows start.capacity start.held serves.answered in
      let same = simp (length-append, length-reverse) at (ap length (kept_is ∙ none)) in
      nil_from_length (records_in session.round.outcomes) (omega (arith, same, simp length-append at (ap length answered.1)))

  -- a stop that leaves what is held
  safe_held : (recovers : List Record → List ℕ → Type 0) (image bytes : List ℕ) → recovers (held_after start serves.answered) image → Agrees now.sent bytes → IsSafe recovers start (bodies_of read) image bytes
  safe_held recovers image bytes recovered sent =
      rw serves.judges.answers.waits.whole at (safe_of recovers start serves.answered serves.judges.answers.waits.waiting image bytes serves.judges.answers.pending_is.sent session.outbox recovered
      (rw serves.judges.answers.pending_is.known at sent) serves.judges.answers.pending_is.whole)

  -- or the round kept
  pub leaves_keeps : (most : ℕ) (recovers : List Record → List (List Record) → List ℕ → Type 0) → length (records_in session.round.outcomes) ≤ most → (image bytes : List ℕ)
      → Keeps recovers (held_after start serves.answered) (records_in session.round.outcomes) now image bytes → Leaves most recovers start (bodies_of read) image bytes
  leaves_keeps most recovers few image bytes stop =
      let batch = records_in session.round.outcomes in
      let more = added start serves.answered serves.judges.answers.waits.waiting in
      let whole = sym (expected-more start serves.answered serves.judges.answers.waits.waiting) ∙ ap (expected start) serves.judges.answers.waits.whole in
      let sent = sym (append_assoc _ _ more) ∙ ap (λ (b : List ℕ). b ++ more) serves.judges.answers.pending_is.whole ∙ whole in
      elim stop.adds [
        | inl before ↦ safe_held _ image bytes (at_rest (reverse batch) kept_is before) stop.sent
        | inr (inl during) ↦ safe_held _ image bytes
            (record { pending = batch ∷ []; few = omega arith; small = All-cons (λ (one : List Record). length one ≤ most) batch [] few (All-nil (λ (one : List Record). length one ≤ most)); more = []; next = ap (λ (b : List Record). with_batch (held_after start serves.answered) b) (append-nil batch) ∙ kept_is; recovered = during }) stop.sent
        | inr (inr after) ↦ rw append-nil at (safe_of (IsKeeping most recovers start (bodies_of read)) start (bodies_of read) [] image bytes serves.judges.answers.pending_is.sent (session.outbox ++ more) (at_rest [] refl (rw kept_is at after)) (rw serves.judges.answers.pending_is.known at stop.sent) sent)
      ]

  -- no time has passed
  pub idles : {most : ℕ} (recovers : List Record → List (List Record) → List ℕ → Type 0) {all : List ℕ} → Begins read all → ((image bytes : List ℕ) → now.leaves now.moment image bytes → Agrees now.sent bytes)
      → ((records : List Record) (image : List ℕ) → holds records now → MayLeave now image → recovers records [] image) → Runs {T = Unit {0}} most holds recovers recovers start read all (Ok tt) session now now
  idles recovers begins sent_now left = record {
    serves = serves;
    before = λ records pending image recovered. recovered;
    moments = widened (nothing now sent_now) _ (λ image bytes stays.
        safe_further _ start begins _ (λ records at keeping. keeping_further {recovers = recovers} begins keeping keeping.recovered) image bytes (safe_held _ image bytes (at_rest _ kept_is (left _ image serves.held stays.was)) stays.sent));
    nothing = λ none. idle now sent_now;
    starved = λ is. absurd cc;
  }

-- what is left alone by a run, and by the next
pub answers_on : (touches : Outside → Outside → Type 0) {old mid new : Outside} → ((old mid new : Outside) → touches old mid → touches mid new → touches old new)
    → OnlyAnswers touches old mid → OnlyAnswers touches mid new → OnlyAnswers touches old new
answers_on touches {old} {mid} {new} both first second = record {
  input = second.input ∙ first.input;
  asks = second.asks ∙ first.asks;
  read_faults = second.read_faults ∙ first.read_faults;
  continues = further first.continues second.continues;
  to_disk = both old mid new first.to_disk second.to_disk;
}

-- where no record of all bytes is accepted, none of the first ones is
none_before : (start : Start) {prefix all : List ℕ} → Begins prefix all → AcceptsNone start (bodies_of all) → AcceptsNone start (bodies_of prefix)
none_before start {prefix} {all} begins none =
    let before = accepted_grows start.capacity start.held (bodies_of prefix) in
    let same = (held_further start begins).1 ∙ none in
    rw (nil_from_length before.0 (omega (arith, simp length-append at (ap length same), simp length-append at (ap length before.1)))) at before.1

-- a run, and then one over the first bytes
pub runs_on : {T U : Type 0} {most : ℕ} {x : U} {result : Result T Fault} {holds keeps : List Record → Outside → Type 0} {recovers later last : List Record → List (List Record) → List ℕ → Type 0} {start : Start} {read prefix all : List ℕ} {session next : Session} {old mid new : Outside}
    → Begins prefix all → Runs most holds recovers later start read all (Ok x) session old mid → Runs most keeps later last start prefix prefix result next mid new → Runs most keeps recovers last start prefix all result next old new
runs_on {result = result} {start = start} {prefix = prefix} begins first second = record {
  serves = second.serves;
  before = on_ok result second.before (λ before records pending image recovered. first.before records pending image (before records pending image recovered));
  moments = goes_on first.moments second.moments
      (safe_further _ start begins _ (λ records image keeping. keeping_further begins keeping (first.before records keeping.pending image keeping.recovered)));
  nothing = λ none. still_nothing (first.nothing none) (second.nothing (none_before start begins none));
  starved = λ is.
      let short = second.starved is in
      let more = bodies_of (rest_of prefix ++ begins.more) in
      record {
        answered = short.answered;
        waiting = short.waiting ++ more;
        frames = ap bodies_of (sym begins.whole) ∙ bodies_of-append prefix begins.more ∙ ap (λ (b : List (List ℕ)). b ++ more) short.frames ∙ append_assoc short.answered short.waiting more;
        short = record { body = short.short.body; later = short.short.later ++ more; first = ap (λ (b : List (List ℕ)). b ++ more) short.short.first; x = short.short.x; accepted = short.short.accepted; takes = short.short.takes };
        sent = short.sent;
      };
}
