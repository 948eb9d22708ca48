-- The stops while frames are sent.
use Rattle.std.proofs.Common.{◌≡◌, ℕ, List, [], ◌++◌, take, drop, sym, ap, subst, ◌∙◌, append_assoc}
use Rattle.std.specs.Prelude.{Option}
use Rattle.std.specs.Io.KnownBytes.{append_known}
use Rattle.std.proofs.lemmas.List.{append-nil, take-append-drop}
use Rattle.host_core.specs.Outside.{Outside, Agrees, MayLeave, Elapses, Sends, Stays}
use Rattle.host_core.proofs.Moments.{ended, goes_on, nothing, widened}
use Rattle.host_core.proofs.Known.{append_known-append}
use Rattle.stream_core.specs.Pending.{Expects, SendsPrefix}

-- nothing more was sent, and the rest waits
pub waits : (begin : Option (List ℕ)) (now : Outside) (waiting text : List ℕ) → Expects begin now.sent waiting text
    → (image bytes : List ℕ) → Stays now image bytes → SendsPrefix begin text now image bytes
waits begin now waiting text expects image bytes stays = record {
  was = stays.was;
  sent = expects.sent;
  rest = waiting;
  known = subst (λ known. Agrees known bytes) expects.known stays.sent;
  prefix = expects.whole;
}

-- a prefix of what waits is sent
pub sends_prefix : (begin : Option (List ℕ)) (old : Outside) (piece waiting text : List ℕ) → Expects begin old.sent waiting text → piece ≡ waiting
    → (image bytes : List ℕ) → Sends piece old image bytes → SendsPrefix begin text old image bytes
sends_prefix begin old piece waiting text expects same image bytes stop = record {
  was = stop.was;
  sent = expects.sent ++ take stop.count waiting;
  rest = drop stop.count waiting;
  known = rw (same, expects.known, append_known-append begin expects.sent (take stop.count waiting)) at stop.sent;
  prefix = rw (append_assoc, take-append-drop) expects.whole;
}

-- a prefix of a text is one of a longer text
pub prefix_of_longer : {begin : Option (List ℕ)} {old mid : Outside} (text more long : List ℕ) → text ++ more ≡ long
    → (image bytes : List ℕ) → MayLeave old image → SendsPrefix begin text mid image bytes → SendsPrefix begin long old image bytes
prefix_of_longer text more long is image bytes was stop = record {
  was = was;
  sent = stop.sent;
  rest = stop.rest ++ more;
  known = stop.known;
  prefix = sym (append_assoc stop.sent stop.rest more) ∙ ap (λ b. b ++ more) stop.prefix ∙ is;
}

-- a run that sends a prefix of a text, and then one that sends a prefix of a part of it
pub sends_on : {begin : Option (List ℕ)} {old mid new : Outside} {long : List ℕ} → Elapses old mid (SendsPrefix begin long old)
    → (text more : List ℕ) → text ++ more ≡ long → Elapses mid new (SendsPrefix begin text mid) → Elapses old new (SendsPrefix begin long old)
sends_on first text more is second = goes_on first second (λ image bytes stop. prefix_of_longer text more _ is image bytes (ended first stop.was).was stop)

-- a run that sends a prefix of a text, and then another
pub sends_whole : {begin : Option (List ℕ)} {old mid new : Outside} {text : List ℕ} → Elapses old mid (SendsPrefix begin text old) → Elapses mid new (SendsPrefix begin text mid) → Elapses old new (SendsPrefix begin text old)
sends_whole {text = text} first second = sends_on first text [] (append-nil text) second

-- a run that sends a prefix of a text
pub sends_longer : {begin : Option (List ℕ)} {old new : Outside} (text more long : List ℕ) → text ++ more ≡ long
    → Elapses old new (SendsPrefix begin text old) → Elapses old new (SendsPrefix begin long old)
sends_longer {begin} {old} text more long is run = widened run (SendsPrefix begin long old) (λ image bytes stop. prefix_of_longer text more long is image bytes stop.was stop)

pub sends_same : {begin : Option (List ℕ)} {old new : Outside} (text same : List ℕ) → text ≡ same
    → Elapses old new (SendsPrefix begin text old) → Elapses old new (SendsPrefix begin same old)
sends_same {begin} {old} {new} text same is run = subst (λ (t : List ℕ). Elapses old new (SendsPrefix begin t old)) is run

-- no time has passed, and the text waits
pub sends_none : {begin : Option (List ℕ)} (now : Outside) → ((image bytes : List ℕ) → now.leaves now.moment image bytes → Agrees now.sent bytes)
    → (waiting text : List ℕ) → Expects begin now.sent waiting text → Elapses now now (SendsPrefix begin text now)
sends_none {begin} now sent_now waiting text expects = widened (nothing now sent_now) (SendsPrefix begin text now) (waits begin now waiting text expects)

-- a run that sends all of a text, and then one that sends nothing
pub sends_stays : {begin : Option (List ℕ)} {old mid new : Outside} {text : List ℕ} → Elapses old mid (SendsPrefix begin text old) → mid.sent ≡ append_known begin text → Elapses mid new (Stays mid)
    → Elapses old new (SendsPrefix begin text old)
sends_stays {begin} {mid = mid} {text = text} first all second =
    sends_on first text [] (append-nil text) (widened second (SendsPrefix begin text mid) (waits begin mid [] text (record { sent = text; known = all; whole = append-nil text })))
