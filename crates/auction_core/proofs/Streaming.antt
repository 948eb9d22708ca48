-- The crossing of an input, from what was read to what was sent.
use Rattle.std.proofs.Common.{◌≡◌, ◌≢◌, ℕ, List, [], length, take, refl, sym, ap, subst, ◌∙◌, arith}
use Rattle.std.specs.Prelude.{Option, Some, Result, Ok, Err, IfOk, IfSome, OnOk, min}
use Rattle.std.specs.Result.{IsErrAnd}
use Rattle.std.specs.Io.KnownBytes.{append_known}
use Rattle.std.proofs.lemmas.List.{append-nil}
use Rattle.host_core.specs.declared.fault.Fault.{Fault}
use Rattle.host_core.specs.declared.fault.Fault.TheVariants as faults
use Rattle.host_core.specs.declared.status.Status.{Status}
use Rattle.host_core.specs.declared.status.Status.TheVariants.{Done, BadText}
use Rattle.host_core.specs.Outside.{Outside, Agrees, Elapses, NoFault}
use Rattle.host_core.specs.Faults.{Causes}
use Rattle.host_core.proofs.Causes.{caused}
use Rattle.host_core.proofs.Known.{append_known-nil}
use Rattle.host_core.proofs.Moments.{further, nothing, widened}
use Rattle.stream_core.specs.Outcomes.{SentOrStarved}
use Rattle.stream_core.specs.Pending.{Expects, SendsPrefix}
use Rattle.stream_core.specs.Asking.{Prompt}
use Rattle.stream_core.specs.Answering.{HasRead}
use Rattle.stream_core.proofs.Pending.{sends_none}
use Rattle.stream_core.proofs.Sending.{sends_longer, sends_on}
use Rattle.stream_core.proofs.Streamed.{Ran, TellsApart}
use Rattle.stream_core.specs.Taking.{ReadsAtMost}
use Rattle.auction_core.specs.Crossed.{IsAnswer, IsEnd, bytes_max}
use Rattle.auction_core.specs.declared.reading.Reading.{Reading}
use Rattle.auction_core.specs.InternalReading.{Began, Given, Knows, Reads}
use Rattle.auction_core.specs.Texts.{IsTextOf, end_of, lines_of}
use Rattle.auction_core.proofs.Ending.{ends_early, is_read}

-- what is given over an input
abbrev pub given_for : List ℕ → Outside → Given
given_for input now = record { begin = now.sent; input = input; most = bytes_max }

pub starts : (input : List ℕ) (now : Outside) (waiting : List ℕ) (reading : Reading) → waiting ≡ [] → Reads [] reading → now.input ≡ Some input
    → HasRead (λ count waiting later. Knows (given_for input now) count waiting reading later) input 0 waiting now
starts input now waiting reading none reads known = record {
  input_left = known;
  there = omega arith;
  reads = record { reads = reads; none = none; unsent = refl };
}

-- no fault is an end
pub tells : TellsApart IsEnd IsAnswer
tells = record { read = tt; send = tt; memory = tt; no_read = λ end. end; no_send = λ end. end; no_memory = λ end. end }

-- an end is an answer
pub answers : (status : Status) → IsEnd status → IsAnswer status
answers Done end = tt
answers (BadText line) end = tt
answers status end = absurd end

-- what holds of a value that is there
pub in_some : {A : Type 0} (o : Option A) (x : A) (P : A → Type 0) → o ≡ Some x → IfSome o P → P x
in_some {A} o x P is p = subst (λ (r : Option A). IfSome r P) is p

-- nothing was sent
pub nothing_sent : (now : Outside) → ((image bytes : List ℕ) → now.leaves now.moment image bytes → Agrees now.sent bytes) → (text : List ℕ)
    → Elapses now now (SendsPrefix now.sent text now)
nothing_sent now sent_now text = widened (nothing now sent_now) (SendsPrefix now.sent text now) (sends_none text now)

-- nothing waits, and nothing was sent since
pub none_waits : (now : Outside) (waiting : List ℕ) → waiting ≡ [] → Expects now.sent now.sent waiting []
none_waits now waiting none = record { sent = []; known = sym (append_known-nil now.sent); whole = none }

-- nothing is sent where the text is empty
pub no_bytes : (sent : Option (List ℕ)) (text : List ℕ) → text ≡ [] → sent ≡ append_known sent text
no_bytes sent text none = sym (ap (λ (t : List ℕ). append_known sent t) none ∙ append_known-nil sent)

-- What a call answered.

pub err_is : {T : Type 0} (r : Result T Fault) (f : Fault) → IsErrAnd r (λ e. e ≡ f) → r ≡ Err f
err_is (Ok x) f is = absurd is
err_is (Err e) f is = ap Err is

if_err : {T : Type 0} (r : Result T Fault) (f : Fault) (P : T → Type 0) → r ≡ Err f → IfOk r P
if_err (Ok x) f P is = absurd cc
if_err (Err e) f P is = tt

if_any : {T : Type 0} (r : Result T Fault) (P : T → Type 0) → ((x : T) → P x) → IfOk r P
if_any (Ok x) P all = all x
if_any (Err e) P all = tt

if_is : {T : Type 0} (r : Result T Fault) (x : T) (P : T → Type 0) → r ≡ Ok x → IfOk r P → P x
if_is {T} r x P is p = subst (λ (r : Result T Fault). IfOk r P) is p

both_ok : (r : Result Status Fault) {status end : Status} {Q R : Type 0} → IfOk r (λ s. s ≡ status) → OnOk r Q → status ≡ end → (Q → R) → IfOk r (λ s. (s ≡ end) × R)
both_ok (Ok s) same sent is on = (same ∙ is, on sent)
both_ok (Err fault) same sent is on = tt

-- The whole run.

abbrev RanSo : (List ℕ → List ℕ) → Result Status Fault → Outside → Outside → Type 0
RanSo whole result old new = Ran (λ read. []) whole end_of IsEnd IsAnswer bytes_max result old new

module _ {r : Result Status Fault} {reading : Reading} {old mid : Outside} (began : Began r reading old mid) (whole : List ℕ → List ℕ) where
  -- a fault ended the reading
  ended_by : (f : Fault) → r ≡ Err f → RanSo whole r old mid
  ended_by f is = record {
    moments = λ input known. sends_longer [] (whole input) (whole input) refl (began.moments input known);
    exact = λ input known. if_err r f _ is;
    taken = λ input known. if_err r f _ is;
    unread = began.unread;
    prompt = began.prompt;
    bytes = began.bytes;
    end = if_err r f _ is;
    causes = began.causes;
    unkept = began.unkept;
    disk = began.disk;
    disk_faults = began.disk_faults;
    continues = began.continues;
  }

  pub ran_err : (f : Fault) → r ≡ Err f → (answer : Result Status Fault) → IsErrAnd answer (λ e. e ≡ f) → RanSo whole answer old mid
  ran_err f is answer same = subst (λ (a : Result Status Fault). RanSo whole a old mid) (is ∙ sym (err_is answer f same)) (ended_by f is)

  module _ (texts : (input : List ℕ) → IsTextOf (lines_of input) (whole input)) where
    -- a line was bad
    pub ran_bad : (status : Status) → r ≡ Ok status → status ≢ Done → RanSo whole (Ok status) old mid
    ran_bad status is other = record {
      moments = λ input known. sends_longer [] (whole input) (whole input) refl (began.moments input known);
      exact = λ input known.
          let exact = if_is r status _ is (began.exact input known) in
          let early = ends_early bytes_max input status exact.0 other in
          (early.0, exact.1 ∙ ap (λ (t : List ℕ). append_known old.sent t) (sym ((texts input).bad early.1)));
      taken = λ input known end. (if_is r status _ is (began.taken input known) end).0;
      unread = λ input known failed. absurd cc;
      prompt = began.prompt;
      bytes = began.bytes;
      end = (if_is r status _ is began.end, answers status (if_is r status _ is began.end));
      causes = subst (λ (a : Result Status Fault). Causes a old mid) is began.causes;
      unkept = λ failed. absurd cc;
      disk = began.disk;
      disk_faults = began.disk_faults;
      continues = began.continues;
    }

    -- all was read, and then it was answered
    module _ (is : r ≡ Ok Done) (result : Result Status Fault) {new : Outside}
        (status : (read : List ℕ) → Reads read reading → IfOk result (λ s. s ≡ end_of read))
        (sent : (read text : List ℕ) → Reads read reading → IsTextOf (lines_of read) text → OnOk result (new.sent ≡ append_known mid.sent text))
        (moments : (read text : List ℕ) → Reads read reading → IsTextOf (lines_of read) text → Elapses mid new (SendsPrefix mid.sent text mid))
        (end : IfOk result (λ s. IsEnd s × IsAnswer s)) (outside : SentOrStarved result mid new) where
      unsent : (input : List ℕ) → old.input ≡ Some input → mid.sent ≡ old.sent
      unsent input known = (if_is r Done _ is (began.exact input known)).1 ∙ append_known-nil old.sent

      none : NoFault old mid
      none = subst (λ (a : Result Status Fault). Causes a old mid) is began.causes

      pub ran_done : RanSo whole result old new
      ran_done = record {
        moments = λ input known.
            let taken = if_is r Done _ is (began.taken input known) tt in
            sends_on (sends_longer [] (whole input) (whole input) refl (began.moments input known)) (whole input) [] (append-nil (whole input))
            (subst (λ (s : Option (List ℕ)). Elapses mid new (SendsPrefix s (whole input) mid)) (unsent input known)
            (moments (take (min bytes_max (length input)) input) (whole input) taken.1 ((is_read input).text (whole input) (texts input))));
        exact = λ input known.
            let taken = if_is r Done _ is (began.taken input known) tt in
            both_ok result (status (take (min bytes_max (length input)) input) taken.1) (sent (take (min bytes_max (length input)) input) (whole input) taken.1 ((is_read input).text (whole input) (texts input)))
            (is_read input).end (λ all. all ∙ ap (λ (s : Option (List ℕ)). append_known s (whole input)) (unsent input known));
        taken = λ input known.
            let taken = if_is r Done _ is (began.taken input known) tt in
            if_any result _ (λ s ended. outside.keeps.input ∙ taken.0);
        unread = λ input known failed. absurd (outside.unread failed);
        prompt = λ input known. subst (λ asks. Prompt (λ read. []) old.sent input old.asks asks) (sym outside.keeps.asks) (began.prompt input known);
        bytes = subst (λ (left : Option (List ℕ)). ReadsAtMost bytes_max old.input left) (sym outside.keeps.input) began.bytes;
        end = end;
        causes = caused new result none outside.causes;
        unkept = outside.unkept;
        disk = outside.keeps.disk ∙ began.disk;
        disk_faults = outside.keeps.disk_faults ∙ began.disk_faults;
        continues = further began.continues outside.keeps.continues;
      }
