-- A text that is sent, piece by piece.
use Rattle.std.proofs.Common.{◌≡◌, ℕ, List, [], ◌∷◌, ◌++◌, refl, sym, ap, subst, ◌∙◌, append_assoc}
use Rattle.std.specs.Prelude.{Some, Result, Ok, Err, OnOk, IfOk}
use Rattle.std.specs.Io.KnownBytes.{append_known}
use Rattle.std.proofs.lemmas.List.{append-nil}
use Rattle.std.proofs.lemmas.List.Concat.{flat_map-cons}
use Rattle.host_core.specs.declared.fault.Fault.{Fault}
use Rattle.host_core.specs.declared.fault.Fault.TheVariants.{Read, Send, Disk, Memory}
use Rattle.host_core.specs.declared.status.Status.{Status}
use Rattle.host_core.specs.declared.status.Status.TheVariants.{Done}
use Rattle.host_core.specs.Outside.{Outside, Agrees, MayLeave, Elapses, NoFault, Sends}
use Rattle.host_core.specs.Frames.{OnlySends}
use Rattle.host_core.proofs.Causes.{no_fault, faultless}
use Rattle.host_core.proofs.Chains.{sends_nothing, onward}
use Rattle.host_core.proofs.Moments.{ended, nothing, widened}
use Rattle.host_core.proofs.Known.{append_known-nil}
use Rattle.wire_core.specs.Frames.{framed}
use Rattle.wire_in.specs.declared.record.Record.{Record}
use Rattle.wire_in.specs.Spelling.{body_of}
use Rattle.stream_core.specs.Ends.{answer_of}
use Rattle.stream_core.specs.Outcomes.{SentOrStarved}
use Rattle.stream_core.specs.Pending.{Expects, SendsPrefix, SentPrefix}
use Rattle.stream_core.proofs.Pending.{prefix_sent, sends_none}
use Rattle.stream_core.proofs.Sending.{sends_on, sends_prefix}
use Rattle.gen_core.specs.Sent.{frames_of, IsAnswer, SendsText}
use Rattle.gen_core.specs.InternalSending.{Sending}

-- nothing was sent, and nothing waits
pub none_waits : (now : Outside) (waiting : List ℕ) → waiting ≡ [] → Expects now.sent now.sent waiting []
none_waits now waiting none = record { sent = []; known = sym (append_known-nil now.sent); whole = none }

pub nothing_sent : (now : Outside) → ((image bytes : List ℕ) → now.leaves now.moment image bytes → Agrees now.sent bytes) → (text : List ℕ)
    → Elapses now now (SendsPrefix now.sent text now)
nothing_sent now sent_now text = widened (nothing now sent_now) (SendsPrefix now.sent text now) (sends_none text now)

-- no record was given yet
pub begun : (left : List Record) (waiting : List ℕ) (now : Outside) → ((image bytes : List ℕ) → now.leaves now.moment image bytes → Agrees now.sent bytes)
    → waiting ≡ [] → Sending (frames_of left) waiting left now now
begun left waiting now sent_now none = record {
  done = [];
  expects = none_waits now waiting none;
  whole = refl;
  moments = nothing_sent now sent_now (frames_of left);
  keeps = sends_nothing now;
  none = no_fault now;
}

-- the frame of the first record, and those of the others
first_frame : (x : Record) (left rest : List Record) → left ≡ x ∷ rest → framed (body_of x) ++ frames_of rest ≡ frames_of left
first_frame x left rest is = sym (ap frames_of is ∙ flat_map-cons (λ y. framed (body_of y)) x rest)

module _ {text waiting : List ℕ} {left : List Record} {old mid : Outside} (sending : Sending text waiting left old mid) where
  -- whether the next piece was sent or not, a prefix of the text was
  pub moments_on : {new : Outside} → Elapses mid new (SendsPrefix old.sent sending.done mid) → Elapses old new (SendsPrefix old.sent text old)
  moments_on run = sends_on sending.moments sending.done (frames_of left) sending.whole run

  -- one record more was given
  pub one_more : {new : Outside} (x : Record) (rest : List Record) (waiting' : List ℕ) → left ≡ x ∷ rest
      → Expects old.sent new.sent waiting' (sending.done ++ framed (body_of x)) → Elapses mid new (SendsPrefix old.sent sending.done mid)
      → OnlySends mid new → NoFault mid new → Sending text waiting' rest old new
  one_more x rest waiting' is expects run keeps none = record {
    done = sending.done ++ framed (body_of x);
    expects = expects;
    whole = append_assoc sending.done (framed (body_of x)) (frames_of rest) ∙ (ap (λ b. sending.done ++ b) (first_frame x left rest is) ∙ sending.whole);
    moments = moments_on run;
    keeps = onward sending.keeps keeps;
    none = faultless sending.none none;
  }

  -- all records were given
  pub all_done : left ≡ [] → sending.done ≡ text
  all_done none = sym (append-nil sending.done) ∙ (ap (λ (l : List Record). sending.done ++ frames_of l) (sym none) ∙ sending.whole)

-- a piece that is this text was sent, whole or in part
pub piece_moments : {old new : Outside} (piece text : List ℕ) → piece ≡ text → Elapses old new (Sends piece old) → Elapses old new (SendsPrefix old.sent text old)
piece_moments {old} piece text same run = widened run (SendsPrefix old.sent text old) (sends_prefix old.sent old piece text text (record { sent = []; known = sym (append_known-nil old.sent); whole = refl }) same)

-- The whole command.
module _ (text : List ℕ) (result : Result Status Fault) (old new : Outside) (sent_now : (image bytes : List ℕ) → new.leaves new.moment image bytes → Agrees new.sent bytes)
    (stops_now : (sent : List ℕ) → new.sent ≡ Some sent → (image : List ℕ) × MayLeave new image) (run : Elapses old new (SendsPrefix old.sent text old)) where
  part_of : OnlySends old new → SentPrefix old.sent new.sent text
  part_of keeps = prefix_sent old old.sent new.sent text keeps.continues.sent (λ sent is.
      let now = stops_now sent is in (
        now.0,
        subst (λ bytes. SendsPrefix old.sent text old now.0 bytes) (sent_now now.0 now.1.bytes now.1.left sent is) (ended run now.1),
      ))

  by : (r : Result Status Fault) → IfOk r (λ status. status ≡ Done) → OnOk r (new.sent ≡ append_known old.sent text) → SentOrStarved r old new
      → (r ≡ Err Memory → new.sent ≡ old.sent) → SendsText text (answer_of r) old new
  by (Ok status) done sent outside unsent = record {
    exact = λ is. sent;
    faultless = λ is. outside.causes;
    moments = run;
    part = part_of outside.keeps;
    keeps = outside.keeps;
    send_cause = λ is. cc (done, is);
    memory = λ is. cc (done, is);
    unsent = λ is. cc (done, is);
    kind = subst IsAnswer (sym done) tt;
  }
  by (Err Send) done sent outside unsent = record {
    exact = λ is. cc is;
    faultless = λ is. cc is;
    moments = run;
    part = part_of outside.keeps;
    keeps = outside.keeps;
    send_cause = λ is. outside.causes;
    memory = λ is. cc is;
    unsent = λ is. cc is;
    kind = tt;
  }
  by (Err Memory) done sent outside unsent = record {
    exact = λ is. cc is;
    faultless = λ is. cc is;
    moments = run;
    part = part_of outside.keeps;
    keeps = outside.keeps;
    send_cause = λ is. cc is;
    memory = λ is. outside.causes;
    unsent = λ is. unsent refl;
    kind = tt;
  }
  by (Err Read) done sent outside unsent = absurd (outside.unread refl)
  by (Err Disk) done sent outside unsent = absurd (outside.unkept refl)

  pub sends_text : IfOk result (λ status. status ≡ Done) → OnOk result (new.sent ≡ append_known old.sent text) → SentOrStarved result old new
      → (result ≡ Err Memory → new.sent ≡ old.sent) → SendsText text (answer_of result) old new
  sends_text = by result
