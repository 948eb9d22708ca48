-- An input that a standby took, from what the loop over it says.
use Rattle.std.proofs.Common.{◌≡◌, ℕ, ◌<◌, ◌≤◌, List, [], ◌++◌, length, take, drop, refl, sym, ap, subst, ◌∙◌, arith}
use Rattle.std.specs.Prelude.{Some, Result, Err, IfOk, min}
use Rattle.std.proofs.lemmas.List.{take_min}
use Rattle.host_core.specs.declared.fault.Fault.{Fault}
use Rattle.host_core.specs.declared.fault.Fault.TheVariants as fault
use Rattle.host_core.specs.declared.status.Status.{Status}
use Rattle.host_core.specs.Faults.{Causes}
use Rattle.host_core.specs.Outside.{Outside, Elapses, Continues}
use Rattle.host_core.proofs.Moments.{widened}
use Rattle.wire_in.specs.Cutting.{bodies_of}
use Rattle.journal_core.specs.Extended.{Extends}
use Rattle.journal_core.specs.Journal.{IsAtRest}
use Rattle.journal_core.specs.Layout.{Holds}
use Rattle.stream_core.specs.Answering.{HasAnswered, HasRead}
use Rattle.stream_core.specs.Asking.{Prompt}
use Rattle.stream_core.specs.Ends.{IsEnd, answer_of, end_of}
use Rattle.stream_core.specs.Taking.{ReadsAtMost}
use Rattle.engine_core.proofs.Statuses.{at_a_read, at_an_end, told_of}
use Rattle.standby_core.specs.declared.standing.Standby.{Standby}
use Rattle.standby_core.specs.Running.{HasBegun, HasTaken, Takes, given_of}
use Rattle.standby_core.specs.Standing.{Follows, Leaves}
use Rattle.standby_core.specs.StoodBy.{Answered, Begin, IsSafe, IsUnbegun, held_after, replies_to}

-- nothing waits at the begin
pub begun_with : {begin : Begin} {input : List ℕ} {most : ℕ} {standby : Standby} {now : Outside} (waiting : List ℕ) → waiting ≡ [] → HasBegun begin input most standby now
    → HasRead (λ count waits later. Follows (given_of begin input most) count waits standby later) input 0 waiting now
begun_with {begin} {input} {most} {standby} {now} waiting none =
    subst (λ (w : List ℕ). HasRead (λ count waits later. Follows (given_of begin input most) count waits standby later) input 0 w now) (sym none)

-- what a stop leaves is safe
safe_of : (begin : Begin) (input : List ℕ) (most : ℕ) (image bytes : List ℕ) → Leaves (given_of begin input most) image bytes → IsSafe begin (bodies_of (take most input)) image bytes
safe_of begin input most image bytes l = record {
  count = l.count;
  within = l.within;
  holds = l.holds;
  since = l.since;
  unsent = l.unsent;
  sent = l.sent (begin.sent ++ l.since) refl;
  prefix = l.prefix;
}

-- what was kept of so many bytes is in the journal
abbrev pub RestsAt : Begin → List ℕ → ℕ → Standby → Outside → Type 0
RestsAt begin input count standby now = (standby.journal.capacity ≡ begin.capacity) × IsAtRest standby.journal (held_after begin (bodies_of (take count input))) now

-- what the loop says of an input
pub record Ran (begin : Begin) (input : List ℕ) (most : ℕ) (after : Standby) (result : Result Status Fault) (old new : Outside) : Type 0 where
  pub exact : IfOk result (λ status. (status ≡ end_of most input) × (new.sent ≡ Some (begin.sent ++ replies_to begin (bodies_of (take most input)))))
  pub taken : IfOk result (λ status. IsEnd status → (new.input ≡ Some (drop (min most (length input)) input)) × RestsAt begin input (min most (length input)) after new)
  pub unread : result ≡ Err fault.Read → (count : ℕ) × (count < most) × HasAnswered (λ read. replies_to begin (bodies_of read)) (Some begin.sent) input count new × RestsAt begin input count after new
  pub prompt : Prompt (λ read. replies_to begin (bodies_of read)) (Some begin.sent) input old.asks new.asks

answered : {begin : Begin} {input : List ℕ} (after : Standby) {new : Outside} (count : ℕ) → new.input ≡ Some (drop count input) → count ≤ length input → new.sent ≡ Some (begin.sent ++ replies_to begin (bodies_of (take count input)))
    → RestsAt begin input count after new → Answered begin input count new
answered {begin} {input} after count left there sent rests = record {
  input_left = left;
  there = there;
  sent = sent;
  settled = rests.1.settled;
  holds = λ disk known. subst (λ (c : ℕ). Holds disk c (held_after begin (bodies_of (take count input)))) rests.0 (record { gate = after.journal.gate; held = (rests.1.keeps disk known).held });
}

takes_of : {begin : Begin} {input : List ℕ} {most : ℕ} {after : Standby} {old new : Outside} (result : Result Status Fault) → IfOk result IsEnd → Ran begin input most after result old new
    → Takes begin input most (answer_of result) old new
takes_of {begin} {input} {most} {after} result end ran = record {
  exact = λ at_end.
      let e = at_an_end result _ ran.exact at_end in
      let t = at_an_end result _ ran.taken at_end at_end in
      let all = ap (λ (read : List ℕ). Some (begin.sent ++ replies_to begin (bodies_of read))) (sym (take_min most input)) in
      (e.0, answered after (min most (length input)) t.0 (omega arith) (e.1 ∙ all) t.1);
  unread = λ is.
      let r = ran.unread (at_a_read result end is) in
      (r.0, r.1, answered after r.0 r.2.input_left r.2.there r.2.sent r.3);
  prompt = ran.prompt;
}

begins : (result : Result Status Fault) → IfOk result IsEnd → (result ≡ Err fault.Memory → ⊥) → IsUnbegun (answer_of result) → ⊥
begins result end unstarved un = grind (arith, unstarved)

pub has_taken : {most : ℕ} {standby : Standby} (after : Standby) (result : Result Status Fault) (status : Status) {old new : Outside} → status ≡ answer_of result → IfOk result IsEnd → (result ≡ Err fault.Memory → ⊥)
    → Causes result old new → ((begin : Begin) (input : List ℕ) → HasBegun begin input most standby old → Elapses old new (Leaves (given_of begin input most)))
    → ((begin : Begin) (input : List ℕ) → HasBegun begin input most standby old → Ran begin input most after result old new) → Extends standby.round.most old new → ReadsAtMost most old.input new.input → Continues old new
    → HasTaken most standby status old new
has_taken {most} {standby} after result status {old} {new} is end unstarved causes leaves ran extends bytes continues =
    subst (λ (s : Status). HasTaken most standby s old new) (sym is) (record {
      moments = λ begin input begun. widened (leaves begin input begun) (IsSafe begin (bodies_of (take most input))) (safe_of begin input most);
      takes = λ begin input begun. takes_of result end (ran begin input begun);
      extends = extends;
      bytes = bytes;
      continues = continues;
      begun = begins result end unstarved;
      told = told_of result old new end causes;
    })
