-- How an audit ends, and what it sends then.
use Rattle.std.proofs.Common.{◌≡◌, ◌≢◌, ◌⊎◌, inl, inr, ℕ, ◌+◌, ◌-◌, ◌≤◌, ◌==◌, Bool, true, false, cond, List, [], ◌∷◌, ◌++◌, length, take, drop, refl, sym, ap, subst, ◌∙◌, arith, true≢false}
use Rattle.std.specs.Prelude.{Option, Some, None, IsTrue, ◌↔◌, Result, Ok, Err, IfOk, OnOk, nat_le, is_none, option_map}
use Rattle.std.proofs.Math.Seq.{take-add}
use Rattle.std.proofs.lemmas.List.{take_all}
use Rattle.std.proofs.lemmas.Bool.Decides.{leb_tells, eqb_tells}
use Rattle.host_core.specs.declared.fault.Fault.{Fault}
use Rattle.host_core.specs.declared.status.Status.{Status}
use Rattle.host_core.specs.declared.status.Status.TheVariants.{Done, Truncated, SessionFull}
use Rattle.host_core.specs.Outside.{Outside}
use Rattle.wire_in.specs.Cutting.{bodies_of, rest_of, pending}
use Rattle.wire_in.proofs.Cuts.{bodies_of-append}
use Rattle.wire_out.specs.declared.message.Frame.{Frame}
use Rattle.stream_core.specs.Answering.{IsThrough}
use Rattle.stream_core.specs.Ends as frames
use Rattle.audit_core.specs.Audits.{Represents}
use Rattle.audit_core.specs.Clean.{said}
use Rattle.audit_core.specs.declared.stream.Flaw.{Flaw}
use Rattle.audit_core.specs.declared.stream.Flaw.TheVariants.{NoFrame, Law}
use Rattle.audit_core.specs.declared.stream.Auditing.{Auditing}
use Rattle.audit_core.specs.declared.stream.Inspection.{Inspection}
use Rattle.audit_core.specs.Streams.{end_of, first_fault, frames_in, or_end, sent_at, text_of}
use Rattle.audit_core.specs.InternalStreams.{Audits, Given, Knows, Reads, fault_status, status_by, status_of, unhindered}
use Rattle.audit_core.proofs.Found.{flaw_of, still_first}

-- whether bytes of a frame are left, by their number
inside_tells : (inside : Bool) (held : List ℕ) → IsTrue inside ↔ (held ≢ []) → cond inside Truncated Done ≡ cond (length held == 0) Done Truncated
inside_tells true [] is = absurd (is.0 refl refl)
inside_tells true (x ∷ xs) is = elim (eqb_tells (length (x ∷ xs)) 0) [
  | inl v ↦ absurd (omega (arith, v.1))
  | inr v ↦ sym (ap (λ (b : Bool). cond b Done Truncated) v.0)
]
inside_tells false [] is = refl
inside_tells false (x ∷ xs) is = absurd (true≢false (sym (is.1 (λ same. absurd cc))))

-- nothing is sent at a fault
no_text : (taken : ℕ) (flaw : Flaw) (a b : ℕ) → sent_at (fault_status taken flaw) a ≡ sent_at (fault_status taken flaw) b
no_text taken NoFrame a b = refl
no_text taken (Law law) a b = refl

-- how an audit ends, and what it sends
pub record Ends (end : Status) (messages most : ℕ) (input : List ℕ) : Type 0 where
  pub status : end ≡ end_of most input
  pub sent : sent_at end messages ≡ text_of most input

module _ {auditing : Auditing} {begin : Option (List ℕ)} {count most : ℕ} {input : List ℕ} {now : Outside} (reads : Reads (take count input) auditing)
    (through : IsThrough (λ read. []) begin (is_none auditing.inspection.flaw) input count most now)
    (inside : Bool) (is_inside : IsTrue inside ↔ (pending auditing.cutter ≢ [])) (messages : ℕ) where
  abbrev ends : Status
  ends = status_by auditing.inspection inside count most

  -- at a fault
  at_fault : is_none auditing.inspection.flaw ≡ false → Ends ends messages most input
  at_fault flawed =
      let flaw = flaw_of auditing.inspection.flaw flawed in
      let fault = fault_status auditing.inspection.taken flaw.0 in
      let whole : take most input ≡ take count input ++ take (most - count) (drop count input) = ap (λ (n : ℕ). take n input) (omega (arith, through.within)) ∙ take-add count (most - count) input in
      let found : first_fault [] (bodies_of (take most input)) ≡ Some fault =
      ap (λ (bytes : List ℕ). first_fault [] (bodies_of bytes)) whole ∙ ap (first_fault []) (bodies_of-append (take count input) (take (most - count) (drop count input)))
      ∙ still_first (bodies_of (take count input)) _ fault (reads.audits.found ∙ ap (option_map (fault_status auditing.inspection.taken)) flaw.1) in
      let status : ends ≡ fault = ap (λ (f : Option Flaw). status_of f auditing.inspection.taken (unhindered inside count most)) flaw.1 in
      let end : end_of most input ≡ fault = ap (λ (o : Option Status). or_end o (frames.end_of most input)) found in
      let all = length (said (frames_in [] (bodies_of (take most input)))) in
      record {
        status = status ∙ sym end;
        sent = ap (λ (s : Status). sent_at s messages) status ∙ no_text auditing.inspection.taken flaw.0 messages all ∙ ap (λ (s : Status). sent_at s all) (sym end);
      }

  -- or at the end of the input, or where no more may be read
  module _ (sound : auditing.inspection.flaw ≡ None) (messages_are : (frames : List Frame) → Represents auditing.inspection.audit frames → messages ≡ length (said frames)) where
    reached : (count ≡ length input) ⊎ (count ≡ most)
    reached = elim through.ended [ inl stop ↦ absurd (true≢false (ap is_none (sym sound) ∙ stop)) | inr end ↦ end.1 ]

    whole : take count input ≡ take most input
    whole = elim reached [
      | inl all ↦ take_all count input (omega (arith, all)) ∙ sym (take_all most input (omega (arith, all, through.within)))
      | inr full ↦ ap (λ (n : ℕ). take n input) full
    ]

    ended : unhindered inside count most ≡ frames.end_of most input
    ended = elim reached [
      | inl all ↦
          let bytes = take_all count input (omega (arith, all)) in
          (λ i. cond (nat_le most (all i)) SessionFull (inside_tells inside (pending auditing.cutter) is_inside i))
          ∙ ap (λ (held : List ℕ). cond (nat_le most (length input)) SessionFull (cond (length held == 0) Done Truncated)) (reads.begun sound ∙ ap rest_of bytes)
      | inr full ↦
          elim (leb_tells most count) [
            | inl v ↦ ap (λ (b : Bool). cond b SessionFull (cond inside Truncated Done)) v.0
            | inr v ↦ absurd (omega (arith, v.1, full))
          ]
          ∙ elim (leb_tells most (length input)) [
            | inl v ↦ sym (ap (λ (b : Bool). cond b SessionFull (cond (length (rest_of input) == 0) Done Truncated)) v.0)
            | inr v ↦ absurd (omega (arith, v.1, full, through.there))
          ]
    ]

    at_end : Ends ends messages most input
    at_end =
        let found : first_fault [] (bodies_of (take most input)) ≡ None =
        ap (λ (bytes : List ℕ). first_fault [] (bodies_of bytes)) (sym whole) ∙ reads.audits.found ∙ ap (option_map (fault_status auditing.inspection.taken)) sound in
        let status : ends ≡ end_of most input =
        ap (λ (f : Option Flaw). status_of f auditing.inspection.taken (unhindered inside count most)) sound ∙ ended ∙ sym (ap (λ (o : Option Status). or_end o (frames.end_of most input)) found) in
        let frames_are = ap (λ (bytes : List ℕ). frames_in [] (bodies_of bytes)) (sym whole) ∙ reads.audits.all sound in
        record {
          status = status;
          sent = λ i. sent_at (status i) ((messages_are reads.audits.frames (reads.audits.represents sound) ∙ ap (λ (frames : List Frame). length (said frames)) (sym frames_are)) i);
        }

  pub ends_so : ((frames : List Frame) → Represents auditing.inspection.audit frames → messages ≡ length (said frames)) → Ends ends messages most input
  ends_so messages_are = by auditing.inspection.flaw refl where
    by : (flaw : Option Flaw) → auditing.inspection.flaw ≡ flaw → Ends ends messages most input
    by None is = at_end is messages_are
    by (Some flaw) is = at_fault (ap is_none is)

-- a call whose answer is known and what it sent
pub both_ok : (r : Result Status Fault) {status end : Status} {Q R : Type 0} → IfOk r (λ s. s ≡ status) → OnOk r Q → status ≡ end → (Q → R) → IfOk r (λ s. (s ≡ end) × R)
both_ok (Ok s) same sent is on = (same ∙ is, on sent)
both_ok (Err fault) same sent is on = tt
