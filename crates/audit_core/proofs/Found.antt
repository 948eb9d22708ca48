-- What an audit finds in the bodies of frames, one after the other.
use Rattle.std.proofs.Common.{◌≡◌, ℕ, ◌+◌, Bool, true, false, cond, List, [], ◌∷◌, ◌++◌, length, take, drop, refl, sym, ap, subst, ◌∙◌, arith, true≢false}
use Rattle.std.specs.Prelude.{Option, Some, None, is_none, option_map}
use Rattle.std.proofs.lemmas.List.{append-nil}
use Rattle.host_core.specs.declared.status.Status.{Status}
use Rattle.host_core.specs.declared.status.Status.TheVariants.{BadText, Breach}
use Rattle.wire_core.specs.Frames.{framed}
use Rattle.wire_in.specs.Cutting.{bodies_of, rest_of, pending}
use Rattle.wire_in.proofs.Cuts.{bodies_of-append, rest_of-append, cut_framed}
use Rattle.wire_out.specs.declared.message.Frame.{Frame}
use Rattle.wire_out.specs.Reading.{frame_of}
use Rattle.audit_core.specs.Audits.{AuditState, Represents}
use Rattle.audit_core.specs.Clean.{law_broken}
use Rattle.audit_core.specs.declared.stream.Flaw.{Flaw}
use Rattle.audit_core.specs.declared.stream.Flaw.TheVariants.{NoFrame, Law}
use Rattle.audit_core.specs.declared.stream.Auditing.{Auditing}
use Rattle.audit_core.specs.declared.stream.Inspection.{Inspection}
use Rattle.audit_core.specs.Streams.{fault_of, first_fault, frames_in, or_later, with_frame}
use Rattle.audit_core.specs.InternalStreams.{Audits, IsFresh, Reads, fault_status}

or-assoc : (a b c : Option Status) → or_later a (or_later b c) ≡ or_later (or_later a b) c
or-assoc None b c = refl
or-assoc (Some s) b c = refl

or-none : (a : Option Status) → or_later a None ≡ a
or-none None = refl
or-none (Some s) = refl

-- the first fault among some bodies, and then among more
pub first-append : (earlier : List Frame) (xs ys : List (List ℕ)) → first_fault earlier (xs ++ ys) ≡ or_later (first_fault earlier xs) (first_fault (frames_in earlier xs) ys)
first-append earlier [] ys = refl
first-append earlier (x ∷ xs) ys =
    ap (or_later (fault_of earlier (frame_of x))) (first-append (with_frame earlier (frame_of x)) xs ys)
    ∙ or-assoc (fault_of earlier (frame_of x)) (first_fault (with_frame earlier (frame_of x)) xs) (first_fault (frames_in (with_frame earlier (frame_of x)) xs) ys)

pub frames-append : (earlier : List Frame) (xs ys : List (List ℕ)) → frames_in earlier (xs ++ ys) ≡ frames_in (frames_in earlier xs) ys
frames-append earlier [] ys = refl
frames-append earlier (x ∷ xs) ys = frames-append (with_frame earlier (frame_of x)) xs ys

-- where something is wrong, it stays the first fault
pub still_first : (xs ys : List (List ℕ)) (s : Status) → first_fault [] xs ≡ Some s → first_fault [] (xs ++ ys) ≡ Some s
still_first xs ys s is = first-append [] xs ys ∙ ap (λ (o : Option Status). or_later o (first_fault (frames_in [] xs) ys)) is

-- one body more, where nothing is wrong yet
module _ {bodies : List (List ℕ)} {inspection : Inspection} (audits : Audits bodies inspection) (sound : inspection.flaw ≡ None) (body : List ℕ) where
  none_yet : first_fault [] bodies ≡ None
  none_yet = audits.found ∙ ap (option_map (fault_status inspection.taken)) sound

  first_one : first_fault [] (bodies ++ body ∷ []) ≡ fault_of audits.frames (frame_of body)
  first_one =
      first-append [] bodies (body ∷ [])
      ∙ (λ i. or_later (none_yet i) (first_fault (audits.all sound i) (body ∷ [])))
      ∙ or-none (fault_of audits.frames (frame_of body))

  frames_one : frames_in [] (bodies ++ body ∷ []) ≡ with_frame audits.frames (frame_of body)
  frames_one = frames-append [] bodies (body ∷ []) ∙ ap (λ (frames : List Frame). frames_in frames (body ∷ [])) (audits.all sound)

  -- it spells no frame
  pub audits_none : frame_of body ≡ None → Audits (bodies ++ body ∷ []) (record { audit = inspection.audit; taken = inspection.taken; flaw = Some NoFrame })
  audits_none none = record {
    frames = audits.frames;
    represents = λ good. absurd cc;
    taken = audits.taken;
    found = first_one ∙ ap (fault_of audits.frames) none ∙ ap (λ (n : ℕ). Some (BadText (n + 1))) (sym audits.taken);
    all = λ good. absurd cc;
  }

  -- or one that breaks a law
  pub audits_breach : (audit : AuditState) (frame : Frame) (law : ℕ) → frame_of body ≡ Some frame → law_broken audits.frames frame ≡ Some law
      → Audits (bodies ++ body ∷ []) (record { audit = audit; taken = inspection.taken; flaw = Some (Law law) })
  audits_breach audit frame law spelled broken = record {
    frames = audits.frames;
    represents = λ good. absurd cc;
    taken = audits.taken;
    found =
        first_one ∙ ap (fault_of audits.frames) spelled
        ∙ ap (option_map (λ law. Breach (length audits.frames + 1) law)) broken
        ∙ ap (λ (n : ℕ). Some (Breach (n + 1) law)) (sym audits.taken);
    all = λ good. absurd cc;
  }

  -- or one that keeps them all
  pub audits_frame : (audit : AuditState) (frame : Frame) → frame_of body ≡ Some frame → law_broken audits.frames frame ≡ None → Represents audit (frame ∷ audits.frames)
      → Audits (bodies ++ body ∷ []) (record { audit = audit; taken = inspection.taken + 1; flaw = inspection.flaw })
  audits_frame audit frame spelled kept represents = record {
    frames = frame ∷ audits.frames;
    represents = λ good. represents;
    taken = omega (arith, audits.taken);
    found =
        first_one ∙ ap (fault_of audits.frames) spelled
        ∙ ap (option_map (λ law. Breach (length audits.frames + 1) law)) kept
        ∙ sym (ap (option_map (fault_status (inspection.taken + 1))) sound);
    all = λ good. frames_one ∙ ap (with_frame audits.frames) spelled;
  }

-- what is wrong, where something is
pub flaw_of : (flaw : Option Flaw) → is_none flaw ≡ false → (f : Flaw) × (flaw ≡ Some f)
flaw_of None is = absurd (true≢false is)
flaw_of (Some f) is = (f, refl)

-- where something is wrong, more bodies change nothing
pub audits_rest : {bodies : List (List ℕ)} {inspection : Inspection} (more : List (List ℕ)) → is_none inspection.flaw ≡ false → Audits bodies inspection → Audits (bodies ++ more) inspection
audits_rest {bodies} {inspection} more flawed audits =
    let flaw = flaw_of inspection.flaw flawed in
    let found = ap (option_map (fault_status inspection.taken)) flaw.1 in
    record {
      frames = audits.frames;
      represents = audits.represents;
      taken = audits.taken;
      found = still_first bodies more (fault_status inspection.taken flaw.0) (audits.found ∙ found) ∙ sym found;
      all = λ good. absurd (true≢false (ap is_none (sym good) ∙ flawed));
    }

pub audits_same : {inspection : Inspection} {a b : List (List ℕ)} → a ≡ b → Audits a inspection → Audits b inspection
audits_same {inspection} same audits = subst (λ (bodies : List (List ℕ)). Audits bodies inspection) same audits

-- bytes behind a fault are passed over
pub reads_rest : (read more : List ℕ) {auditing : Auditing} → is_none auditing.inspection.flaw ≡ false → Reads read auditing → Reads (read ++ more) auditing
reads_rest read more {auditing} flawed reads = record {
  audits = audits_same (sym (bodies_of-append read more)) (audits_rest (bodies_of (rest_of read ++ more)) flawed reads.audits);
  begun = λ good. absurd (true≢false (ap is_none (sym good) ∙ flawed));
}

pub reads_same : {auditing : Auditing} {a b : List ℕ} → a ≡ b → Reads a auditing → Reads b auditing
reads_same {auditing} same reads = subst (λ (read : List ℕ). Reads read auditing) same reads

-- a whole frame behind whole frames
pub reads_whole : {auditing : Auditing} (read taken body : List ℕ) → rest_of read ≡ [] → framed body ≡ taken → pending auditing.cutter ≡ [] → Audits (bodies_of read ++ body ∷ []) auditing.inspection
    → Reads (read ++ taken) auditing
reads_whole read taken body none is between audits =
    let joined : rest_of read ++ taken ≡ framed body = ap (λ (rest : List ℕ). rest ++ taken) none ∙ sym is in
    let first = cut_framed body in
    let bodies = bodies_of-append read taken ∙ ap (λ (bytes : List ℕ). bodies_of read ++ bodies_of bytes) joined ∙ ap (λ (found : List (List ℕ)). bodies_of read ++ found) first.0 in
    let rest = rest_of-append read taken ∙ ap rest_of joined ∙ first.1 in
    record { audits = audits_same (sym bodies) audits; begun = λ good. between ∙ sym rest }

-- nothing was read yet
pub reads_none : {auditing : Auditing} → IsFresh auditing → Reads [] auditing
reads_none {auditing} fresh = record {
  audits = record {
    frames = [];
    represents = λ good. fresh.represents;
    taken = fresh.taken;
    found = sym (ap (option_map (fault_status auditing.inspection.taken)) fresh.sound);
    all = λ good. refl;
  };
  begun = λ good. ap (λ (held : List ℕ). pending held) fresh.cutter;
}
