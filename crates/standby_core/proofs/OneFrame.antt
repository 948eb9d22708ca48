-- Frames that are judged one after the other, behind those that wait.
use Rattle.std.proofs.Common.{◌≡◌, ℕ, ◌+◌, ◌≤◌, Bool, true, false, List, [], ◌∷◌, ◌++◌, length, refl, sym, ap, subst, ◌∙◌, append_assoc, length-append, arith}
use Rattle.std.specs.Prelude.{◌==◌, ◌&&◌, if◌then◌else◌, is_none, nat_le, slice_index, reverse, Option, Some, None, Result, Ok, Err}
use Rattle.std.proofs.lemmas.Bool.Decides.{nat_tests}
use Rattle.std.proofs.lemmas.Grind.{flat_map-append}
use Rattle.wire_in.specs.declared.record.Record.{Record}
use Rattle.wire_in.specs.declared.record.Refusal.{Refusal}
use Rattle.wire_in.specs.declared.record.Refusal.TheVariants.{UnknownType}
use Rattle.journal_core.specs.Layout.{with_batch}
use Rattle.rulebook.specs.Admission.{verdict}
use Rattle.rulebook.specs.Base as bases
use Rattle.rulebook.proofs.Origins.{verdict-over, verdict_after-same}
use Rattle.market_core.specs.AdmissionState as admissions
use Rattle.market_core.specs.AdmissionState.{AdmissionState, Stands}
use Rattle.market_core.proofs.Verdicts.{refusal_of-stands}
use Rattle.recovery_core.specs.Origins.{origin_of}
use Rattle.recovery_core.proofs.Behind.{in_parts, same_origin}
use Rattle.standby_core.specs.Kept.{kept, part_refusal, refusal_of, replies, reply, reply_of, with_part}
use Rattle.standby_core.specs.Parts.{part_of}
use Rattle.standby_core.specs.declared.round.Reply.{Reply}
use Rattle.standby_core.specs.Rounds.{RoundState, bytes_of, spelled, reply_with, part_or_bad, part_in, refusal_by, unless, new_by}
use Rattle.standby_core.specs.Standing.{Given, HasAdmitted, Judges}
use Rattle.standby_core.proofs.Admitting.{judges}
use Rattle.standby_core.proofs.Agreeing.{kept-append}
use Rattle.standby_core.proofs.KeptLemmas.{chosen}

-- Bodies without a Part

none_in_nothing : part_of [] ≡ None
unfolding part_of
none_in_nothing = refl

shut : {X : Type 0} (a b c : Bool) (o : Option X) → b ≡ false → (if a && b && c then o else None) ≡ None
shut a true c o is = absurd cc
shut true false c o is = refl
shut false false c o is = refl

-- a body of another type
none_of_type : (kind : ℕ) (rest : List ℕ) → (kind == 161) ≡ false → part_of (kind ∷ rest) ≡ None
unfolding part_of
none_of_type kind rest other = shut (nat_le 10 (length (kind ∷ rest))) (kind == 161) (slice_index (kind ∷ rest) 9 + 10 == length (kind ∷ rest)) _ other

-- Admission

-- a record that isn't refused finds a place under the capacity
pub has_place : (a : AdmissionState) (x : Record) → admissions.refusal_of a x ≡ None → a.count + 1 ≤ a.capacity
has_place a x e = grind (arith, nat_tests)

-- a frame brings no new record, or one that isn't refused
pub by_new : (P : List Record → Type 0) (a : AdmissionState) (part : Result (ℕ × Record) Refusal) → P [] → ((x : Record) → admissions.refusal_of a x ≡ None → P (x ∷ [])) → P (new_by a part)
by_new P a (Err refusal) none one = none
by_new P a (Ok part) none one = chosen P _ (unless (admissions.refusal_of a part.1) part.1) [] (λ next. by (admissions.refusal_of a part.1) refl) none
  where
    by : (o : Option Refusal) → admissions.refusal_of a part.1 ≡ o → P (unless o part.1)
    by None is = one part.1 is
    by (Some refusal) is = none

-- so admission stays within its capacity
pub within_by : (a : AdmissionState) (part : Result (ℕ × Record) Refusal) → a.count ≤ a.capacity → a.count + length (new_by a part) ≤ a.capacity
within_by a part le = by_new (λ l. a.count + length l ≤ a.capacity) a part (omega (arith, le)) (λ x passed. has_place a x passed)

module _ {capacity : ℕ} {accepted : List Record} {a : AdmissionState} (h : HasAdmitted capacity accepted a) where
  origin_counts : (origin_of h.base).records ≡ length h.before
  origin_counts = (same_origin h.base h.before h.passed).records_are

  pub counts_all : a.count ≡ length accepted
  counts_all = omega (arith, h.admits.count, origin_counts, length-append h.later h.before, ap length h.whole)

  -- its refusals are those behind the whole list
  pub refuses_alike : (x : Record) → admissions.refusal_of a x ≡ verdict capacity accepted x
  refuses_alike x =
      judges h.admits x (λ admitted stands. refusal_of-stands a admitted x stands)
      ∙ verdict_after-same (origin_of h.base) (bases.whole h.before) capacity h.later x (same_origin h.base h.before h.passed)
      ∙ verdict-over capacity h.later h.before x
      ∙ ap (λ (l : List Record). verdict capacity l x) h.whole

  module _ {next : AdmissionState} (limit : next.capacity ≡ a.capacity) where
    admitted_none : Stands next (h.later ++ (origin_of h.base).list) → next.count ≡ a.count + 0 → HasAdmitted capacity accepted next
    admitted_none stands count = record {
      base = h.base;
      later = h.later;
      before = h.before;
      passed = h.passed;
      whole = h.whole;
      admits = record { limit = limit ∙ h.admits.limit; stands = stands; count = omega (arith, count, h.admits.count); lawful = h.admits.lawful };
    }

    admitted_one : (x : Record) → admissions.refusal_of a x ≡ None → Stands next (x ∷ (h.later ++ (origin_of h.base).list)) → next.count ≡ a.count + 1 → HasAdmitted capacity (x ∷ accepted) next
    admitted_one x passed stands count = record {
      base = h.base;
      later = x ∷ h.later;
      before = h.before;
      passed = h.passed;
      whole = ap (λ (l : List Record). x ∷ l) h.whole;
      admits = record {
        limit = limit ∙ h.admits.limit;
        stands = stands;
        count = omega (arith, count, h.admits.count);
        lawful = (sym (judges h.admits x (λ admitted stood. refusal_of-stands a admitted x stood)) ∙ passed, h.admits.lawful);
      };
    }

    -- the new record of a frame is admitted
    pub admitted_by : (part : Result (ℕ × Record) Refusal) → ((admitted : List Record) → Stands a admitted → Stands next (new_by a part ++ admitted)) → next.count ≡ a.count + length (new_by a part)
        → HasAdmitted capacity (new_by a part ++ accepted) next
    admitted_by part stands count =
        by_new (λ l. Stands next (l ++ (h.later ++ (origin_of h.base).list)) → next.count ≡ a.count + length l → HasAdmitted capacity (l ++ accepted) next) a part
        admitted_none (λ x passed. admitted_one x passed) (stands _ h.admits.stands) count

  -- Judging

  part_refused : (part : Option (ℕ × Record)) → refusal_by a (part_or_bad part) ≡ part_refusal capacity accepted part
  part_refused None = refl
  part_refused (Some part) = λ i. if part.0 == counts_all i + 1 then refuses_alike part.1 i else None

  -- a frame is refused as it is behind the whole list
  pub refusal_is : (body : List ℕ) → refusal_by a (part_in body) ≡ refusal_of capacity accepted body
  refusal_is [] = refl
  refusal_is (kind ∷ rest) = by (kind == 161) where
    by : (b : Bool) → refusal_by a (if b then part_or_bad (part_of (kind ∷ rest)) else Err UnknownType) ≡ (if b then part_refusal capacity accepted (part_of (kind ∷ rest)) else Some UnknownType)
    by true = part_refused (part_of (kind ∷ rest))
    by false = refl

  taken_is : (b : Bool) (o : Option Refusal) (x : Record) → (if b then unless o x else []) ++ accepted ≡ (if b && is_none o then x ∷ accepted else accepted)
  taken_is true None x = refl
  taken_is true (Some refusal) x = refl
  taken_is false o x = refl

  part_taken : (part : Option (ℕ × Record)) → new_by a (part_or_bad part) ++ accepted ≡ with_part capacity accepted part
  part_taken None = refl
  part_taken (Some part) =
      taken_is (part.0 == a.count + 1) (admissions.refusal_of a part.1) part.1
      ∙ (λ i. if (part.0 == counts_all i + 1) && is_none (refuses_alike part.1 i) then part.1 ∷ accepted else accepted)

  -- and its record is kept as it is behind that list
  pub new_is : (body : List ℕ) → new_by a (part_in body) ++ accepted ≡ with_part capacity accepted (part_of body)
  new_is [] = sym (ap (with_part capacity accepted) none_in_nothing)
  new_is (kind ∷ rest) = by (kind == 161) refl where
    by : (b : Bool) → (kind == 161) ≡ b → new_by a (if b then part_or_bad (part_of (kind ∷ rest)) else Err UnknownType) ++ accepted ≡ with_part capacity accepted (part_of (kind ∷ rest))
    by true is = part_taken (part_of (kind ∷ rest))
    by false is = sym (ap (with_part capacity accepted) (none_of_type kind rest is))

-- Replies

bytes_is : (place count : ℕ) (o : Option Refusal) → bytes_of (reply_with place count o) ≡ reply_of place count o
bytes_is place count None = refl
bytes_is place count (Some refusal) = refl

pub replies-append : (limit place : ℕ) (accepted : List Record) (a b : List (List ℕ)) → replies limit place accepted (a ++ b) ≡ replies limit place accepted a ++ replies limit (place + length a) (kept limit accepted a) b
replies-append limit place accepted [] b = ap (λ (n : ℕ). replies limit n accepted b) (omega arith)
replies-append limit place accepted (body ∷ a) b =
    let first = reply limit place accepted body in
    let next = with_part limit accepted (part_of body) in
    ap (λ (l : List ℕ). first ++ l) (replies-append limit (place + 1) next a b)
    ∙ sym (append_assoc first (replies limit (place + 1) next a) (replies limit (place + 1 + length a) (kept limit next a) b))
    ∙ ap (λ (n : ℕ). (first ++ replies limit (place + 1) next a) ++ replies limit n (kept limit next a) b) (omega arith)

-- a frame more is judged
module _ {given : Given} {answered all : List (List ℕ)} {number : ℕ} {round : RoundState} {a : AdmissionState} (j : Judges given answered all number round a)
    (body : List ℕ) {after : List (List ℕ)} (frames : after ≡ all ++ body ∷ []) (next : RoundState) {b : AdmissionState} (place : ℕ) (place_is : place ≡ number + length round.replies + 1)
    (replied : next.replies ≡ round.replies ++ reply_with place b.count (refusal_by a (part_in body)) ∷ []) (recorded : next.records ≡ round.records ++ new_by a (part_in body))
    (stands : (admitted : List Record) → Stands a admitted → Stands b (new_by a (part_in body) ++ admitted)) (counts : b.count ≡ a.count + length (new_by a (part_in body))) (limit : b.capacity ≡ a.capacity) where
  abbrev held : List Record
  held = kept given.capacity given.held answered

  abbrev accepted : List Record
  accepted = kept given.capacity given.held all

  abbrev admitted_now : HasAdmitted given.capacity (new_by a (part_in body) ++ accepted) b
  admitted_now = admitted_by j.admitted limit (part_in body) stands counts

  accepted_is : kept given.capacity held j.waiting ≡ accepted
  accepted_is = sym (kept-append given.capacity given.held answered j.waiting) ∙ ap (kept given.capacity given.held) j.whole

  kept_now : with_part given.capacity accepted (part_of body) ≡ kept given.capacity given.held after
  kept_now = sym (ap (kept given.capacity given.held) frames ∙ kept-append given.capacity given.held all (body ∷ []))

  counts_now : b.count ≡ length (with_part given.capacity accepted (part_of body))
  counts_now = counts_all admitted_now ∙ ap length (new_is j.admitted body)

  place_now : place ≡ 1 + length answered + length j.waiting
  place_now = omega (arith, place_is, j.number_is, j.count)

  reply_now : bytes_of (reply_with place b.count (refusal_by a (part_in body))) ≡ reply given.capacity (1 + length answered + length j.waiting) (kept given.capacity held j.waiting) body
  reply_now =
      bytes_is place b.count (refusal_by a (part_in body))
      ∙ (λ i. reply_of (place_now i) (counts_now i) (refusal_is j.admitted body i))
      ∙ ap (λ (l : List Record). reply given.capacity (1 + length answered + length j.waiting) l body) (sym accepted_is)

  one_new : reverse (new_by a (part_in body)) ≡ new_by a (part_in body)
  one_new = by_new (λ l. reverse l ≡ l) a (part_in body) refl (λ x passed. refl)

  pub judges_on : Judges given answered after number next b
  judges_on = record {
    waiting = j.waiting ++ body ∷ [];
    whole = sym (append_assoc answered j.waiting (body ∷ [])) ∙ ap (λ (l : List (List ℕ)). l ++ body ∷ []) j.whole ∙ sym frames;
    number_is = j.number_is;
    count = omega (arith, ap length replied, length-append round.replies (reply_with place b.count (refusal_by a (part_in body)) ∷ []), length-append j.waiting (body ∷ []), j.count);
    replied =
        ap spelled replied
        ∙ flat_map-append bytes_of round.replies (reply_with place b.count (refusal_by a (part_in body)) ∷ [])
        ∙ (λ i. j.replied i ++ (reply_now i ++ []))
        ∙ sym (replies-append given.capacity (1 + length answered) held j.waiting (body ∷ []));
    added =
        ap (with_batch held) recorded
        ∙ in_parts held round.records (new_by a (part_in body))
        ∙ (λ i. one_new i ++ j.added i)
        ∙ new_is j.admitted body
        ∙ kept_now;
    admitted = subst (λ (l : List Record). HasAdmitted given.capacity l b) (new_is j.admitted body ∙ kept_now) admitted_now;
  }

-- no frame more is whole
pub judges_same : {given : Given} {answered all : List (List ℕ)} {number : ℕ} {round : RoundState} {a : AdmissionState} → Judges given answered all number round a → {after : List (List ℕ)} → after ≡ all → Judges given answered after number round a
judges_same {given} {answered} {number = number} {round = round} {a = a} j is = subst (λ (frames : List (List ℕ)). Judges given answered frames number round a) (sym is) j

-- a reply more
pub one_more : (old new : List Reply) (r : Reply) → new ≡ old ++ r ∷ [] → length new ≤ length old + 1
one_more old new r is = omega (arith, ap length is, length-append old (r ∷ []))
