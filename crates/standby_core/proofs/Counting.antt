-- A Have that was sent counts no more records than are kept.
use Rattle.std.proofs.Common.{◌≡◌, ℕ, zero, suc, ◌+◌, ◌<◌, ◌≤◌, ◌^◌, Bool, true, false, List, [], ◌∷◌, ◌++◌, length, get_or, take, refl, sym, ap, ◌∙◌, arith, append_assoc}
use Rattle.std.specs.Prelude.{Option, Some, None, if◌then◌else◌}
use Rattle.wire_core.specs.Frames.{framed}
use Rattle.wire_in.specs.Cutting.{bodies_of, rest_of}
use Rattle.wire_in.specs.Refusals.{code_of}
use Rattle.wire_in.specs.declared.record.Record.{Record}
use Rattle.wire_in.specs.declared.record.Refusal.{Refusal}
use Rattle.wire_in.proofs.Cuts.{bodies_of-append, cut_framed}
use Rattle.wire_out.specs.declared.message.Frame.TheVariants.{Refused}
use Rattle.wire_out.specs.Spelling.{body_of, spelling}
use Rattle.recovery_core.proofs.OneDamage.{lawful_few}
use Rattle.standby_core.specs.Parts.{have_body, have_of, part_of}
use Rattle.standby_core.specs.Kept.{ArePartsOf, kept, refusal_of, replies, reply_of, with_part}
use Rattle.standby_core.specs.Takeover.{TakesOver}
use Rattle.standby_core.proofs.KeptLemmas.{kept_is_lawful, kept_is_part}
use Rattle.standby_core.proofs.Spelling.{have_again, some_is}

-- The bodies of replies

abbrev reply_body : ℕ → ℕ → Option Refusal → List ℕ
reply_body place count None = have_body count
reply_body place count (Some refusal) = body_of (Refused place (code_of refusal) 0)

framed_reply : (place count : ℕ) (why : Option Refusal) → framed (reply_body place count why) ≡ reply_of place count why
unfolding spelling
framed_reply place count None = refl
framed_reply place count (Some refusal) = refl

-- the first body is that of the first reply
first_body : (place count : ℕ) (why : Option Refusal) (later : List ℕ) → bodies_of (reply_of place count why ++ later) ≡ reply_body place count why ∷ bodies_of later
first_body place count why later =
    let body = reply_body place count why in
    let cut = cut_framed body in
    ap (λ (t : List ℕ). bodies_of (t ++ later)) (sym (framed_reply place count why))
    ∙ bodies_of-append (framed body) later
    ∙ (λ i. cut.0 i ++ bodies_of (cut.1 i ++ later))

-- Counts

-- what is kept grows
with_more : (limit : ℕ) (accepted : List Record) (part : Option (ℕ × Record)) → length accepted ≤ length (with_part limit accepted part)
with_more limit accepted None = omega arith
with_more limit accepted (Some part) = by _ where
  by : (b : Bool) → length accepted ≤ length (if b then part.1 ∷ accepted else accepted)
  by true = omega arith
  by false = omega arith

kept_more : (limit : ℕ) (accepted : List Record) (bodies : List (List ℕ)) → length accepted ≤ length (kept limit accepted bodies)
kept_more limit accepted [] = omega arith
kept_more limit accepted (body ∷ bodies) =
    let next = with_part limit accepted (part_of body) in
    omega (arith, with_more limit accepted (part_of body), kept_more limit next bodies)

-- a reply that is a Have of this count tells how many are kept
same_count : (place n count : ℕ) (why : Option Refusal) → n < 2 ^ 64 → count < 2 ^ 64 → reply_body place n why ≡ have_body count → n ≡ count
same_count place n count None few below is = some_is n count (sym (have_again n few) ∙ ap have_of is ∙ have_again count below)
same_count place n count (Some refusal) few below is = absurd (omega (arith, ap (λ (b : List ℕ). get_or b 0 0) is))

pub counted_kept : (limit place : ℕ) (accepted : List Record) (bodies before later : List (List ℕ)) (count : ℕ) → length (kept limit accepted bodies) < 2 ^ 64 → count < 2 ^ 64
    → bodies_of (replies limit place accepted bodies) ≡ before ++ have_body count ∷ later → count ≤ length (kept limit accepted bodies)
counted_kept limit place accepted [] [] later count few below is = absurd cc
counted_kept limit place accepted [] (body ∷ before) later count few below is = absurd cc
counted_kept limit place accepted (frame ∷ bodies) [] later count few below is =
    let next = with_part limit accepted (part_of frame) in
    let why = refusal_of limit accepted frame in
    let text = sym (first_body place (length next) why (replies limit (place + 1) next bodies)) ∙ is in
    let first : reply_body place (length next) why ≡ have_body count = cc in
    omega (arith, same_count place (length next) count why (omega (arith, few, kept_more limit next bodies)) below first, kept_more limit next bodies)
counted_kept limit place accepted (frame ∷ bodies) (body ∷ before) later count few below is =
    let next = with_part limit accepted (part_of frame) in
    let why = refusal_of limit accepted frame in
    let text = sym (first_body place (length next) why (replies limit (place + 1) next bodies)) ∙ is in
    let rest : bodies_of (replies limit (place + 1) next bodies) ≡ before ++ have_body count ∷ later = cc in
    counted_kept limit (place + 1) next bodies before later count few below rest

-- and so it is where a prefix of the replies was sent
pub counted_sent : (limit : ℕ) (accepted : List Record) (bodies : List (List ℕ)) (since unsent : List ℕ) → since ++ unsent ≡ replies limit 1 accepted bodies → (before later : List (List ℕ)) (count : ℕ)
    → length (kept limit accepted bodies) < 2 ^ 64 → count < 2 ^ 64 → bodies_of since ≡ before ++ have_body count ∷ later → count ≤ length (kept limit accepted bodies)
counted_sent limit accepted bodies since unsent prefix before later count few below is =
    let more = bodies_of (rest_of since ++ unsent) in
    counted_kept limit 1 accepted bodies before (later ++ more) count few below
    (ap bodies_of (sym prefix) ∙ bodies_of-append since unsent ∙ ap (λ (b : List (List ℕ)). b ++ more) is ∙ append_assoc before (have_body count ∷ later) more)

-- What a stop leaves

-- of Parts of a list, the first are its Parts
parts_first : (records : List Record) (n : ℕ) (bodies : List (List ℕ)) → ArePartsOf records bodies → ArePartsOf records (take n bodies)
parts_first records zero bodies of_list = tt
parts_first records (suc n) [] of_list = tt
parts_first records (suc n) (body ∷ bodies) of_list = (of_list.0, parts_first records n bodies of_list.1)

pub takes_over : TakesOver
takes_over begin records bodies image bytes lawful part of_list safe =
    let first = take safe.count bodies in
    let sound = kept_is_lawful begin.capacity begin.held first lawful in
    record {
      held = kept begin.capacity begin.held first;
      holds = safe.holds;
      lawful = sound;
      first = kept_is_part begin.capacity records begin.held first (parts_first records safe.count bodies of_list) part;
      counted = λ count has.
          counted_sent begin.capacity begin.held first safe.since safe.unsent safe.prefix has.before has.later count
          (omega (arith, lawful_few begin.capacity (kept begin.capacity begin.held first) sound, safe.holds.held.passes.range.most)) has.below has.is;
    }
