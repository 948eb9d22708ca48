-- Frames that are judged one after the other, and a round of them that is answered.
use Rattle.std.proofs.Common.{◌≡◌, ℕ, Option, ◌+◌, ◌<◌, List, [], ◌∷◌, ◌++◌, length, get_or, drop, sym, ap, subst, ◌∙◌, append_assoc, append-nil, length-append, arith}
use Rattle.std.proofs.lemmas.List.{drop_more}
use Rattle.host_core.specs.Outside.{Outside, Elapses}
use Rattle.wire_in.specs.declared.record.Record.{Record}
use Rattle.rulebook.specs.Sent.{spelled, reply, judged, with_record}
use Rattle.rulebook.proofs.Sending.{accepted_of-append}
use Rattle.market_core.specs.AdmissionState as admissions
use Rattle.market_core.specs.AdmissionState.{AdmissionState}
use Rattle.shard_core.specs.Block.{AreAdmissible}
use Rattle.evaluator_core.specs.Evaluating.{workers_of, IsAhead}
use Rattle.stream_core.specs.Pending.{SendsPrefix}
use Rattle.stream_core.proofs.Sending.{sends_longer}
use Rattle.engine_core.specs.Rounds.{Outcome, outcomes_of, records_in, IsAdmissible}
use Rattle.engine_core.specs.Sessions.{Start, held_after, expected, with_acknowledgements, Starved}
use Rattle.engine_core.specs.Answering.{Waits, Answers, IsShort}
use Rattle.engine_core.specs.EngineState.{Represents}
use Rattle.engine_core.specs.declared.engine.Engine.{Engine}
use Rattle.engine_core.proofs.Rounds.{judged_first, no_outcome, admissible_judged, admissible_records, outcomes-append}
use Rattle.engine_core.proofs.Expecting.{added, expected-more, expected-one, held-one}

-- what stands at an index, and what stands behind it
pub drop_one : {X : Type 0} (xs : List X) (i : ℕ) (x : X) → i < length xs → x ≡ get_or xs i x → drop i xs ≡ x ∷ drop (i + 1) xs
drop_one {X} xs i x lt is = drop_more xs i x lt ∙ ap (λ (y : X). y ∷ drop (i + 1) xs) (sym is)

module _ {start : Start} {answered all : List (List ℕ)} {number : ℕ} {outcomes : List Outcome} (waits : Waits start answered all number outcomes) where
  -- the accepted records of the frames that wait may follow
  pub admissible_waiting : AreAdmissible start.capacity (held_after start answered) (records_in outcomes)
  admissible_waiting = rw waits.outcomes_are (admissible_records start.capacity (held_after start answered) waits.waiting)

  -- no frame waits
  pub none_waits : outcomes ≡ [] → answered ≡ all
  none_waits empty = rw (no_outcome start.capacity (held_after start answered) waits.waiting (sym empty ∙ waits.outcomes_are), append-nil) at waits.whole

  -- a prefix of what is expected for the answered ones is one of what is expected for all
  pub sends_all : {old new : Outside} → Elapses old new (SendsPrefix start.sent (expected start answered) old) → Elapses old new (SendsPrefix start.sent (expected start all) old)
  sends_all = sends_longer _ (added start answered waits.waiting) _ (sym (expected-more start answered waits.waiting) ∙ ap (expected start) waits.whole)

-- The first frame of those that wait is answered.
module _ {start : Start} {answered all : List (List ℕ)} {number : ℕ} {outcome : Outcome} {later : List Outcome} (waits : Waits start answered all number (outcome ∷ later)) where
  pub first : (body : List ℕ) × (rest : List (List ℕ)) × (waits.waiting ≡ body ∷ rest) × (outcome ≡ judged start.capacity (held_after start answered) body)
      × (later ≡ outcomes_of start.capacity (with_record (held_after start answered) (judged start.capacity (held_after start answered) body)) rest)
  first = judged_first start.capacity (held_after start answered) outcome later waits.waiting waits.outcomes_are

  pub admissible : IsAdmissible start.capacity (held_after start answered) outcome
  admissible = subst (IsAdmissible start.capacity (held_after start answered)) (sym first.3) (admissible_judged start.capacity (held_after start answered) first.0)

  pub held_is : with_record (held_after start answered) outcome ≡ held_after start (answered ++ first.0 ∷ [])
  held_is = ap (with_record (held_after start answered)) first.3 ∙ sym (held-one start answered first.0)

  pub text_is : expected start answered ++ spelled (with_acknowledgements start.acknowledges (reply (number + 1) (held_after start answered) outcome)) ≡ expected start (answered ++ first.0 ∷ [])
  text_is = rw (expected-one, ← waits.number_is, ← first.3)

  pub waits_on : Waits start (answered ++ first.0 ∷ []) all (number + 1) later
  waits_on = record {
    waiting = first.1;
    whole = append_assoc answered (first.0 ∷ []) first.1 ∙ ap (λ (b : List (List ℕ)). answered ++ b) (sym first.2) ∙ waits.whole;
    number_is = omega (arith, waits.number_is, length-append answered (first.0 ∷ []));
    outcomes_are = first.4 ∙ ap (λ (h : _). outcomes_of start.capacity h first.1) (sym (held-one start answered first.0));
  }

  -- memory is short for it
  pub starved_first : {workers : ℕ} {now : Outside} → workers ≡ start.workers → IsShort workers outcome start.sent now.sent (expected start answered) → Starved start all now
  starved_first same at = record {
    answered = answered;
    waiting = waits.waiting;
    frames = sym waits.whole;
    short = record { body = first.0; later = first.1; first = first.2; x = at.x; accepted = sym first.3 ∙ at.is; takes = λ one. at.takes (same ∙ one) };
    sent = at.sent;
  }

-- one frame more was judged, and waits behind the others
pub judged_one : {start : Start} {answered all after : List (List ℕ)} {number : ℕ} {outcomes : List Outcome} {engine next : Engine} {outbox : List ℕ} {sent : Option (List ℕ)} (body : List ℕ) (outcome : Outcome) → after ≡ all ++ body ∷ []
    → ((held : List Record) → admissions.Represents engine.admission held → outcome ≡ judged engine.admission.capacity held body)
    → ((capacity : ℕ) (accepted evaluated : List Record) → Represents engine capacity accepted evaluated → Represents next capacity (with_record accepted outcome) evaluated)
    → next ≡ record engine { admission = next.admission } → Answers start answered all number outcomes [] engine outbox sent → Answers start answered after number (outcomes ++ outcome ∷ []) [] next outbox sent
judged_one {start} {answered} {all} {next = next} body outcome whole judges represents rest answers =
    let held = held_after start all in
    let engine_is = answers.evaluates.engine_is in
    let waits = answers.waits in
    let is : outcome ≡ judged start.capacity held body = judges held (record { count = engine_is.count; stands = engine_is.stands.admission }) ∙ (λ i. judged (engine_is.stands.within i) held body) in
    record {
      waits = record {
        waiting = waits.waiting ++ body ∷ [];
        whole = sym (append_assoc answered waits.waiting (body ∷ [])) ∙ ap (λ (b : List (List ℕ)). b ++ body ∷ []) waits.whole ∙ sym whole;
        number_is = waits.number_is;
        outcomes_are = (λ i. waits.outcomes_are i ++ (is ∙ ap (λ (b : List (List ℕ)). judged start.capacity (held_after start b) body) (sym waits.whole)) i ∷ []) ∙ simp (outcomes-append, accepted_of-append);
      };
      evaluates = record {
        engine_is = rw (ap (with_record held) is ∙ sym (held-one start all body) ∙ ap (held_after start) (sym whole)) at (represents start.capacity held _ engine_is);
        workers = ap (λ (e : Engine). workers_of e.evaluator) rest ∙ answers.evaluates.workers;
        ahead = subst (λ (e : Engine). IsAhead e.evaluator []) (sym rest) answers.evaluates.ahead;
      };
      pending_is = answers.pending_is;
    }
