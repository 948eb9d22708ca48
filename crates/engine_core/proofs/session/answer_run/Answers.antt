use Rattle.std.proofs.Common.{◌≡◌, ℕ, ◌+◌, List, ◌≤◌, ◌∷◌, ◌++◌, [], length, map, drop, Ok, refl, ◌∙◌, arith, rules}
use Rattle.std.proofs.lemmas.List.{drop_all}
use Rattle.host_core.proofs.Chains.{onward, sends_nothing}
use Rattle.host_core.proofs.Causes.{no_fault, faultless}
use Rattle.wire_in.specs.declared.record.Record.{Record}
use Rattle.stream_core.proofs.Pending.{expects_same, on_ok2}
use Rattle.stream_core.proofs.Sending.{sends_none, sends_same, sends_whole}
use Rattle.engine_core.specs.Rounds.{Outcome, records_in}
use Rattle.engine_core.specs.Sessions.{Start}
use Rattle.engine_core.specs.Answering.{Evaluates, Answers, Replies}
use Rattle.engine_core.proofs.Answering.{drop_one, first, admissible, held_is, text_is, waits_on, starved_first, sends_all}
use Rattle.engine_core.proofs.session.answer_run.Given.{Over}
use Rattle.engine_core.proofs.session.answer_run.Goals.{After-answer_record}
use Rattle.engine_core.proofs.session.answer_run.Goals as goal

pub loop-x-init : goal.loop-x-init
loop-x-init g c = record {
  replies = λ start before all number later same answers.
      let none : number + 0 ≡ number = omega arith in
      rw none
      (record {
        answers = (before, answers);
        moments = sends_all answers.waits (sends_none (g.H.Host.outside c.args.host.now) (g.met.H.Host.sent_now c.args.host.now) _ _ answers.pending_is);
        starved = λ is. absurd cc;
      });
  sound = λ later answered sound.
      let none : answered + 0 ≡ answered = omega arith in
      rw none sound;
  admission = refl;
  keeps = sends_nothing _;
  none = no_fault _;
}

pub answer_record-requires : goal.answer_record-requires
answer_record-requires g c =
    let sound = c.loop-x.invariant.sound c.requires.sound.0 c.requires.sound.1 c.requires.sound.3 in
    omega (arith, sound.few, sound.small, c.requires.sound.2, c.loop-x-test.true)

-- one record more was answered, or ended the run
replied : (g : Over) (c : After-answer_record g) (start : Start) (before all : List (List ℕ)) (number : ℕ) (later : List Outcome) → c.args.acknowledges ≡ start.acknowledges
    → Answers start before all number (map Ok c.args.records.now ++ later) (records_in (map Ok c.args.records.now ++ later)) c.args.engine.now c.args.outbox.now (g.H.Host.outside c.args.host.now).sent
    → Replies c.answer_record.result start all (number + c.loop-x.x-index + 1) (map Ok (drop (c.loop-x.x-index + 1) c.args.records.now) ++ later) (records_in (map Ok (drop (c.loop-x.x-index + 1) c.args.records.now) ++ later))
    c.answer_record.new.engine c.answer_record.new.outbox (g.H.Host.outside c.args.host.now) (g.H.Host.outside c.answer_record.new.host)
replied g c start before all number later same answers =
    let was = c.loop-x.invariant.replies start before all number later same answers in
    let rest = map Ok (drop (c.loop-x.x-index + 1) c.args.records.now) ++ later in
    let now = rw (drop_one c.args.records.now c.loop-x.x-index c.x-item.result c.loop-x-test.true c.x-item.is) at was.answers.1 in
    let represented = now.evaluates.engine_is in
    let ahead = now.evaluates.ahead in
    let may = admissible now.waits in
    let after = was.answers.0 ++ (first now.waits).0 ∷ [] in
    let appends = rw same at (c.answer_record.ensures.appends start.capacity _ _ (records_in rest) start.sent _ represented ahead may now.pending_is) in
    let evaluates = on_ok2 c.answer_record.result {R = Evaluates start after all (records_in rest) c.answer_record.new.engine} (c.answer_record.ensures.represents start.capacity _ _ (records_in rest) represented ahead may) (c.answer_record.ensures.ahead (records_in rest) ahead) (λ represents left. record {
      engine_is = rw (held_is now.waits) at represents;
      workers = c.answer_record.ensures.workers ∙ now.evaluates.workers;
      ahead = left;
    }) in
    record {
      answers = on_ok2 c.answer_record.result evaluates appends.pending (λ evaluates expects. (after, record { waits = waits_on now.waits; evaluates = evaluates; pending_is = expects_same _ _ (text_is now.waits) expects }));
      moments = sends_whole was.moments (sends_all (waits_on now.waits) (sends_same _ _ (text_is now.waits) appends.moments));
      starved = λ is. starved_first now.waits now.evaluates.workers (c.answer_record.ensures.starved start.sent _ (c.loop-x.invariant.sound c.requires.sound.0 c.requires.sound.1 c.requires.sound.3).roomy now.pending_is is);
    }

pub loop-x-preserved : goal.loop-x-preserved
loop-x-preserved g c = record {
  replies = λ start before all number later same answers.
      let next : number + (c.loop-x.x-index + 1) ≡ number + c.loop-x.x-index + 1 = omega arith in
      rw next
      (rw c.in_ok-answer_record.was at (replied g (goal.at.loop-x-preserved g c).After-answer_record start before all number later same answers));
  sound = λ later answered sound.
      let was = rw (drop_one c.args.records.now c.loop-x.x-index c.x-item.result c.loop-x-test.true c.x-item.is) at (c.loop-x.invariant.sound later answered sound) in
      grind (arith, was, c.answer_record.ensures.admission, c.in_ok-answer_record.ensures.evaluated, c.in_ok-answer_record.ensures.published, c.in_ok-answer_record.ensures.roomy was.roomy);
  admission = c.answer_record.ensures.admission ∙ c.loop-x.invariant.admission;
  keeps = onward c.loop-x.invariant.keeps c.answer_record.ensures.outside.keeps;
  none = faultless c.loop-x.invariant.none c.in_ok-answer_record.ensures.outside.causes;
}

pub returns-in_err-answer_record-clause-replies : goal.returns-in_err-answer_record-clause-replies
returns-in_err-answer_record-clause-replies g c start before all number later same answers =
    let replies = replied g (goal.at.returns-in_err-answer_record-clause-replies g c).After-answer_record start before all number later same answers in
    record { answers = search rules; moments = replies.moments; starved = λ is. replies.starved (search rules) }

-- all were answered
ended : (index : ℕ) (records : List Record) → length records ≤ index → index ≤ length records → (drop index records ≡ []) × (index ≡ length records)
ended index records none within = (drop_all index records none, omega arith)

pub returns-clause-replies : goal.returns-clause-replies
returns-clause-replies g c start before all number later same answers =
    let end = ended c.loop-x.x-index c.args.records.now c.loop-x-test.false c.loop-x.auto.x-index-end in
    rw (end.0, end.1) at (c.loop-x.invariant.replies start before all number later same answers)

pub returns-clause-sound : goal.returns-clause-sound
returns-clause-sound g c later answered sound =
    let end = ended c.loop-x.x-index c.args.records.now c.loop-x-test.false c.loop-x.auto.x-index-end in
    rw (end.0, end.1) at (c.loop-x.invariant.sound later answered sound)
