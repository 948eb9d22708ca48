use Rattle.std.proofs.Common.{◌∷◌, ◌++◌, [], Err, arith, rules}
use Rattle.stream_core.proofs.Pending.{expects_same, on_ok, whenever_ok}
use Rattle.stream_core.proofs.Sending.{sends_whole}
use Rattle.engine_core.proofs.Answering.{first, held_is, text_is, waits_on, sends_all}
use Rattle.engine_core.proofs.Starving.{not_short}
use Rattle.engine_core.proofs.session.answer_up_to.Goals as goal

pub returns-in_err-answer_run-clause-replies : goal.returns-in_err-answer_run-clause-replies
returns-in_err-answer_run-clause-replies g c start before all later same answers =
    let run = c.answer_run.ensures.replies start before all c.args.answered (Err c.args.refusal ∷ later) same answers in
    record { answers = search rules; moments = run.moments; starved = λ is. run.starved (search rules) }

pub returns-clause-replies : goal.returns-clause-replies
returns-clause-replies g c start before all later same answers =
    let was = c.in_ok-answer_run.ensures.replies start before all c.args.answered (Err c.args.refusal ∷ later) same answers in
    let now = was.answers.1 in
    let after = was.answers.0 ++ (first now.waits).0 ∷ [] in
    record {
      answers = on_ok c.refuse.result (c.refuse.ensures.pending start.acknowledges start.sent _ now.pending_is) (λ expects. (
        after,
        record {
          waits = waits_on now.waits;
          evaluates = record { engine_is = rw (held_is now.waits) at now.evaluates.engine_is; workers = now.evaluates.workers; ahead = now.evaluates.ahead };
          pending_is = expects_same _ _ (text_is now.waits) expects;
        },
      ));
      moments = sends_whole was.moments (sends_all now.waits (c.refuse.ensures.moments start.sent _ now.pending_is));
      starved = λ is. absurd (not_short c.refuse.result c.refuse.ensures.outside.fault is);
    }

pub answer_run-requires : goal.answer_run-requires
answer_run-requires g c = record { sound = (Err c.args.refusal ∷ c.requires.sound.0, c.args.answered, c.requires.answered, c.requires.sound.1) }

pub returns-clause-sound : goal.returns-clause-sound
returns-clause-sound g c later sound =
    let was = c.in_ok-answer_run.ensures.sound (Err c.args.refusal ∷ later) c.args.answered sound in
    whenever_ok c.refuse.result (record { within = was.within; count = was.count; few = was.few; small = omega (arith, was.small); roomy = was.roomy })
