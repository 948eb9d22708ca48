use Rattle.std.proofs.Common.{[], ◌+◌, ◌∷◌, ◌++◌, length, ap, sym, ◌∙◌, length-append, arith, rules}
use Rattle.std.specs.Prelude.{Err, reverse}
use Rattle.std.proofs.lemmas.List.{reverse-append}
use Rattle.market_core.specs.AdmissionState.{AdmissionState}
use Rattle.rulebook.specs.Base.{messages_after, step_after}
use Rattle.stream_core.proofs.Pending.{on_ok, whenever_ok, expects_same}
use Rattle.stream_core.proofs.Sending.{sends_same}
use Rattle.engine_core.proofs.Starving.{not_short, takes_of}
use Rattle.recovery_core.specs.Origins.{again, origin_of}
use Rattle.recovery_core.proofs.Behind.{again_one, own_past, with_more}
use Rattle.recovery_core.proofs.Recovering.{err_unsent, ok_unsent, sends_part, sends_then, passes, sends_pending, starved_now, unless_ok}
use Rattle.recovery_core.proofs.recovery.resume_record.Goals as goal

pub returns-in_err-evaluate-clause-moments : goal.returns-in_err-evaluate-clause-moments
returns-in_err-evaluate-clause-moments g c = λ capacity base accepted later begin r. sends_pending r c.evaluate.ensures.moments

pub returns-in_err-evaluate-clause-starved : goal.returns-in_err-evaluate-clause-starved
returns-in_err-evaluate-clause-starved g c = λ capacity base accepted later begin r is.
    let x = c.args.x.now in
    let short = c.evaluate.ensures.starved begin (again c.args.from base r.held) c.requires.roomy r.pending_is (search rules) in
    starved_now r (record { x = x; later = reverse later; parts = reverse-append (x ∷ []) later; takes = takes_of x short }) short.sent

pub returns-clause-resumes : goal.returns-clause-resumes
returns-clause-resumes g c = λ capacity base accepted later begin r.
    let x = c.args.x.now in
    let origin = origin_of base in
    let given = c.in_ok-evaluate.ensures.messages capacity _ _ _ later (r.admits.stands origin.list (own_past base)) r.ahead (passes r (length (r.held ++ origin.list) + length (x ∷ later)) origin.list (own_past base) (omega arith)).0 in
    let gave = c.deref.ensures.value ∙ given in
    on_ok c.append_again.result (c.append_again.ensures.pending begin (again c.args.from base r.held) (c.in_ok-evaluate.ensures.pending begin _ r.pending_is)) (λ pending. record {
      held = x ∷ r.held;
      whole = sym (with_more r.held x later) ∙ r.whole;
      admits = record {
        stands = λ past is.
            c.in_ok-evaluate.ensures.stands capacity _ _ _ later (r.admits.stands past is) r.ahead (passes r (length (r.held ++ past) + length (x ∷ later)) past is (omega arith)).0;
        count = ap (λ (a : AdmissionState). a.count) c.evaluate.ensures.admission ∙ r.admits.count;
        evaluated_is = omega (arith, c.in_ok-evaluate.ensures.evaluated, r.admits.evaluated_is);
        published = omega (
          arith,
          c.in_ok-evaluate.ensures.published,
          c.evaluate.new.engine.messages.ok.0,
          ap length given,
          r.admits.published,
          length-append (messages_after origin r.held) (step_after origin (x ∷ r.held)),
        );
        lawful = r.admits.lawful;
      };
      ahead = c.in_ok-evaluate.ensures.ahead later r.ahead;
      pending_is = expects_same _ _ (again_one origin c.args.from x r.held c.args.engine.now.published _ r.admits.published gave) pending;
    })

pub returns-clause-moments : goal.returns-clause-moments
returns-clause-moments g c = λ capacity base accepted later begin r.
    let x = c.args.x.now in
    let origin = origin_of base in
    let gave = c.deref.ensures.value
    ∙ c.in_ok-evaluate.ensures.messages capacity _ _ _ later (r.admits.stands origin.list (own_past base)) r.ahead (passes r (length (r.held ++ origin.list) + length (x ∷ later)) origin.list (own_past base) (omega arith)).0 in
    sends_then (sends_pending r c.evaluate.ensures.moments) (sends_part c.args.from base (record { more = reverse later; whole = sym (with_more r.held x later) ∙ r.whole })
    (sends_same _ _ (again_one origin c.args.from x r.held c.args.engine.now.published _ r.admits.published gave)
    (c.append_again.ensures.moments begin (again c.args.from base r.held) (c.in_ok-evaluate.ensures.pending begin _ r.pending_is))))

pub returns-clause-roomy : goal.returns-clause-roomy
returns-clause-roomy g c = whenever_ok c.append_again.result (c.in_ok-evaluate.ensures.roomy c.requires.roomy)

pub returns-clause-starved : goal.returns-clause-starved
returns-clause-starved g c = λ capacity base accepted later begin r is. absurd (not_short c.append_again.result c.append_again.ensures.outside.fault is)

pub returns-in_err-evaluate-clause-unasked : goal.returns-in_err-evaluate-clause-unasked
returns-in_err-evaluate-clause-unasked g c = λ none empty.
    let idle = c.evaluate.ensures.idle empty in
    (idle.1, err_unsent c.from_residual.result c.from_residual.ensures.1 (λ is. idle.0 (c.in_err-evaluate.was ∙ ap Err is)), unless_ok _ c.from_residual.result _ c.from_residual.ensures.1)

pub returns-clause-unasked : goal.returns-clause-unasked
returns-clause-unasked g c = λ none empty.
    let quiet = c.append_again.ensures.unasked none in
    let before = c.in_ok-evaluate.ensures.unsent in
    (quiet.2 ∙ before.1, ok_unsent c.append_again.result quiet.0, whenever_ok c.append_again.result (quiet.1 ∙ before.0 ∙ empty))
