use Rattle.std.proofs.Common.{Err, refl, sym, ap, subst, ◌∙◌, rules}
use Rattle.host_core.proofs.Chains.{reads_nothing}
use Rattle.evaluator_core.specs.Evaluating.{IsWorking}
use Rattle.engine_core.specs.declared.engine.Engine.{Engine}
use Rattle.recovery_core.proofs.Recovering.{err_unsent, sends_rests, sends_all, sends_nothing_read, starves, resumes_ahead, resumed, unless_ok}
use Rattle.recovery_core.proofs.recovery.Recovery.settle.Goals as goal

pub returns-then-has_room-clause-moments : goal.returns-then-has_room-clause-moments
returns-then-has_room-clause-moments g c = λ begin disk first. sends_nothing_read first (reads_nothing _ (g.met.H.Host.sent_now c.args.host.now))

pub returns-in_err-resume_all-clause-moments : goal.returns-in_err-resume_all-clause-moments
returns-in_err-resume_all-clause-moments g c = λ begin disk first.
    let ahead = resumes_ahead first.resumes c.list-waiting.ensures.records c.deref.ensures.value c.prepare.new.self c.prepare.ensures.rest (c.prepare.ensures.stands _) c.prepare.ensures.ahead in
    sends_all first (c.resume_all.ensures.moments _ _ _ begin ahead)

pub returns-in_err-resume_all-clause-starved : goal.returns-in_err-resume_all-clause-starved
returns-in_err-resume_all-clause-starved g c = λ begin disk first is.
    let ahead = resumes_ahead first.resumes c.list-waiting.ensures.records c.deref.ensures.value c.prepare.new.self c.prepare.ensures.rest (c.prepare.ensures.stands _) c.prepare.ensures.ahead in
    starves first (g.H.Host.outside c.resume_all.new.host) c.prepare.ensures.workers (c.resume_all.ensures.starved _ _ _ begin ahead (search rules))

pub returns-clause-settles : goal.returns-clause-settles
returns-clause-settles g c = λ begin disk first.
    let ahead = resumes_ahead first.resumes c.list-waiting.ensures.records c.deref.ensures.value c.prepare.new.self c.prepare.ensures.rest (c.prepare.ensures.stands _) c.prepare.ensures.ahead in
    resumed first c.resume_all.new.engine c.resume_all.new.outbox c.clear.ensures (sends_rests c.resume_all.ensures.outside.keeps first.rests) (c.in_ok-resume_all.ensures.resumes _ _ _ begin ahead)
    (c.in_ok-resume_all.ensures.working (λ none. subst (λ (e : Engine). IsWorking e.evaluator) (sym (c.prepare.ensures.none (sym c.deref.ensures.value ∙ none))) first.working))

pub returns-clause-moments : goal.returns-clause-moments
returns-clause-moments g c = λ begin disk first.
    let ahead = resumes_ahead first.resumes c.list-waiting.ensures.records c.deref.ensures.value c.prepare.new.self c.prepare.ensures.rest (c.prepare.ensures.stands _) c.prepare.ensures.ahead in
    sends_all first (c.resume_all.ensures.moments _ _ _ begin ahead)

pub returns-then-has_room-clause-unasked : goal.returns-then-has_room-clause-unasked
returns-then-has_room-clause-unasked g c = λ none empty. (refl, λ is. cc is, empty)

pub returns-in_err-resume_all-clause-unasked : goal.returns-in_err-resume_all-clause-unasked
returns-in_err-resume_all-clause-unasked g c = λ none empty.
    let quiet = c.resume_all.ensures.unasked none empty in
    (quiet.0, err_unsent c.from_residual.result c.from_residual.ensures.1 (λ is. quiet.1 (c.in_err-resume_all.was ∙ ap Err is)), unless_ok _ c.from_residual.result _ c.from_residual.ensures.1)

pub returns-clause-unasked : goal.returns-clause-unasked
returns-clause-unasked g c = λ none empty.
    let quiet = c.in_ok-resume_all.ensures.unasked none empty in
    (quiet.0, λ is. cc is, quiet.2)
