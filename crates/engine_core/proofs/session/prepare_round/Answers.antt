use Rattle.std.proofs.Common.{◌∙◌}
use Rattle.engine_core.proofs.Answering.{admissible_waiting}
use Rattle.engine_core.proofs.session.prepare_round.Goals as goal

pub returns-clause-answers : goal.returns-clause-answers
returns-clause-answers g c start before all sent answers =
    let records = c.accepted.ensures.accepted in
    let engine_is = c.prepare.ensures.represents start.capacity _ _ answers.evaluates.engine_is answers.evaluates.ahead (rw records (admissible_waiting answers.waits)) in
    let workers = c.prepare.ensures.workers ∙ answers.evaluates.workers in
    let ahead = rw records at (c.prepare.ensures.ahead answers.evaluates.ahead) in
    assumption

pub returns-clause-sound : goal.returns-clause-sound
returns-clause-sound g c = λ sound. rw c.prepare.ensures.rest (assumption sound)
