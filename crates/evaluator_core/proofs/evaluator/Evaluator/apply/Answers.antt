use Rattle.std.proofs.Common.{◌∷◌, subst}
use Rattle.evaluator_core.specs.declared.evaluator.Evaluator.{Evaluator}
use Rattle.evaluator_core.specs.Evaluating.{IsAhead, Represents}
use Rattle.evaluator_core.proofs.evaluator.Evaluator.apply.Goals as goal

pub returns-in-Many-clause-given : goal.returns-in-Many-clause-given
returns-in-Many-clause-given c = λ capacity applied later stands ahead passed.
    c.apply-in-Many.ensures.given c.args.x.now applied later (subst (λ (e : Evaluator). Represents e applied) c.in-Many.is stands)
    (subst (λ (e : Evaluator). IsAhead e (c.args.x.now ∷ later)) c.in-Many.is ahead)

pub returns-in-Many-clause-stands : goal.returns-in-Many-clause-stands
returns-in-Many-clause-stands c = λ capacity applied later stands ahead passed.
    c.apply-in-Many.ensures.stands c.args.x.now applied later (subst (λ (e : Evaluator). Represents e applied) c.in-Many.is stands)
    (subst (λ (e : Evaluator). IsAhead e (c.args.x.now ∷ later)) c.in-Many.is ahead)

pub returns-in-Many-clause-ahead : goal.returns-in-Many-clause-ahead
returns-in-Many-clause-ahead c = λ later ahead. c.apply-in-Many.ensures.ahead c.args.x.now later (subst (λ (e : Evaluator). IsAhead e (c.args.x.now ∷ later)) c.in-Many.is ahead)
