use Rattle.std.proofs.Common.{subst, sym}
use Rattle.evaluator_core.specs.declared.evaluator.Evaluator.{Evaluator}
use Rattle.evaluator_core.specs.Evaluating.{IsIdle, Represents}
use Rattle.evaluator_core.proofs.evaluator.Evaluator.begin_or_rest.Goals as goal

pub returns-in-Ok-rest-clause-represents : goal.returns-in-Ok-rest-clause-represents
returns-in-Ok-rest-clause-represents c = λ evaluated stands idle.
    subst (λ (e : Evaluator). Represents e evaluated) (sym c.replace-then-is_idle_for_long.ensures.after)
    (c.in-Ok-rest.ensures.represents evaluated (subst (λ (e : Evaluator). Represents e evaluated) c.in-Many.is stands) (subst IsIdle c.in-Many.is idle))
