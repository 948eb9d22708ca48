use Rattle.engine_core.proofs.engine.Engine.prepare.Goals as goal

pub returns-then-not-is_empty-clause-stands : goal.returns-then-not-is_empty-clause-stands
returns-then-not-is_empty-clause-stands g c = λ capacity limit accepted evaluated s idle admissible.
    let evaluator = c.prepare.ensures.represents limit evaluated s.evaluator idle admissible in
    assumption

pub returns-then-not-is_empty-clause-represents : goal.returns-then-not-is_empty-clause-represents
returns-then-not-is_empty-clause-represents g c = λ capacity accepted evaluated s idle admissible.
    let evaluator = c.prepare.ensures.represents capacity evaluated s.stands.evaluator idle admissible in
    assumption
