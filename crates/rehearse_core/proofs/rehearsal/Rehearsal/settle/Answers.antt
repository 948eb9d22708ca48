use Rattle.std.proofs.Common.{ap}
use Rattle.engine_core.specs.declared.engine.Engine.{Engine}
use Rattle.rehearse_core.proofs.Rehearsing.{block_ahead}
use Rattle.rehearse_core.proofs.rehearsal.Rehearsal.settle.Goals as goal

pub returns-clause-rehearses : goal.returns-clause-rehearses
returns-clause-rehearses g c = λ all left was.
    c.in_ok-evaluate_each.ensures.rehearses all left
    (rw c.deref.ensures.value (block_ahead was c.prepare.new.self (c.prepare.ensures.represents _ _ _ was.represents was.ahead was.admissible)
    (c.prepare.ensures.ahead was.ahead) (ap (λ (e : Engine). e.evaluated) c.prepare.ensures.rest)))
