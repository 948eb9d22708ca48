use Rattle.audit_core.proofs.Auditing.{taken-represents}
use Rattle.audit_core.proofs.audit.Audit.take.Goals as goal

pub returns-clause-stands : goal.returns-clause-stands
returns-clause-stands c = λ frames r done. taken-represents c.args.f.now c.args.self.now c.pass.new.self frames c.in_ok-pass.ensures.taken r
