use Rattle.std.proofs.Common.{◌≡◌, refl, sym, ap, ◌∙◌}
use Rattle.std.specs.Prelude.{Ok, Some, None}
use Rattle.audit_core.proofs.Found.{audits_none, audits_breach, audits_frame}
use Rattle.audit_core.proofs.stream.Inspection.take.Goals as goal

pub returns-in_default-clause-audits : goal.returns-in_default-clause-audits
returns-in_default-clause-audits c bodies audits = audits_none audits c.requires.sound c.args.body.now (sym c.in_default.ensures.exact)

pub returns-in-Some-clause-audits : goal.returns-in-Some-clause-audits
returns-in-Some-clause-audits c bodies audits =
    audits_breach audits c.requires.sound c.args.body.now c.take.new.self c.in-Ok.frame c.in-Some.law (sym c.in-Ok.ensures.exact)
    (sym (c.in_ok-law.ensures.law audits.frames (audits.represents c.requires.sound)) ∙ c.in-Some.is)

pub returns-in-None-clause-audits : goal.returns-in-None-clause-audits
returns-in-None-clause-audits c bodies audits =
    let represents = audits.represents c.requires.sound in
    audits_frame audits c.requires.sound c.args.body.now c.take.new.self c.in-Ok.frame (sym c.in-Ok.ensures.exact)
    (sym (c.in_ok-law.ensures.law audits.frames represents) ∙ c.in-None.is)
    (c.in_ok-law.ensures.stands audits.frames represents (ap Ok c.in-None.is))
