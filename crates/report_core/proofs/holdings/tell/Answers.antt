use Rattle.std.proofs.Common.{◌∙◌}
use Rattle.report_core.proofs.Reporting.{told_all, told_in_part}
use Rattle.report_core.proofs.holdings.tell.Goals as goal

pub returns-in-Ok-clause-tells : goal.returns-in-Ok-clause-tells
returns-in-Ok-clause-tells g c = λ held r.
    told_all c.deref.result.now _ (c.deref.ensures.value ∙ c.report_text.ensures.lines held r) c.send_all.ensures.moments c.in-Ok.ensures.sent

pub returns-clause-tells : goal.returns-clause-tells
returns-clause-tells g c = λ held r. told_in_part c.deref.result.now _ (c.deref.ensures.value ∙ c.report_text.ensures.lines held r) c.send_all.ensures.moments
