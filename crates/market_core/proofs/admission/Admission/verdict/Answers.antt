use Rattle.std.proofs.Common.{◌∙◌}
use Rattle.market_core.proofs.Verdicts.{refusal_of-represents, refusal_of-stands}
use Rattle.market_core.proofs.admission.Admission.verdict.Goals as goal

pub returns-clause-exact : goal.returns-clause-exact
returns-clause-exact c = λ admitted represents. c.refusal.ensures ∙ refusal_of-represents c.args.self.now admitted c.args.x.now represents

pub returns-clause-exact_at : goal.returns-clause-exact_at
returns-clause-exact_at c = λ admitted stands. c.refusal.ensures ∙ refusal_of-stands c.args.self.now admitted c.args.x.now stands
