use Rattle.std.proofs.Common.{◌≡◌, subst}
use Rattle.command_core.specs.Runs.{Did}
use Rattle.command_core.proofs.Running.{understood, untouched}
use Rattle.command_core.proofs.program.run.Goals as goal

pub returns-clause-ran : goal.returns-clause-ran
returns-clause-ran g c = λ command is.
    subst (λ answer. Did (c.answer.new.host ≡ c.args.host.now) answer c.answer.result (g.H.Host.outside c.args.host.now) (g.H.Host.outside c.answer.new.host)) (c.parse.ensures.plain command is) c.answer.ensures.did

pub returns-clause-others : goal.returns-clause-others
returns-clause-others g c = λ none. record { answer = c.parse.result; reads = c.parse.ensures.others none; did = c.answer.ensures.did }

pub returns-clause-understood : goal.returns-clause-understood
returns-clause-understood g c = λ command is.
    understood _ command _ _ _ (subst (λ answer. Did (c.answer.new.host ≡ c.args.host.now) answer c.answer.result (g.H.Host.outside c.args.host.now) (g.H.Host.outside c.answer.new.host)) (c.parse.ensures.plain command is) c.answer.ensures.did)

pub returns-clause-untouched : goal.returns-clause-untouched
returns-clause-untouched g c = untouched _ c.parse.result _ _ _ c.answer.ensures.did
