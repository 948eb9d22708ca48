use Rattle.std.proofs.Common.{refl}
use Rattle.symbol_core.proofs.Evaluated.{step-obeyed}
use Rattle.symbol_core.proofs.Quiet.{waits-held}
use Rattle.symbol_core.proofs.symbol.Symbol.obey.Goals as goal

pub take_step-self-inside-requires-clause-waits : goal.take_step-self-inside-requires-clause-waits
take_step-self-inside-requires-clause-waits c =
    waits-held c.self.inside.kept c.self.inside.deals.deals c.step_of-step.result c.self.inside.due c.waits_by-waits.result c.self.invariant c.waits_by-waits.ensures

pub returns-clause-ok : goal.returns-clause-ok
returns-clause-ok c =
    step-obeyed c.args.market.now c.args.x.now c.args.self.now c.self.inside.kept c.self.inside.deals.deals c.reserve_for.new.deals.deals c.self.inside.deals.spare
    (record { kept = c.take_step-self-inside.new.k; deals = c.take_step-self-inside.new.deals.deals; spare = c.take_step-self-inside.new.deals.spare }) c.args.out.now c.args.out.now c.take_step-self-inside.new.out c.step_of-step.result
    c.self.view_is c.step_of-step.ensures c.reserve_for.ensures.deals refl c.requires.day c.requires.listed c.take_step-self-inside.ensures.steps
