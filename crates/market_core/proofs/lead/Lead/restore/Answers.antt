use Rattle.std.proofs.Common.{◌∙◌}
use Rattle.market_core.proofs.Restoring.{stand_in-led}
use Rattle.market_core.proofs.lead.Lead.restore.Goals as goal

pub returns-clause-stand_in : goal.returns-clause-stand_in
returns-clause-stand_in c =
    stand_in-led c.args.base.now (record { directory = c.restore.result; today = c.begun-today.result }) c.requires.range
    (λ i. record { directory = (c.restore.ensures ∙ c.list.ensures) i; today = c.begun-today.ensures i })
