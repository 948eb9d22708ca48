use Rattle.std.proofs.Common.{sym, ◌∙◌}
use Rattle.symbol_core.proofs.Banding.{bands-trading}
use Rattle.symbol_core.proofs.Waiting.{bands-never, bands-stay}
use Rattle.symbol_core.proofs.state.Kept.changes_bands_from.Goals as goal

pub returns-then-is_trading : goal.returns-then-is_trading
returns-then-is_trading c = λ step day le before.
    bands-stay c.args.self.now c.args.step.now step day (c.next_change.ensures step.moment le before) (bands-trading c.args.self.now c.args.step.now (sym c.is_trading.ensures ∙ c.if-is_trading.true) c.requires)

pub returns-else-is_trading : goal.returns-else-is_trading
returns-else-is_trading c = λ step day le before. bands-never c.args.self.now step (sym c.is_trading.ensures ∙ c.if-is_trading.false)
