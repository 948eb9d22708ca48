use Rattle.std.proofs.Common.{sym, ◌∙◌, arith}
use Rattle.symbol_core.proofs.Waiting.{pauses-early, pauses-never}
use Rattle.symbol_core.proofs.state.Kept.pauses_from.Goals as goal

pub returns-then-is_limit : goal.returns-then-is_limit
returns-then-is_limit c = λ u before. pauses-early c.args.self.now u (omega arith)

pub returns-else-is_limit : goal.returns-else-is_limit
returns-else-is_limit c = λ u before. pauses-never c.args.self.now u (sym c.is_limit.ensures ∙ c.if-is_limit.false)
