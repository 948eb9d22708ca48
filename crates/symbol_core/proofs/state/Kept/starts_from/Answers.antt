use Rattle.std.proofs.Common.{sym, ◌∙◌}
use Rattle.session_core.specs.Times.{in_session}
use Rattle.pause_core.specs.Phases.{can_start}
use Rattle.std.specs.Prelude.{not}
use Rattle.symbol_core.proofs.Waiting.{starts-never, starts-open}
use Rattle.symbol_core.proofs.state.Kept.starts_from.Goals as goal

pub returns-then-can_start : goal.returns-then-can_start
returns-then-can_start c = λ day u before. starts-open c.args.self.now day c.args.stopped u before

pub returns-else-can_start : goal.returns-else-can_start
returns-else-can_start c = λ day u before. starts-never (can_start c.args.self.now.phase) (in_session u day) (not c.args.stopped) (sym c.can_start.ensures ∙ c.if-can_start.false)
