use Rattle.std.proofs.Common.{◌∙◌}
use Rattle.pause_core.specs.Pauses.{pause}
use Rattle.symbol_core.proofs.Waiting.{limited-once}
use Rattle.symbol_core.proofs.state.Kept.pause_now.Goals as goal
use Rattle.limit_core.specs.Timers.{has_lasted}
use Rattle.session_core.specs.Times.{in_last_10_minutes}
use Rattle.rulebook.specs.Rules.{asks_to_pause}

pub returns : goal.returns
returns c =
    let k = c.args.self.now in
    let step = c.args.step.now in
    c.pause.ensures
    ∙ (λ i. pause (c.has_expired.ensures i) (c.asks_to_pause.ensures i) k.straddling k.phase (c.last_10.ensures i))
    ∙ limited-once k.phase (has_lasted k.since step.moment) (asks_to_pause k.id step.input) k.straddling (in_last_10_minutes step.moment step.day)
