use Rattle.std.proofs.Common.{ap, not, sym, ◌∙◌}
use Rattle.eligible_core.proofs.Bits.{eligible-in_session}
use Rattle.eligible_core.proofs.trade.eligible.Goals as goal

pub returns-then-in_session : goal.returns-then-in_session
returns-then-in_session c =
    ap not c.has_barring_bit.ensures ∙ eligible-in_session c.args.flags c.args.t c.args.day.now (sym c.if-in_session.true ∙ c.in_session.ensures)
