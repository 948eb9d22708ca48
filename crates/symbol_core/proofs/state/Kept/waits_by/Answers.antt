use Rattle.std.proofs.Common.{sym, ◌∙◌}
use Rattle.symbol_core.proofs.Quiet.{waits-known}
use Rattle.symbol_core.proofs.state.Kept.waits_by.Goals as goal

pub returns-in-Some : goal.returns-in-Some
returns-in-Some c =
    waits-known c.args.self.now c.args.step.now c.in-Some.due c.args.due.now c.waits_at.result c.in-Some.is (sym c.is_out.ensures ∙ c.if-not-is_out.true) c.waits_at.ensures
