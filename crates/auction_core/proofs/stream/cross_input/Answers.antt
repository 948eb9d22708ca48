use Rattle.std.proofs.Common.{ap, ◌∙◌}
use Rattle.std.specs.Prelude.{Ok}
use Rattle.auction_core.proofs.Streaming.{ran_bad, ran_done, ran_err}
use Rattle.auction_core.proofs.stream.cross_input.Goals as goal

pub returns-in_err-status-clause-ran : goal.returns-in_err-status-clause-ran
returns-in_err-status-clause-ran g c whole texts = ran_err c.read_lines.ensures.began whole _ c.in_err-status.was c.from_residual.result c.from_residual.ensures.1

pub returns-in_default-clause-ran : goal.returns-in_default-clause-ran
returns-in_default-clause-ran g c whole texts = ran_bad c.read_lines.ensures.began whole texts _ c.in_ok-status.was c.in_default.not-Done

pub returns-in-Done-clause-ran : goal.returns-in-Done-clause-ran
returns-in-Done-clause-ran g c whole texts =
    let end = c.end_input.ensures in
    ran_done c.read_lines.ensures.began whole texts (c.in_ok-status.was ∙ ap Ok c.in-Done.is) c.end_input.result end.status end.sent end.moments end.end end.outside
