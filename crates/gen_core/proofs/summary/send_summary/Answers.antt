use Rattle.std.proofs.Common.{◌∙◌}
use Rattle.gen_core.specs.SummaryLines.{summary_lines}
use Rattle.gen_core.proofs.Sending.{nothing_sent, piece_moments}
use Rattle.gen_core.proofs.summary.send_summary.Goals as goal

pub returns-in_err-text-clause-moments : goal.returns-in_err-text-clause-moments
returns-in_err-text-clause-moments g c =
    nothing_sent (g.H.Host.outside c.args.host.now) (g.met.H.Host.sent_now c.args.host.now) (summary_lines c.args.records c.args.refused c.args.tally.now)

pub returns-in_err-map_err-clause-moments : goal.returns-in_err-map_err-clause-moments
returns-in_err-map_err-clause-moments g c =
    piece_moments _ (summary_lines c.args.records c.args.refused c.args.tally.now) (c.deref.ensures.value ∙ c.in_ok-text.ensures) c.send_all.ensures.moments

pub returns-clause-moments : goal.returns-clause-moments
returns-clause-moments g c =
    piece_moments _ (summary_lines c.args.records c.args.refused c.args.tally.now) (c.deref.ensures.value ∙ c.in_ok-text.ensures) c.send_all.ensures.moments
