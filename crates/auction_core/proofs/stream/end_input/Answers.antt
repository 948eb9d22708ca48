use Rattle.auction_core.specs.Texts.{lines_of}
use Rattle.auction_core.proofs.Streaming.{nothing_sent}
use Rattle.auction_core.proofs.stream.end_input.Goals as goal

pub returns-in_err-close-clause-moments : goal.returns-in_err-close-clause-moments
returns-in_err-close-clause-moments g c read text reads is = nothing_sent (g.H.Host.outside c.args.host.now) (g.met.H.Host.sent_now c.args.host.now) text

pub returns-clause-status : goal.returns-clause-status
returns-clause-status g c read reads = c.finish.ensures.status (lines_of read) (c.in_ok-close.ensures.holds read reads)

pub returns-clause-sent : goal.returns-clause-sent
returns-clause-sent g c read text reads is = c.finish.ensures.sent (lines_of read) text (c.in_ok-close.ensures.holds read reads) is

pub returns-clause-moments : goal.returns-clause-moments
returns-clause-moments g c read text reads is = c.finish.ensures.moments (lines_of read) text (c.in_ok-close.ensures.holds read reads) is
