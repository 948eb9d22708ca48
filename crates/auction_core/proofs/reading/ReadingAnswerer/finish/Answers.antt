use Rattle.std.proofs.Common.{sym, ◌∙◌}
use Rattle.host_core.proofs.Known.{append_known-nil}
use Rattle.stream_core.proofs.Sending.{sends_none}
use Rattle.auction_core.specs.InternalReading.{expects_none}
use Rattle.auction_core.proofs.Ending.{goes_on_at, stops_so}
use Rattle.auction_core.proofs.reading.ReadingAnswerer.finish.Goals as goal

pub returns-clause-exact : goal.returns-clause-exact
returns-clause-exact g c given same knows through =
    rw same (
      c.status.ensures.end _ knows.reads.holds ∙ stops_so given.input c.args.read c.args.most (g.H.Host.outside c.args.host.now) knows.reads through,
      knows.unsent ∙ sym (append_known-nil given.begin),
    )

pub returns-clause-leaves : goal.returns-clause-leaves
returns-clause-leaves g c given same knows through = sends_none (g.H.Host.outside c.args.host.now) (g.met.H.Host.sent_now c.args.host.now) _ _ (expects_none knows)

pub returns-clause-whole : goal.returns-clause-whole
returns-clause-whole g c ended = goes_on_at _ _ c.status.ensures.done c.status.ensures.kind ended
