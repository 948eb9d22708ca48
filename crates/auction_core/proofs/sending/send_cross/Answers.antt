use Rattle.std.proofs.Common.{[]}
use Rattle.stream_core.proofs.Sending.{sends_whole}
use Rattle.auction_core.proofs.Appending.{appends_ok}
use Rattle.auction_core.proofs.Streaming.{none_waits}
use Rattle.auction_core.proofs.sending.send_cross.Goals as goal

pub returns-in_err-append_cross-clause-moments : goal.returns-in_err-append_cross-clause-moments
returns-in_err-append_cross-clause-moments g c =
    let old = g.H.Host.outside c.args.host.now in
    c.append_cross.ensures.appends.moments old.sent [] (none_waits old _ c.requires.empty)

pub returns-clause-sent : goal.returns-clause-sent
returns-clause-sent g c =
    let old = g.H.Host.outside c.args.host.now in
    let all = appends_ok c.append_cross.result _ c.in_ok-append_cross.was c.append_cross.ensures.appends in
    c.flush.ensures.sent old.sent _ (all.pending old.sent [] (none_waits old _ c.requires.empty))

pub returns-clause-moments : goal.returns-clause-moments
returns-clause-moments g c =
    let old = g.H.Host.outside c.args.host.now in
    let all = appends_ok c.append_cross.result _ c.in_ok-append_cross.was c.append_cross.ensures.appends in
    sends_whole (all.moments old.sent [] (none_waits old _ c.requires.empty)) (c.flush.ensures.moments old.sent _ (all.pending old.sent [] (none_waits old _ c.requires.empty)))
