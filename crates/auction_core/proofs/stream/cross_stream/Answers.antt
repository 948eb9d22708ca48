use Rattle.std.proofs.Common.{refl, sym, subst}
use Rattle.host_core.specs.declared.status.Status.{Status}
use Rattle.stream_core.proofs.Streamed.{nothing_streamed, streamed}
use Rattle.auction_core.specs.Crossed.{HasCrossed}
use Rattle.auction_core.proofs.Quiet.{sends_at_end}
use Rattle.auction_core.proofs.Streaming.{tells}
use Rattle.auction_core.proofs.stream.cross_stream.Goals as goal

pub returns-in_default-clause-crossed : goal.returns-in_default-clause-crossed
returns-in_default-clause-crossed g c = λ whole texts.
    nothing_streamed tells (g.H.Host.outside c.args.host.now) (λ input is. refl) (g.met.H.Host.sent_now c.args.host.now) (g.met.H.Host.stops_now c.args.host.now)

pub returns-in_default-clause-unsent : goal.returns-in_default-clause-unsent
returns-in_default-clause-unsent g c = λ other unsent input is. refl

pub returns-clause-crossed : goal.returns-clause-crossed
returns-clause-crossed g c =
    let old = g.H.Host.outside c.args.host.now in
    let new = g.H.Host.outside c.cross_input.new.host in
    subst (λ (status : Status). HasCrossed status old new) (sym c.answer_of.ensures) (λ whole texts.
    streamed tells c.cross_input.result (c.cross_input.ensures.ran whole texts) (g.met.H.Host.sent_now c.cross_input.new.host) (g.met.H.Host.stops_now c.cross_input.new.host)
    c.cross_input.ensures.unsent)

pub returns-clause-unsent : goal.returns-clause-unsent
returns-clause-unsent g c =
    let old = g.H.Host.outside c.args.host.now in
    let new = g.H.Host.outside c.cross_input.new.host in
    sends_at_end c.answer_of.result (subst (λ (status : Status). HasCrossed status old new) (sym c.answer_of.ensures) (λ whole texts.
    streamed tells c.cross_input.result (c.cross_input.ensures.ran whole texts) (g.met.H.Host.sent_now c.cross_input.new.host) (g.met.H.Host.stops_now c.cross_input.new.host)
    c.cross_input.ensures.unsent))
