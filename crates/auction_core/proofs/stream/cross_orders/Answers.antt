use Rattle.std.proofs.Common.{ℕ, List, sym, ap, subst, ◌∙◌}
use Rattle.std.specs.Io.KnownBytes.{append_known}
use Rattle.stream_core.proofs.Pending.{on_ok}
use Rattle.stream_core.proofs.Sending.{sends_same}
use Rattle.cross_core.specs.Fills.{AreFills}
use Rattle.auction_core.proofs.Streaming.{nothing_sent}
use Rattle.auction_core.proofs.Texting.{text_is_so}
use Rattle.auction_core.proofs.stream.cross_orders.Goals as goal

pub fills-requires : goal.fills-requires
fills-requires g c = record { few = c.requires.few; volume = c.in_ok-crossed.ensures.volume }

pub returns-in_err-crossed-clause-moments : goal.returns-in_err-crossed-clause-moments
returns-in_err-crossed-clause-moments g c text is = nothing_sent (g.H.Host.outside c.args.host.now) (g.met.H.Host.sent_now c.args.host.now) text

pub returns-in_err-fills-clause-moments : goal.returns-in_err-fills-clause-moments
returns-in_err-fills-clause-moments g c text is = nothing_sent (g.H.Host.outside c.args.host.now) (g.met.H.Host.sent_now c.args.host.now) text

pub returns-in_err-outbox-clause-moments : goal.returns-in_err-outbox-clause-moments
returns-in_err-outbox-clause-moments g c text is = nothing_sent (g.H.Host.outside c.args.host.now) (g.met.H.Host.sent_now c.args.host.now) text

pub returns-clause-sent : goal.returns-clause-sent
returns-clause-sent g c text is =
    let fills = subst (λ (fs : List ℕ). AreFills c.in_ok-crossed.crossed.price c.in_ok-crossed.crossed.volume c.args.orders.now fs) (sym c.deref.ensures.value) c.in_ok-fills.ensures.fills in
    on_ok c.send_cross.result c.send_cross.ensures.sent
    (λ sent. sent ∙ ap (λ (t : List ℕ). append_known (g.H.Host.outside c.args.host.now).sent t) (text_is_so _ _ c.in_ok-crossed.ensures fills is))

pub returns-clause-moments : goal.returns-clause-moments
returns-clause-moments g c text is =
    let fills = subst (λ (fs : List ℕ). AreFills c.in_ok-crossed.crossed.price c.in_ok-crossed.crossed.volume c.args.orders.now fs) (sym c.deref.ensures.value) c.in_ok-fills.ensures.fills in
    sends_same _ text (text_is_so _ _ c.in_ok-crossed.ensures fills is) c.send_cross.ensures.moments
