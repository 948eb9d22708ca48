use Rattle.std.proofs.Common.{◌∙◌, List, length, sym, ap, subst, arith}
use Rattle.std.specs.Prelude.{is_some}
use Rattle.cross_core.specs.declared.order.Order.{Order}
use Rattle.auction_core.specs.Texts.{IsTextFor}
use Rattle.auction_core.proofs.Ending.{end_bad, ends_bad, ends_good, ends_none, no_text}
use Rattle.auction_core.proofs.Listed.{held}
use Rattle.auction_core.proofs.Streaming.{answers, in_some, no_bytes, nothing_sent}
use Rattle.auction_core.proofs.stream.finish.Goals as goal

pub returns-in_default-clause-status : goal.returns-in_default-clause-status
returns-in_default-clause-status g c lines holds = sym (ends_none lines (sym holds.auction ∙ c.in_default.is))

pub returns-in_default-clause-sent : goal.returns-in_default-clause-sent
returns-in_default-clause-sent g c lines text holds is =
    no_bytes (g.H.Host.outside c.args.host.now).sent text (no_text 1 is (ends_none lines (sym holds.auction ∙ c.in_default.is)))

pub returns-in_default-clause-moments : goal.returns-in_default-clause-moments
returns-in_default-clause-moments g c lines text holds is = nothing_sent (g.H.Host.outside c.args.host.now) (g.met.H.Host.sent_now c.args.host.now) text

pub returns-then-listing-clause-status : goal.returns-then-listing-clause-status
returns-then-listing-clause-status g c lines holds = c.status.ensures.end lines holds ∙ ends_bad holds c.if-listing.true

pub returns-then-listing-clause-sent : goal.returns-then-listing-clause-sent
returns-then-listing-clause-sent g c lines text holds is =
    no_bytes (g.H.Host.outside c.args.host.now).sent text (no_text _ is (end_bad lines (sym holds.bad ∙ c.if-listing.true)))

pub returns-then-listing-clause-moments : goal.returns-then-listing-clause-moments
returns-then-listing-clause-moments g c lines text holds is = nothing_sent (g.H.Host.outside c.args.host.now) (g.met.H.Host.sent_now c.args.host.now) text

pub returns-then-listing-clause-end : goal.returns-then-listing-clause-end
returns-then-listing-clause-end g c = (c.status.ensures.kind, answers _ c.status.ensures.kind)

pub cross_orders-requires : goal.cross_orders-requires
cross_orders-requires g c = record {
  few = omega (arith, ap length c.deref.ensures.value, c.args.listing.now.few, c.args.listing.now.orders.ok.0);
  order = in_some _ _ _ c.in-Some.is c.args.listing.now.order;
}

pub returns-clause-status : goal.returns-clause-status
returns-clause-status g c lines holds =
    sym (ends_good lines (ap is_some (sym holds.auction ∙ c.in-Some.is)) (sym holds.bad ∙ c.if-listing.false))

pub returns-clause-sent : goal.returns-clause-sent
returns-clause-sent g c lines text holds is =
    let there = sym holds.auction ∙ c.in-Some.is in
    let done = ends_good lines (ap is_some there) (sym holds.bad ∙ c.if-listing.false) in
    let orders = c.deref.ensures.value ∙ held holds (ap is_some c.in-Some.is) in
    c.in_ok-cross_orders.ensures.sent text (subst (λ (os : List Order). IsTextFor c.in-Some.auction os text) (sym orders) (is.done done c.in-Some.auction there))

pub returns-clause-moments : goal.returns-clause-moments
returns-clause-moments g c lines text holds is =
    let there = sym holds.auction ∙ c.in-Some.is in
    let done = ends_good lines (ap is_some there) (sym holds.bad ∙ c.if-listing.false) in
    let orders = c.deref.ensures.value ∙ held holds (ap is_some c.in-Some.is) in
    c.cross_orders.ensures.moments text (subst (λ (os : List Order). IsTextFor c.in-Some.auction os text) (sym orders) (is.done done c.in-Some.auction there))

pub returns-in_err-cross_orders-clause-moments : goal.returns-in_err-cross_orders-clause-moments
returns-in_err-cross_orders-clause-moments g c lines text holds is =
    let there = sym holds.auction ∙ c.in-Some.is in
    let done = ends_good lines (ap is_some there) (sym holds.bad ∙ c.if-listing.false) in
    let orders = c.deref.ensures.value ∙ held holds (ap is_some c.in-Some.is) in
    c.cross_orders.ensures.moments text (subst (λ (os : List Order). IsTextFor c.in-Some.auction os text) (sym orders) (is.done done c.in-Some.auction there))
