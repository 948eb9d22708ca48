use Rattle.std.proofs.Common.{◌≡◌, ℕ, ◌<◌, ◌≤◌, sym, subst}
use Rattle.std.specs.Prelude.{Option}
use Rattle.symbol_core.specs.declared.due.Due.{Due}
use Rattle.symbol_core.specs.Idle.{IsDue}
use Rattle.symbol_core.specs.Rests.{SymbolState}
use Rattle.symbol_core.specs.Taken.{deal_of}
use Rattle.symbol_core.proofs.Dealt.{awaited}
use Rattle.symbol_core.proofs.Unmoved.{due-later}
use Rattle.symbol_core.proofs.symbol.Symbol.awaits.Goals as goal

pub invariant_of-self-then-awaits_price : goal.invariant_of-self-then-awaits_price
invariant_of-self-then-awaits_price c =
    let k = c.self.inside.kept in
    let deals = c.self.inside.deals.deals in
    due-later k deals c.in-Some.due c.moment-t.result (c.waits_for.ensures.from c.if-waits_for.true) (subst (λ (o : Option Due). IsDue o k deals) c.in-Some.is c.self.invariant)

pub returns-then-awaits_price-clause-awaited : goal.returns-then-awaits_price-clause-awaited
returns-then-awaits_price-clause-awaited c = λ yes.
    let x = c.args.x.now in
    let market = c.args.market.now in
    let k = c.self.inside.kept in
    let deals = c.self.inside.deals.deals in
    let due = c.in-Some.due in
    let deal = c.args.deal.now in
    let of = c.awaits_price.ensures in
    let is = c.if-awaits_price.true in
    let from = subst (λ (t : ℕ). due.from ≤ t) c.moment-t.ensures (c.waits_for.ensures.from c.if-waits_for.true) in
    let until = subst (λ (t : ℕ). t < due.waits) c.moment-t.ensures (c.waits_for.ensures.until c.if-waits_for.true) in
    awaited market x k deals due deal (subst (λ (o : Option Due). IsDue o k deals) c.in-Some.is c.self.invariant) c.requires.kind from until (c.waits_for.ensures.market c.if-waits_for.true)
    (subst (λ (held : SymbolState). deal ≡ deal_of market.day held.kept.id x) (sym c.self.view_is) c.requires.own) (of.priced is) (of.listed is) (of.counts is) (of.restricts is)
