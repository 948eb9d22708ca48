use Rattle.std.proofs.Common.{refl, sym, subst}
use Rattle.symbol_core.specs.Idle.{IsAwaited}
use Rattle.symbol_core.specs.Rests.{SymbolState}
use Rattle.symbol_core.specs.Steps.{step_for}
use Rattle.symbol_core.proofs.Dealt.{awaited-here, awaited-moves, awaited-no_day, awaited-taken, due-still}
use Rattle.symbol_core.proofs.Evaluated.{step-obeyed}
use Rattle.symbol_core.proofs.symbol.Symbol.take_awaited.Goals as goal

pub take_deal-requires-clause-moves : goal.take_deal-requires-clause-moves
take_deal-requires-clause-moves c =
    awaited-moves c.args.market.now c.args.x.now c.self.inside.kept c.args.deal.now
    (subst (λ (held : SymbolState). IsAwaited held.kept c.args.market.now c.args.x.now c.args.deal.now) (sym c.self.view_is) c.requires.awaited)

pub take_deal-requires-clause-due : goal.take_deal-requires-clause-due
take_deal-requires-clause-due c =
    let w = subst (λ (held : SymbolState). IsAwaited held.kept c.args.market.now c.args.x.now c.args.deal.now) (sym c.self.view_is) c.requires.awaited in
    due-still c.self.inside.due c.self.inside.kept c.self.inside.deals.deals c.self.invariant w.inside

pub returns-clause-ok : goal.returns-clause-ok
returns-clause-ok c =
    let x = c.args.x.now in
    let market = c.args.market.now in
    let held = c.args.self.now in
    let deal = c.args.deal.now in
    let k = c.self.inside.kept in
    step-obeyed market x held k c.self.inside.deals.deals c.reserve_deal.new.deals.deals c.self.inside.deals.spare
    (record { kept = c.take_deal.new.k; deals = c.take_deal.new.deals.deals; spare = c.take_deal.new.deals.spare }) c.args.out.now c.args.out.now c.take_deal.new.out (step_for market x)
    c.self.view_is refl c.reserve_deal.ensures.deals refl (awaited-no_day held.kept market x deal c.requires.awaited) (awaited-here held.kept market x deal c.requires.awaited)
    (c.take_deal.ensures.steps k
    (awaited-taken market x k deal (subst (λ (held : SymbolState). IsAwaited held.kept market x deal) (sym c.self.view_is) c.requires.awaited)))
