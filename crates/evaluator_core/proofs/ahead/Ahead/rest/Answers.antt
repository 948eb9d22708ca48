use Rattle.std.proofs.Common.{Option, sym, subst, IfSome}
use Rattle.market_core.specs.MarketState as markets
use Rattle.market_core.specs.MarketState.{MarketState}
use Rattle.evaluator_core.proofs.ahead.Ahead.rest.Goals as goal

pub returns-clause-represents : goal.returns-clause-represents
returns-clause-represents c = λ evaluated stands idle.
    subst (λ (o : Option MarketState). IfSome o (λ market. markets.Represents market evaluated)) (sym c.of.ensures.market) (c.in_ok-market.ensures.represents evaluated stands idle)
