use Rattle.std.proofs.Common.{Option, subst, IfSome}
use Rattle.market_core.specs.MarketState as markets
use Rattle.market_core.specs.MarketState.{MarketState}
use Rattle.evaluator_core.proofs.resting.Resting.share_out.Goals as goal

pub returns-clause-represents : goal.returns-clause-represents
returns-clause-represents c = λ evaluated stands.
    c.of.ensures.represents evaluated (subst (λ (o : Option MarketState). IfSome o (λ market. markets.Represents market evaluated)) c.in_ok-market.ensures.market stands)
