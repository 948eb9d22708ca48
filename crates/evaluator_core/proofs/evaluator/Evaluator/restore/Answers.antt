use Rattle.std.proofs.Common.{[], Option, subst, IfSome}
use Rattle.market_core.specs.MarketState as markets
use Rattle.market_core.specs.MarketState.{MarketState}
use Rattle.evaluator_core.specs.declared.evaluator.Evaluator.{Evaluator}
use Rattle.evaluator_core.specs.Evaluating.{Represents}
use Rattle.evaluator_core.proofs.evaluator.Evaluator.restore.Goals as goal

pub restore-market-requires-clause-none : goal.restore-market-requires-clause-none
restore-market-requires-clause-none c =
    subst (λ (o : Option MarketState). IfSome o (λ market. markets.Represents market [])) c.in_ok-end-in-Resting.ensures.market (subst (λ (e : Evaluator). Represents e []) c.in-Resting.is c.requires.none)
