use Rattle.std.proofs.Common.{◌≡◌, Option, IfSome, subst, sym, arith}
use Rattle.market_core.specs.MarketState as markets
use Rattle.market_core.specs.MarketState.{MarketState}
use Rattle.evaluator_core.specs.declared.evaluator.Evaluator.{Evaluator}
use Rattle.evaluator_core.specs.Evaluating.{IsIdle, Represents, workers_of}
use Rattle.evaluator_core.proofs.evaluator.Evaluator.unite.Goals as goal

pub returns-in_err-market-in-Many-clause-unchanged : goal.returns-in_err-market-in-Many-clause-unchanged
returns-in_err-market-in-Many-clause-unchanged c = λ one. absurd (omega (arith, subst (λ (e : Evaluator). workers_of e ≡ 1) c.in-Many.is one, c.unite.ensures.several))

pub returns-in_ok-market-in-Many-clause-unchanged : goal.returns-in_ok-market-in-Many-clause-unchanged
returns-in_ok-market-in-Many-clause-unchanged c = λ one. absurd (omega (arith, subst (λ (e : Evaluator). workers_of e ≡ 1) c.in-Many.is one, c.unite.ensures.several))

pub returns-in_ok-market-in-Many-clause-represents : goal.returns-in_ok-market-in-Many-clause-represents
returns-in_ok-market-in-Many-clause-represents c = λ evaluated stands idle.
    subst (λ (e : Evaluator). Represents e evaluated) (sym c.replace-in-Many.ensures.after)
    (c.in_ok-market-in-Many.ensures.represents evaluated (subst (λ (e : Evaluator). Represents e evaluated) c.in-Many.is stands) (subst IsIdle c.in-Many.is idle))

pub returns-in_ok-market-in-Resting-clause-represents : goal.returns-in_ok-market-in-Resting-clause-represents
returns-in_ok-market-in-Resting-clause-represents c = λ evaluated stands idle.
    subst (λ (e : Evaluator). Represents e evaluated) (sym c.replace.ensures.after)
    (subst (λ (o : Option MarketState). IfSome o (λ market. markets.Represents market evaluated)) c.in_ok-market-in-Resting.ensures.market (subst (λ (e : Evaluator). Represents e evaluated) c.in-Resting.is stands))
