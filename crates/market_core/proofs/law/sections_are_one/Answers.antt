use Rattle.market_core.proofs.Ranges.{one_of_all, ranges_in_turn}
use Rattle.market_core.proofs.law.sections_are_one.Goals as goal

pub returns-clause-all : goal.returns-clause-all
returns-clause-all c = ranges_in_turn

pub returns-clause-one : goal.returns-clause-one
returns-clause-one c = one_of_all
