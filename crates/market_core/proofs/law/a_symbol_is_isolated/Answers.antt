use Rattle.market_core.proofs.Isolation.{each_step_is_isolated, depends_on_its_view, is_isolated}
use Rattle.market_core.proofs.law.a_symbol_is_isolated.Goals as goal

pub returns-clause-steps : goal.returns-clause-steps
returns-clause-steps c = each_step_is_isolated

pub returns-clause-whole : goal.returns-clause-whole
returns-clause-whole c = is_isolated

pub returns-clause-view : goal.returns-clause-view
returns-clause-view c = depends_on_its_view
