use Rattle.rulebook.proofs.Short.{step_is_short, step_after_is_short, base_has_ranges}
use Rattle.rulebook.proofs.law.a_base_has_ranges.Goals as goal

pub returns-clause-step : goal.returns-clause-step
returns-clause-step c = step_is_short

pub returns-clause-step_after : goal.returns-clause-step_after
returns-clause-step_after c = step_after_is_short

pub returns-clause-ranges : goal.returns-clause-ranges
returns-clause-ranges c = base_has_ranges
