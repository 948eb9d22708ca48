use Rattle.std.proofs.Common.{◌∙◌}
use Rattle.eligible_core.proofs.Table.{condition_at-answer}
use Rattle.eligible_core.proofs.condition.Condition.of.Goals as goal

pub returns : goal.returns
returns c = c.at.ensures ∙ condition_at-answer _ _ c.requires c.pick.ensures
