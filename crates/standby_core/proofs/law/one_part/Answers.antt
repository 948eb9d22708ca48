use Rattle.standby_core.proofs.Spelling.{part_is_alone}
use Rattle.standby_core.proofs.law.one_part.Goals as goal

pub returns : goal.returns
returns c = part_is_alone
