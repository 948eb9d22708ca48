use Rattle.standby_core.proofs.Spelling.{have_is_alone}
use Rattle.standby_core.proofs.law.one_have.Goals as goal

pub returns : goal.returns
returns c = have_is_alone
