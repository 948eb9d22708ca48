use Rattle.standby_core.proofs.Counting.{takes_over}
use Rattle.standby_core.proofs.law.a_standby_takes_over.Goals as goal

pub returns : goal.returns
returns c = takes_over
