use Rattle.rulebook.proofs.Origins.{base_is_read}
use Rattle.rulebook.proofs.law.a_base_is_read.Goals as goal

pub returns : goal.returns
returns c = base_is_read
