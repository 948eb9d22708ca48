use Rattle.wire_in.proofs.OneBase.{base_is_alone}
use Rattle.wire_in.proofs.law.a_base_is_alone.Goals as goal

pub returns : goal.returns
returns c = base_is_alone
