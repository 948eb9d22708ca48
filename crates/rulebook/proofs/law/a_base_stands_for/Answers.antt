use Rattle.rulebook.proofs.StandIn.{base_stands_for}
use Rattle.rulebook.proofs.law.a_base_stands_for.Goals as goal

pub returns : goal.returns
returns c = base_stands_for
