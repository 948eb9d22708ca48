use Rattle.rulebook.proofs.Bases.{base_is_enough}
use Rattle.rulebook.proofs.law.a_base_is_enough.Goals as goal

pub returns : goal.returns
returns c = base_is_enough
