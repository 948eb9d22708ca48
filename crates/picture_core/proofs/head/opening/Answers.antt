use Rattle.picture_core.specs.Heads.{opening}
use Rattle.picture_core.proofs.head.opening.Goals as goal

pub returns : goal.returns
unfolding opening
returns c = (c.in_ok-format.ensures).ok
