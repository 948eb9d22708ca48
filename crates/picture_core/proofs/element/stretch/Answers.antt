use Rattle.picture_core.specs.Elements.{stretch}
use Rattle.picture_core.proofs.element.stretch.Goals as goal

pub returns : goal.returns
unfolding stretch
returns c = rw (← c.saturating_sub-width.ensures) (c.in_ok-format.ensures).ok
