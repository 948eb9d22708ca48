use Rattle.picture_core.specs.Frames.{price_tick}
use Rattle.picture_core.proofs.frame.price_tick.Goals as goal

pub returns : goal.returns
unfolding price_tick
returns c = rw (← c.y_of-y.ensures.exact, ← c.in_ok-dollars.ensures) (c.in_ok-format.ensures).ok
