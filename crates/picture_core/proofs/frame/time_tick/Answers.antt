use Rattle.picture_core.specs.Frames.{time_tick}
use Rattle.picture_core.proofs.frame.time_tick.Goals as goal

pub returns : goal.returns
unfolding time_tick
returns c = rw (← c.x_of_half_hour-x.ensures, ← c.in_ok-words.ensures) (c.in_ok-format.ensures).ok
