use Rattle.picture_core.specs.DataEnd.{end_line}
use Rattle.picture_core.proofs.data_end.end_line.Goals as goal

pub returns : goal.returns
unfolding end_line
returns c = rw (← c.saturating_sub-width.ensures, ← c.saturating_sub-height.ensures) (c.in_ok-format.ensures).ok
