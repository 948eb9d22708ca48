use Rattle.picture_core.specs.Market.{level_stretch}
use Rattle.picture_core.proofs.market.level_stretch.Goals as goal

pub returns : goal.returns
unfolding level_stretch
returns c = rw (← c.saturating_sub-width.ensures, ← c.saturating_sub-height.ensures) (c.in_ok-format.ensures).ok
