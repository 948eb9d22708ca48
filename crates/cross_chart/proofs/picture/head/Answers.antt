use Rattle.cross_chart.specs.Pictures.{head}
use Rattle.cross_chart.proofs.picture.head.Goals as goal

pub returns : goal.returns
unfolding head
returns c = rw (← c.style-style.ensures, ← c.legend-legend.ensures) (c.in_ok-format.ensures).ok
