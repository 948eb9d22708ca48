use Rattle.picture_core.specs.Market.{market_head}
use Rattle.picture_core.proofs.market.market_head.Goals as goal

pub returns : goal.returns
unfolding market_head
returns c =
    rw (← c.bottom_of-bottom.ensures.exact, ← c.in_ok-description.ensures, ← c.as_str.ensures.value, ← c.in_ok-opening.ensures, ← c.in_ok-page.ensures, ← c.in_ok-frame.ensures)
    (c.in_ok-format.ensures).ok
