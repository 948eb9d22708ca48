use Rattle.picture_core.specs.Pictures.{head}
use Rattle.picture_core.proofs.picture.head.Goals as goal

pub returns : goal.returns
unfolding head
returns c =
    rw (← c.names-names.ensures, ← c.in_ok-description.ensures, ← c.as_str.ensures.value, ← c.in_ok-opening.ensures, ← c.in_ok-page.ensures)
    (c.in_ok-format.ensures).ok
