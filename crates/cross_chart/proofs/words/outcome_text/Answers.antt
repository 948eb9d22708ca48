use Rattle.cross_chart.specs.Words.{outcome_text}
use Rattle.cross_chart.proofs.words.outcome_text.Goals as goal

pub returns : goal.returns
unfolding outcome_text
returns c = rw (← c.left_text-left.ensures, ← c.from.ensures, ← c.in_ok-price.ensures) (c.in_ok-format.ensures).ok
