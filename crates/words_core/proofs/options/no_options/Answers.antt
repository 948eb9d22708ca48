use Rattle.words_core.proofs.Ranges.{none_within}
use Rattle.words_core.proofs.options.no_options.Goals as goal

pub returns-clause-range : goal.returns-clause-range
returns-clause-range c = none_within
