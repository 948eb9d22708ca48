use Rattle.std.proofs.Common.{rules, append_assoc}
use Rattle.picture_core.specs.Elements.{band_labels}
use Rattle.picture_core.specs.Labels.{dollars_text}
use Rattle.picture_core.proofs.element.band_labels.Goals as goal

pub returns-clause-text : goal.returns-clause-text
unfolding band_labels dollars_text
returns-clause-text c = search (rules, append_assoc)
