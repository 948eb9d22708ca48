use Rattle.std.proofs.Common.{List, ap, rules, ◌∙◌}
use Rattle.std.specs.Prelude.{option_map, slice_get}
use Rattle.window_core.specs.declared.window.Deal.{Deal}
use Rattle.window_core.proofs.Order.{oldest_is}
use Rattle.window_core.proofs.window.Window.oldest.Goals as goal

pub returns-clause-value : goal.returns-clause-value
returns-clause-value c = search rules

pub returns-clause-answer : goal.returns-clause-answer
returns-clause-answer c = λ calls stands.
    returns-clause-value c ∙ ap (λ (deals : List Deal). option_map (λ d. d.moment) (slice_get deals 0)) stands.deals ∙ oldest_is calls stands.timely
