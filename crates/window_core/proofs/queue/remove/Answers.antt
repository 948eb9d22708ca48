use Rattle.std.proofs.Common.{rules}
use Rattle.std.proofs.lemmas.Fn.{filter_same}
use Rattle.window_core.specs.Deals.{stays}
use Rattle.window_core.proofs.queue.remove.Goals as goal

pub returns-clause-items : goal.returns-clause-items
returns-clause-items c = filter_same _ (stays c.args.number) _ (λ d b f k. search rules) _ _ c.retain.ensures.filtered
