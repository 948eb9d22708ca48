use Rattle.std.proofs.Common.{rules}
use Rattle.std.proofs.lemmas.Fn.{filter_same}
use Rattle.window_core.specs.Deals.{is_live}
use Rattle.window_core.proofs.queue.keep_live.Goals as goal

pub returns-clause-items : goal.returns-clause-items
returns-clause-items c = filter_same _ (is_live c.args.t) _ (λ d b f k. search rules) _ _ c.retain.ensures.filtered
