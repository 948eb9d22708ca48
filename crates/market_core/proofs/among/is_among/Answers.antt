use Rattle.std.proofs.Common.{◌∙◌}
use Rattle.market_core.proofs.Restoring.{found}
use Rattle.market_core.proofs.among.is_among.Goals as goal

pub returns : goal.returns
returns c = c.is_ok.ensures.value ∙ found c.args.ids.now c.args.id c.binary_search.result c.binary_search.ensures.position c.requires
