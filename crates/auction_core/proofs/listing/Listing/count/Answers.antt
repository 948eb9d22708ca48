use Rattle.std.proofs.Common.{ap}
use Rattle.std.specs.Prelude.{is_some}
use Rattle.auction_core.proofs.Listed.{count_none}
use Rattle.auction_core.proofs.listing.Listing.count.Goals as goal

pub returns-in-None-clause-value : goal.returns-in-None-clause-value
returns-in-None-clause-value c lines holds = count_none holds (ap is_some c.in-None.is)
