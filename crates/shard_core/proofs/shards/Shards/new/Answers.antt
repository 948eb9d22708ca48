use Rattle.shard_core.proofs.Opening.{none_stand, stocks_empty}
use Rattle.shard_core.proofs.shards.Shards.new.Goals as goal

pub returns-clause-stands : goal.returns-clause-stands
returns-clause-stands c =
    none_stand c.in_ok-lead.lead _ c.in_ok-lead.ensures (stocks_empty c.args.workers c.in_ok-parts.parts.items (c.in_ok-parts.ensures).none)
