use Rattle.shard_core.proofs.Taking.{one_takes}
use Rattle.shard_core.proofs.part.take_several.Goals as goal

pub returns-in-One-clause-takes : goal.returns-in-One-clause-takes
returns-in-One-clause-takes c =
    one_takes c.take_one.result c.in-One.id c.args.ids.start c.args.ids.is_last c.args.turn.now.target c.args.turn.now.view c.args.x.now c.args.section.now.symbols c.take_one.new.section.symbols
    c.take_one.new.said.items c.in-One.is c.take_one.ensures.takes
