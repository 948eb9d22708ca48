use Rattle.std.proofs.Common.{arith}
use Rattle.alarms.proofs.Bounded.{exact, raised}
use Rattle.alarms.proofs.alarms.make_exact.Goals as goal

pub returns-clause-bounds : goal.returns-clause-bounds
returns-clause-bounds c = exact c.args.block c.least_from.result c.args.bounds.now c.args.moments.now c.requires.bounds c.requires.block c.least_from.ensures

pub returns-clause-groups : goal.returns-clause-groups
returns-clause-groups c = λ groups above.
    raised c.args.block c.least_from.result groups c.args.bounds.now c.args.moments.now c.requires.bounds above c.requires.block (omega arith) c.least_from.ensures
