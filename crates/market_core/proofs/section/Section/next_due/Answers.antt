use Rattle.std.proofs.Common.{arith}
use Rattle.market_core.proofs.Sections.{none-moves}
use Rattle.market_core.proofs.section.Section.next_due.Goals as goal

pub returns-clause-none : goal.returns-clause-none
returns-clause-none c =
    none-moves c.args.self.now c.self.inside.symbols.items _ c.self.inside.since c.self.inside.alarms c.args.market.now c.args.x.now c.moment.result c.args.from c.first_due.result
    c.self.view_is (omega (arith, c.self.inside.symbols.ok.0)) c.self.invariant.1 c.requires.tick c.requires.since c.moment.ensures c.first_due.ensures.none
