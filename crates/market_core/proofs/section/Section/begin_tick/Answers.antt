use Rattle.std.proofs.Common.{arith}
use Rattle.market_core.proofs.section.Section.begin_tick.Goals as goal

pub invariant_of-self : goal.invariant_of-self
invariant_of-self c = (omega (arith, c.renew.ensures.len, c.self.invariant.0), c.renew.ensures.idles c.self.inside.symbols.items (omega (arith, c.len.ensures)) c.self.invariant.1)
