use Rattle.std.proofs.Common.{Option, subst}
use Rattle.market_core.specs.declared.since.Since.{Since}
use Rattle.market_core.specs.Sections.{IdlesUntil}
use Rattle.market_core.proofs.since.still_holds.Goals as goal

pub returns-in-Some : goal.returns-in-Some
returns-in-Some c = λ yes alarm held idles. c.includes.ensures yes alarm held (subst (λ (o : Option Since). IdlesUntil o alarm held) c.in-Some.is idles)
