use Rattle.std.proofs.Common.{ap, arith}
use Rattle.market_core.specs.Sections.{SectionState}
use Rattle.market_core.proofs.section.Section.append.Goals as goal

pub invariant_of-self-2 : goal.invariant_of-self-2
invariant_of-self-2 c = (
  omega (arith, (c.in_ok-reserve.ensures).ok, ap (λ (section : SectionState). section.spare) c.self.view_is, c.append_symbols.ensures.count, c.len.ensures, c.self.invariant.0, c.later.inside.symbols.ok.0),
  λ place held e. tt,
)
