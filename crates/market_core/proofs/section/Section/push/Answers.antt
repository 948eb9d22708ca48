use Rattle.std.proofs.Common.{length, arith, ap, subst, sym}
use Rattle.std.proofs.lemmas.List.{length-set}
use Rattle.market_core.specs.Sections.{EachIdles, SectionState}
use Rattle.market_core.proofs.Sections.{each-push}
use Rattle.market_core.proofs.section.Section.push.Goals as goal

pub invariant_of-self : goal.invariant_of-self
invariant_of-self c =
    let stocks = c.self.inside.symbols in
    let spare = ap (λ (s : SectionState). s.spare) c.self.view_is in (
      omega (arith, spare, c.requires, c.push_symbol.ensures.len, ap length c.set.ensures, length-set c.self.inside.alarms c.len.result 0),
      subst (EachIdles c.self.inside.since c.set.new.self) (sym c.push_symbol.ensures.items)
          (each-push c.self.inside.since c.self.inside.alarms c.set.new.self stocks.items c.args.symbol c.len.result (omega (arith, stocks.ok.0, c.len.ensures)) (omega (arith, spare, c.requires, c.len.ensures)) c.set.ensures c.self.invariant.1),
    )
