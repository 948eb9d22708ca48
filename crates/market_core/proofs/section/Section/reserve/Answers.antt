use Rattle.std.proofs.Common.{ap, arith}
use Rattle.std.proofs.lemmas.Result.{on_ok_weaker}
use Rattle.market_core.specs.Sections.{SectionState}
use Rattle.market_core.proofs.section.Section.reserve.Goals as goal

pub returns-clause-ok : goal.returns-clause-ok
returns-clause-ok c =
    on_ok_weaker c.make_places.result
    (λ made. omega (arith, made, (c.in_ok-reserve.ensures).ok, c.saturating_sub.ensures, c.len.ensures, c.len-2.ensures, c.reserve.ensures.len, c.self.invariant.0))
    c.make_places.ensures.more

pub returns-clause-succeeds : goal.returns-clause-succeeds
returns-clause-succeeds c = λ room.
    let spare = ap (λ (section : SectionState). section.spare) c.self.view_is in
    c.make_places.ensures.none (omega (arith, room, spare, c.saturating_sub.ensures, c.len.ensures, c.len-2.ensures, c.reserve.ensures.len))
