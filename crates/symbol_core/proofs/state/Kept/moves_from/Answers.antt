use Rattle.std.proofs.Common.{ap, ◌∙◌, arith}
use Rattle.refprice_core.specs.Prices.{awaits_from}
use Rattle.refprice_core.specs.ReferenceState.{ReferenceState}
use Rattle.symbol_core.proofs.Waiting.{prices-left}
use Rattle.symbol_core.proofs.state.Kept.moves_from.Goals as goal

pub returns : goal.returns
returns c = λ is.
    prices-left c.args.self.now c.args.last.now c.args.deals.now.deals c.args.t c.awaits_from-awaits.result c.moves_from.result is
    (c.awaits_from-awaits.ensures.value ∙ ap (λ (r : ReferenceState). awaits_from r.begun r.last) c.last_reference.ensures)
    (λ u le before. c.moves_from.ensures.near u (omega (arith, le, c.max.ensures)) before)
