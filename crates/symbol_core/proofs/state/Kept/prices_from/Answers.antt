use Rattle.std.proofs.Common.{sym, ap, ◌∙◌}
use Rattle.std.specs.Prelude.{not}
use Rattle.refprice_core.specs.ReferenceState.{ReferenceState}
use Rattle.symbol_core.proofs.Waiting.{none_of, prices-empty, prices-never}
use Rattle.symbol_core.proofs.state.Kept.prices_from.Goals as goal

pub returns-then-not-is_trading : goal.returns-then-not-is_trading
returns-then-not-is_trading c = prices-never c.args.self.now c.args.deals.now.deals c.args.t 18446744073709551615 (sym c.is_trading.ensures ∙ c.if-not-is_trading.true)

pub returns-in-Some : goal.returns-in-Some
returns-in-Some c =
    c.moves_from.ensures (ap (λ (r : ReferenceState). r.last) (sym c.last_reference-reference.ensures) ∙ sym c.last.ensures.value ∙ c.in-Some.is)

pub returns-in-None : goal.returns-in-None
returns-in-None c =
    prices-empty c.args.self.now c.args.deals.now.deals c.args.t 18446744073709551615
    (sym c.oldest.ensures.value ∙ none_of c.oldest.result (c.is_none.ensures ∙ ap not c.if-is_none.true))
