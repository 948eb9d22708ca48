use Rattle.std.proofs.Common.{◌∷◌, Some, refl, sym, ap, length, ◌∙◌}
use Rattle.std.specs.Prelude.{filter}
use Rattle.rulebook.specs.Book.{ids_below}
use Rattle.market_core.specs.Fresh.{is_marked}
use Rattle.market_core.specs.MarketState.{MarketState}
use Rattle.market_core.proofs.Restoring.{base-of-kept}
use Rattle.market_core.proofs.market.Market.base.Goals as goal

pub returns-clause-base : goal.returns-clause-base
returns-clause-base c = λ earlier begins stands count messages.
    let kept = c.args.self.now in
    let day = c.args.day.now in
    base-of-kept kept (day ∷ earlier) earlier day c.args.records c.args.messages stands refl begins count messages
    ∙ (λ i. Some (record {
      records = c.args.records;
      messages = c.args.messages;
      day = day;
      names = (ap (λ (k : MarketState). k.directory) (sym c.self.view_is) ∙ sym c.in_ok-all_names.ensures) i;
      carried = (ap (λ (k : MarketState). filter (is_marked k.symbols) (ids_below (length k.symbols))) (sym c.self.view_is) ∙ sym c.in_ok-carried.ensures) i;
    }))
