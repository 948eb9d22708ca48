use Rattle.std.proofs.Common.{option_map, ap, subst, sym, ◌∙◌}
use Rattle.market_core.specs.MarketState.{MarketState}
use Rattle.market_core.specs.Room.{HasRoomAt}
use Rattle.market_core.proofs.Appending.{one_evaluated}
use Rattle.market_core.proofs.Room.{by_kind}
use Rattle.market_core.proofs.market.Market.evaluate.Goals as goal

pub returns-clause-ok : goal.returns-clause-ok
returns-clause-ok c =
    one_evaluated c.evaluate.result c.args.id c.args.x.now c.args.self.now c.self.inside.lead.directory c.self.inside.lead.today c.self.inside.section.symbols c.evaluate.new.self.symbols c.in-Some.market.now
    c.reserve.new.self.items c.args.out.now.items c.evaluate.new.out.items
    c.self.view_is (sym c.view_there.ensures ∙ ap (option_map (λ view. view.now)) c.in-Some.is) c.reserve.ensures.items c.evaluate.ensures.ok

pub returns-clause-room_there : goal.returns-clause-room_there
returns-clause-room_there c = λ has room.
    by_kind c.args.x.now c.evaluate.ensures.succeeds
    (λ trade. c.evaluate.ensures.room_there (subst (λ (kept : MarketState). HasRoomAt kept.symbols c.args.id) (sym c.self.view_is) (has trade)))
