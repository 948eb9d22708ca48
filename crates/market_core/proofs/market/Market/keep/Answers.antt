use Rattle.std.proofs.Common.{◌≡◌, ℕ, true, length, Option, rules, ap, subst, sym, ◌∙◌, arith}
use Rattle.std.specs.Prelude.{IfSome}
use Rattle.wire_in.specs.Records.{is_tick}
use Rattle.market_core.specs.MarketState.{MarketState}
use Rattle.market_core.specs.Room.{HasRoomAt}
use Rattle.market_core.proofs.Appending.{own_applies, tick_applies}
use Rattle.market_core.proofs.market.Market.keep.Goals as goal

pub returns-in-Some-clause-ok : goal.returns-in-Some-clause-ok
returns-in-Some-clause-ok c = λ room.
    own_applies c.evaluate.result c.in-Some.symbol c.args.x.now c.args.self.now c.evaluate.new.self c.args.out.now.items c.evaluate.new.out.items
    (sym c.symbol.ensures ∙ c.in-Some.is) c.evaluate.ensures.ok

pub returns-in-None-clause-ok : goal.returns-in-None-clause-ok
returns-in-None-clause-ok c = λ room.
    let ticks : is_tick c.args.x.now ≡ true = search rules in
    tick_applies c.tick.result c.args.x.now c.args.self.now c.tick.new.self c.args.out.now.items c.tick.new.out.items ticks c.tick.ensures.ok

pub returns-in-Some-clause-never_refused : goal.returns-in-Some-clause-never_refused
returns-in-Some-clause-never_refused c = λ has room.
    c.evaluate.ensures.room_there (λ trade. subst (λ (named : Option ℕ). IfSome named (HasRoomAt c.args.self.now.symbols)) (sym c.symbol.ensures ∙ c.in-Some.is) (has trade)) (omega (arith, room))

pub returns-in-None-clause-never_refused : goal.returns-in-None-clause-never_refused
returns-in-None-clause-never_refused c = λ has room.
    let names = ap (λ (kept : MarketState). length kept.directory) c.self.view_is in
    c.tick.ensures.room (omega (arith, room, names, c.names-names.ensures.names, c.names-names.ensures.bound))

pub returns-in-Day-clause-never_refused : goal.returns-in-Day-clause-never_refused
returns-in-Day-clause-never_refused c = λ has room.
    let names = ap (λ (kept : MarketState). length kept.directory) c.self.view_is in
    c.start_day.ensures.room (omega (arith, room, names, c.names-names.ensures.names, c.names-names.ensures.bound))

pub returns-in-Listing-clause-never_refused : goal.returns-in-Listing-clause-never_refused
returns-in-Listing-clause-never_refused c = λ has room. c.list.ensures.room (omega (arith, room))
