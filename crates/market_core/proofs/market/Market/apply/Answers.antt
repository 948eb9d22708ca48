use Rattle.market_core.proofs.Isolation.{call_is_isolated}
use Rattle.market_core.proofs.Applying.{has_room, call_gives, call_stands}
use Rattle.market_core.proofs.market.Market.apply.Goals as goal

pub returns-clause-given : goal.returns-clause-given
returns-clause-given c = λ capacity applied s passed.
    call_gives c.keep.result capacity c.args.x.now applied c.args.self.now c.keep.new.self _ _ s passed (c.keep.ensures.ok (has_room capacity applied c.args.self.now c.args.x.now s passed))

pub returns-clause-stands : goal.returns-clause-stands
returns-clause-stands c = λ capacity applied s passed.
    call_stands c.keep.result capacity c.args.x.now applied c.args.self.now c.keep.new.self _ _ s passed (c.keep.ensures.ok (has_room capacity applied c.args.self.now c.args.x.now s passed))

pub returns-clause-isolated : goal.returns-clause-isolated
returns-clause-isolated c = λ capacity applied s stands lawful.
    call_is_isolated c.keep.result capacity c.args.x.now applied s c.args.self.now c.keep.new.self _ _ stands lawful (c.keep.ensures.ok (has_room capacity applied c.args.self.now c.args.x.now stands lawful.0))
