use Rattle.std.proofs.Common.{ℕ, Option, subst}
use Rattle.std.specs.Prelude.{IsSomeAnd}
use Rattle.market_core.specs.Applied.{Finds}
use Rattle.market_core.proofs.Appending.{lists}
use Rattle.market_core.proofs.market.Market.list.Goals as goal

pub returns-clause-ok : goal.returns-clause-ok
returns-clause-ok c = λ room.
    lists c.evaluate.result c.unwrap.result c.args.name c.in-Some.id c.args.x.now c.args.self.now c.find.new.self c.evaluate.new.self
    c.reserve.new.self.items c.args.out.now.items c.evaluate.new.out.items c.reserve.ensures.items c.unwrap.ensures
    (subst (λ (found : Option ℕ). IsSomeAnd found (λ id. Finds c.args.name id c.args.self.now c.find.new.self)) c.in-Some.is
    (c.find.ensures.finds room)) c.evaluate.ensures.ok
