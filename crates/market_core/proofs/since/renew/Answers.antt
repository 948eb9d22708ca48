use Rattle.std.proofs.Common.{Some}
use Rattle.market_core.proofs.Sections.{each-always, each-pass}
use Rattle.market_core.proofs.since.renew.Goals as goal

pub returns-then-still_holds-clause-idles : goal.returns-then-still_holds-clause-idles
returns-then-still_holds-clause-idles c = λ stocks few each. each-pass c.args.since.now (Some c.args.now.now) c.args.alarms.now stocks (c.still_holds.ensures c.if-still_holds.true) each

pub returns-clause-idles : goal.returns-clause-idles
returns-clause-idles c = λ stocks few each. each-always (Some c.args.now.now) c.args.alarms.now _ stocks c.args.count c.make_due.ensures few
