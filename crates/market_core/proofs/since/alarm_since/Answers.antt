use Rattle.market_core.proofs.since.alarm_since.Goals as goal

pub returns-then-includes : goal.returns-then-includes
returns-then-includes c = c.includes.ensures c.if-includes.true c.in-Some.due.until c.args.symbol.now c.in-Some.ensures.idles
