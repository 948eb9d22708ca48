use Rattle.std.proofs.Common.{arith}
use Rattle.gateway.proofs.Listings.{listed_end, listed_step}
use Rattle.gateway.proofs.reading.stocks_of.Goals as goal

pub loop-message-preserved : goal.loop-message-preserved
loop-message-preserved c =
    listed_step c.args.messages.now c.loop-message.message-index c.message-item.result c.loop-message.stocks c.with_listed-stocks.result c.loop-message-test.true c.message-item.is
    c.with_listed-stocks.ensures
    c.loop-message.invariant

pub returns : goal.returns
returns c = listed_end c.args.messages.now c.loop-message.message-index c.loop-message.stocks (omega (arith, c.loop-message-test.false)) c.loop-message.invariant
