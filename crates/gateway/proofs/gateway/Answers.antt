use Rattle.std.proofs.Common.{ap, arith}
use Rattle.gateway.specs.Listed.{stocks_listed}
use Rattle.gateway.proofs.Listings.{listed_few}
use Rattle.gateway.proofs.gateway.Goals as goal

pub run_day-requires-clause-stocks : goal.run_day-requires-clause-stocks
run_day-requires-clause-stocks g c κs within =
    let all = listed_few c.in_ok-messages.messages.items c.in_ok-messages.ensures.all in
    omega (arith, c.stocks_of-stocks.ensures, ap stocks_listed c.deref-2.ensures.value, all)
