use Rattle.std.proofs.Common.{◌≡◌, ◌*◌, ◌≤◌, sum_by, take}
use Rattle.cross_core.specs.Sums.{market_bought, market_sold}
use Rattle.cross_core.proofs.order.market_orders.Given as goal

abbrev pub invariant-loop-order : goal.invariant-loop-order
invariant-loop-order l = record {
  buys : l.buys ≡ sum_by market_bought (take l.order-index l.orders);
  sells : l.sells ≡ sum_by market_sold (take l.order-index l.orders);
  low : l.buys ≤ 4294967295 * l.order-index;
  few : l.sells ≤ 4294967295 * l.order-index;
}
