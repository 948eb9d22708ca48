use Rattle.std.proofs.Common.{◌≡◌, ◌*◌, ◌≤◌, sum_by, take}
use Rattle.cross_core.specs.declared.order.Order.{Order}
use Rattle.cross_core.specs.Steps.{all_bought}
use Rattle.cross_core.specs.Sums.{market_sold}
use Rattle.cross_core.proofs.steps.opening.Given as goal

abbrev pub invariant-loop-order : goal.invariant-loop-order
invariant-loop-order l = record {
  buy : l.buy ≡ sum_by all_bought (take l.order-index l.orders);
  sell : l.sell ≡ sum_by market_sold (take l.order-index l.orders);
  low : l.buy ≤ 4294967295 * l.order-index;
  few : l.sell ≤ 4294967295 * l.order-index;
  most : sum_by (λ (o : Order). o.size) (take l.order-index l.orders) ≤ 4294967295 * l.order-index;
}
