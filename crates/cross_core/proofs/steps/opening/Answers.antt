use Rattle.std.proofs.Common.{◌+◌, Bool, ap, arith, rules}
use Rattle.std.specs.Prelude.{if◌then◌else◌}
use Rattle.cross_core.specs.declared.order.Order.{Order}
use Rattle.cross_core.specs.Steps.{all_bought}
use Rattle.cross_core.specs.Sums.{market_sold}
use Rattle.cross_core.proofs.Walking.{most_more, sum_more}
use Rattle.cross_core.proofs.steps.opening.Goals as goal
use Rattle.cross_core.proofs.steps.opening.Goals.{else-order, then-order}

pub loop-order-preserved : goal.loop-order-preserved
loop-order-preserved c =
    elim c.if-order.branch [
      | then-order w ↦ record {
        buy = sum_more all_bought c.args.orders.now c.loop-order.order-index c.order-item.result c.loop-order.buy c.if-order.buy c.loop-order-test.true
            c.order-item.is c.loop-order.invariant.buy (omega (arith, w.buy-is, c.from-size.ensures, ap (λ (t : Bool). if t then c.order-item.result.size else 0) w.if-order.true));
        sell = sum_more market_sold c.args.orders.now c.loop-order.order-index c.order-item.result c.loop-order.sell (c.loop-order.sell + c.from-sell.result)
            c.loop-order-test.true c.order-item.is c.loop-order.invariant.sell (omega (arith, c.from-sell.ensures, c.market_sold.ensures));
        low = search rules;
        few = search rules;
        most = most_more (λ (o : Order). o.size) c.args.orders.now c.loop-order.order-index 4294967295 c.order-item.result c.loop-order-test.true
            c.order-item.is (search rules) c.loop-order.invariant.most;
      }
      | else-order w ↦ record {
        buy = sum_more all_bought c.args.orders.now c.loop-order.order-index c.order-item.result c.loop-order.buy c.if-order.buy c.loop-order-test.true
            c.order-item.is c.loop-order.invariant.buy (omega (arith, w.buy-is, ap (λ (t : Bool). if t then c.order-item.result.size else 0) w.if-order.false));
        sell = sum_more market_sold c.args.orders.now c.loop-order.order-index c.order-item.result c.loop-order.sell (c.loop-order.sell + c.from-sell.result)
            c.loop-order-test.true c.order-item.is c.loop-order.invariant.sell (omega (arith, c.from-sell.ensures, c.market_sold.ensures));
        low = search rules;
        few = search rules;
        most = most_more (λ (o : Order). o.size) c.args.orders.now c.loop-order.order-index 4294967295 c.order-item.result c.loop-order-test.true
            c.order-item.is (search rules) c.loop-order.invariant.most;
      }
    ]
