use Rattle.std.proofs.Common.{◌∙◌, ◌++◌, ◌∷◌, [], List, ap, arith, drop, map, subst, sym, take}
use Rattle.std.proofs.lemmas.List.{map_more}
use Rattle.cross_core.specs.declared.order.Row.{Row}
use Rattle.cross_core.specs.Steps.{Stands}
use Rattle.cross_core.specs.Sums.{row_at}
use Rattle.cross_core.proofs.Walking.{row_there, stands_first, stands_more, up_to_first}
use Rattle.cross_core.proofs.steps.rows.Goals as goal

pub loop-price-init : goal.loop-price-init
loop-price-init c = record {
  place = omega (arith, c.opening-walk.ensures.next);
  sums = subst (λ n. Stands c.args.orders.now [] c.opening-walk.result.buy c.opening-walk.result.sell (drop n c.args.steps.now)) (sym c.opening-walk.ensures.next)
      (stands_first c.args.orders.now c.args.steps.now c.opening-walk.result.buy c.opening-walk.result.sell c.requires.same c.opening-walk.ensures.buy c.opening-walk.ensures.sell);
  rows = c.new-rows.ensures;
}

pub advance-walk-requires : goal.advance-walk-requires
advance-walk-requires c =
    up_to_first c.args.orders.now c.args.prices.now c.loop-price.price-index c.price-item.result c.args.steps.now c.loop-price.walk
    c.requires.rising c.loop-price-test.true c.price-item.is c.loop-price.invariant.place c.opening-walk.ensures.most c.requires.few c.loop-price.invariant.sums

pub loop-price-preserved : goal.loop-price-preserved
loop-price-preserved c =
    let i = c.loop-price.price-index in
    let price = c.price-item.result in
    let prices = c.args.prices.now in
    let orders = c.args.orders.now in
    let steps = c.args.steps.now in
    let up = c.advance-walk.ensures.walk in
    record {
      place = up.place;
      sums = stands_more orders prices i price steps c.loop-price.walk c.advance-walk.result c.loop-price-test.true c.price-item.is up
          c.loop-price.invariant.sums;
      rows =
          c.in_ok-push.ensures.ok
          ∙ ap (λ (rows : List Row). rows ++ record { price = price; buy = c.advance-walk.result.buy; sell = c.advance-walk.result.sell } ∷ []) c.loop-price.invariant.rows
          ∙ ap (λ (row : Row). map (row_at orders) (take i prices) ++ row ∷ [])
          (row_there orders prices i price steps c.loop-price.walk c.advance-walk.result c.loop-price-test.true c.price-item.is up
          c.loop-price.invariant.sums c.requires.rising c.requires.sorted c.advance-walk.ensures.rest
          ∙ ap (row_at orders) c.price-item.is)
          ∙ sym (map_more (row_at orders) prices i price c.loop-price-test.true);
    }
