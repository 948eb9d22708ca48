use Rattle.std.proofs.Common.{◌≡◌, ◌≤◌, drop, length, map, take}
use Rattle.cross_core.specs.Steps.{Stands}
use Rattle.cross_core.specs.Sums.{row_at}
use Rattle.cross_core.proofs.steps.rows.Given as goal

abbrev pub invariant-loop-price : goal.invariant-loop-price
invariant-loop-price l = record {
  place : l.walk.next ≤ length l.steps;
  sums : Stands l.orders (take l.price-index l.prices) l.walk.buy l.walk.sell (drop l.walk.next l.steps);
  rows : l.rows ≡ map (row_at l.orders) (take l.price-index l.prices);
}
