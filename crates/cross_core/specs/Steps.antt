-- How the sums change on the way from lower prices to higher ones. Private words: no public clause cites them.
use Rattle.std.specs.Prelude.{◌≡◌, ℕ, Bool, ◌==◌, ◌||◌, ◌+◌, ◌-◌, ◌≤◌, ◌<◌, ◌^◌, Option, List, All, if◌then◌else◌, drop, length, nat_le, not, ◌&&◌, option_map, sum_by}
use Rattle.std.specs.List.{filter_map, list_any}
use Rattle.price_core.specs.declared.quote.Collars.{Collars}
use Rattle.cross_core.specs.declared.order.Order.{Order}
use Rattle.cross_core.specs.declared.steps.Step.{Step}
use Rattle.cross_core.specs.declared.steps.Walk.{Walk}
use Rattle.cross_core.specs.Sums.{buy_sum, sell_sum}
use Rattle.cross_core.specs.Best.{is_within}

-- A buy with a price takes its size from the buy sum above that price, a sell adds its size to the sell sum from its price on.
abbrev pub step_of : Order → Option Step
step_of o = option_map (λ own. record { from = if o.buy then own + 1 else own; buy = o.buy; size = o.size }) o.price

abbrev pub steps_of : List Order → List Step
steps_of orders = filter_map step_of orders

-- a price is the one where a step begins, or the one before it
abbrev pub is_beside : ℕ → ℕ → Bool
is_beside p from = from == p || from == p + 1

-- a candidate, told by the steps of the orders
abbrev pub is_stop : ℕ → Collars → List Step → ℕ → Bool
is_stop reference collars steps p =
    is_within collars p && (p == collars.lower || (p == collars.upper || (p == reference || list_any (λ s. is_beside p s.from) steps)))

-- how many shares a buy order asks for at any price
abbrev pub all_bought : Order → ℕ
all_bought o = if o.buy then o.size else 0

-- how much a step takes from the buy sum up to a price
abbrev pub taken_by : ℕ → Step → ℕ
taken_by p s = if s.buy && nat_le s.from p then s.size else 0

-- how much it adds to the sell sum
abbrev pub added_by : ℕ → Step → ℕ
added_by p s = if not s.buy && nat_le s.from p then s.size else 0

abbrev pub taken : ℕ → List Step → ℕ
taken p steps = sum_by (taken_by p) steps

abbrev pub added : ℕ → List Step → ℕ
added p steps = sum_by (added_by p) steps

-- sums from which the steps ahead lead to those at each price that is not below the prices passed
pub record Stands (orders : List Order) (passed : List ℕ) (buy sell : ℕ) (ahead : List Step) : Type 0 where
  pub buys : (q : ℕ) → All (λ p. p ≤ q) passed → buy_sum q orders + taken q ahead ≡ buy
  pub sells : (q : ℕ) → All (λ p. p ≤ q) passed → sell_sum q orders ≡ sell + added q ahead

-- a walk behind one step more
abbrev pub walked : Step → Walk → Walk
walked s walk = record {
  next = walk.next + 1;
  buy = if s.buy then walk.buy - s.size else walk.buy;
  sell = if s.buy then walk.sell else walk.sell + s.size;
}

-- a walk that comes from another one and goes up to a price: at that price and above, what was taken and added on the way and
-- what is ahead are together what was ahead
pub record IsUpTo (price : ℕ) (steps : List Step) (from walk : Walk) : Type 0 where
  pub place : walk.next ≤ length steps
  pub takes : taken price (drop walk.next steps) ≤ walk.buy
  pub adds : walk.sell + added price (drop walk.next steps) < 2 ^ 64
  pub buys : (q : ℕ) → price ≤ q → walk.buy + taken q (drop from.next steps) ≡ from.buy + taken q (drop walk.next steps)
  pub sells : (q : ℕ) → price ≤ q → from.sell + added q (drop from.next steps) ≡ walk.sell + added q (drop walk.next steps)
