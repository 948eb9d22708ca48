-- The sum of the prices of deals, and their number. Private words: no public clause cites them.
use Rattle.std.specs.Prelude.{◌≡◌, ℕ, ◌*◌, ◌≤◌, List, length, sum_by}
use Rattle.window_core.specs.declared.window.Deal.{Deal}

-- a sum and a count are those of the deals, and are in their ranges
pub record Tallies (sum count : ℕ) (deals : List Deal) : Type 0 where
  pub sum_is : sum ≡ sum_by (λ d. d.price) deals
  pub count_is : count ≡ length deals
  pub least : count ≤ sum
  pub greatest : sum ≤ 99999999999 * count
