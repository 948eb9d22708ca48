-- What the first loads add up to. Private words: no public clause cites them.
use Rattle.std.specs.Prelude.{◌≡◌, ℕ, ◌*◌, ◌≤◌, List, length, take, sum}

-- so many of the first loads have this sum
pub record IsPrefix (loads : List ℕ) (count total : ℕ) : Type 0 where
  pub within : count ≤ length loads
  pub sum_is : total ≡ sum (take count loads)
  pub bounded : total ≤ count * 4294967295
