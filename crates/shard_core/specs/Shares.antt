-- Contiguous ranges of ids, by the loads of the ids.
use Rattle.std.specs.Prelude.{◌≡◌, ℕ, ◌+◌, ◌-◌, ◌*◌, ◌<◌, ◌≤◌, List, length, take, sum, slice_index}

-- the least number of ids that have so many shares of the loads, of as many shares as there are ranges
pub record IsShareEnd (loads : List ℕ) (ranges shares end : ℕ) : Type 0 where
  pub reached : shares * sum loads ≤ ranges * sum (take end loads)
  pub least : (fewer : ℕ) → fewer < end → ranges * sum (take fewer loads) < shares * sum loads

-- the upper ends of ranges, one behind the other from id 0 on: the range k ends where k + 1 shares are reached, and the last
-- one with the last id
pub record AreRangeEnds (loads : List ℕ) (ranges : ℕ) (ends : List ℕ) : Type 0 where
  pub count : length ends ≡ ranges
  pub each : (k : ℕ) → k + 1 < ranges → IsShareEnd loads ranges (k + 1) (slice_index ends k)
  pub last : slice_index ends (ranges - 1) ≡ length loads
