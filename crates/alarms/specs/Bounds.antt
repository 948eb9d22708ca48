-- Bounds that say of 8 places at once that none of them is due, and of 64. Private words: no public clause cites them.
use Rattle.std.specs.Prelude.{ℕ, ◌+◌, ◌*◌, ◌/◌, ◌^◌, ◌<◌, ◌≤◌, List, length, slice_index}

-- a number is at most each of those from one place on and before another
abbrev pub AtMostEach : ℕ → ℕ → ℕ → List ℕ → Type 0
AtMostEach low from before numbers = (place : ℕ) → from ≤ place → place < before → place < length numbers → low ≤ slice_index numbers place

-- the greatest such number of 64 bits: the least of these, or where there are none, the last
pub record IsLeast (least from before : ℕ) (numbers : List ℕ) : Type 0 where
  pub below : AtMostEach least from before numbers
  pub greatest : (low : ℕ) → low < 2 ^ 64 → AtMostEach low from before numbers → low ≤ least

-- each 8 places have a bound, which is at most the least of their moments
pub record AreBounds (bounds moments : List ℕ) : Type 0 where
  pub enough : length moments ≤ 8 * length bounds
  pub few : 8 * length bounds < length moments + 8
  pub below : (place : ℕ) → place < length moments → slice_index bounds (place / 8) ≤ slice_index moments place

-- each 8 places have a bound, and each 8 of these a bound of their own
pub record AreLevels (groups bounds moments : List ℕ) : Type 0 where
  pub of_places : AreBounds bounds moments
  pub of_bounds : AreBounds groups bounds
