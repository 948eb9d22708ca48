-- Which moments of a list are due at another: those that are not after it.
use Rattle.std.specs.Prelude.{ℕ, ◌<◌, ◌≤◌, List, length, slice_index}

-- no place from one on and before another is due
abbrev pub NoneDue : ℕ → ℕ → ℕ → List ℕ → Type 0
NoneDue t from before moments = (place : ℕ) → from ≤ place → place < before → place < length moments → t < slice_index moments place

-- the first place from one on that is due
pub record IsFirstDue (t from place : ℕ) (moments : List ℕ) : Type 0 where
  pub after : from ≤ place
  pub within : place < length moments
  pub due : slice_index moments place ≤ t
  pub earlier : NoneDue t from place moments
