-- Moments of a day, in nanoseconds since midnight, Eastern time.
use Rattle.std.specs.Prelude.{ℕ, ◌*◌, ◌<◌}

-- a duration in nanoseconds
abbrev pub seconds : ℕ → ℕ
seconds n = n * 1000000000

-- a day has 86,400 seconds
pub record IsMoment (nanos : ℕ) : Type 0 where
  pub in_day : nanos < 86400000000000
