-- How long a limit state has lasted.
use Rattle.std.specs.Prelude.{ℕ, Bool, ◌+◌, nat_le}
use Rattle.price_core.specs.declared.quote.Side.{Side}
use Rattle.session_core.specs.Durations.{fifteen_seconds}

-- a limit state by its entry
pub record LimitState : Type 0 where
  pub entered : ℕ
  pub side : Side

-- 15 seconds have passed
abbrev pub has_lasted : ℕ → ℕ → Bool
has_lasted entered t = nat_le (entered + fifteen_seconds) t
