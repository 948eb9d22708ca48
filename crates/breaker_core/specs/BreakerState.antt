-- What a breaker keeps of a day.
use Rattle.std.specs.Prelude.{◌≡◌, ℕ, Option, Some, None, List, if◌then◌else◌, max}
use Rattle.std.specs.Option.{option_map_or}
use Rattle.session_core.specs.declared.state.Level.{Level}
use Rattle.breaker_core.specs.declared.breaker.Halt.{Halt}
use Rattle.breaker_core.specs.Levels.{percent_of, ends}
use Rattle.breaker_core.specs.Days.{Call, answers, halt_in, greatest_declared}

-- the index close, the percentage of the greatest level declared, 0 for none, and the halt in effect
pub record BreakerState : Type 0 where
  pub index_close : ℕ
  pub greatest : ℕ
  pub halt : Option Halt

-- no level is declared
abbrev pub started : ℕ → BreakerState
started index_close = record { index_close = index_close; greatest = 0; halt = None }

-- a halt that is over at t has ended
abbrev pub resumed : ℕ → BreakerState → BreakerState
resumed t kept = record kept { halt = if ends t kept.halt then None else kept.halt }

-- a level is declared at t
abbrev pub with_level : ℕ → BreakerState → Level → BreakerState
with_level t kept level =
    record kept { greatest = max (percent_of level) kept.greatest; halt = Some (record { level = level; since = t }) }

-- a level, or none, is declared at t
abbrev pub with_declared : ℕ → Option Level → BreakerState → BreakerState
with_declared t level kept = option_map_or (with_level t kept) level kept

-- a breaker represents the calls that it has had today
pub record Represents (kept : BreakerState) (calls : List Call) : Type 0 where
  pub greatest : kept.greatest ≡ greatest_declared (answers kept.index_close calls)
  pub halt : kept.halt ≡ halt_in (answers kept.index_close calls)
