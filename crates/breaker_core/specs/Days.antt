-- A day of the market-wide circuit breakers: the calls of a breaker, and what they answered, each with the
-- newest first (NYSE Rule 7.12).
use Rattle.std.specs.Prelude.{ℕ, Option, Some, None, List, [], ◌∷◌, if◌then◌else◌, max}
use Rattle.std.specs.Option.{option_map_or}
use Rattle.session_core.specs.declared.day.Day.{Day}
use Rattle.session_core.specs.declared.state.Level.{Level}
use Rattle.breaker_core.specs.declared.breaker.Halt.{Halt}
use Rattle.breaker_core.specs.Levels.{percent_of, ends, declares}

-- a moment, or an index tick: its moment, its value and the day
pub data Call : Type 0 where
  Time : ℕ → Call
  Tick : ℕ → ℕ → Day → Call

-- a halt ended, or a level was declared at a moment
pub data Answer : Type 0 where
  Resumed : Answer
  Declared : ℕ → Level → Answer

-- the halt in effect: the last level declared, where no end follows it
abbrev pub halt_in : List Answer → Option Halt
halt_in [] = None
halt_in (Resumed ∷ earlier) = None
halt_in (Declared t level ∷ earlier) = Some (record { level = level; since = t })

-- the percentage of the greatest level declared, 0 where there is none
abbrev pub greatest_declared : List Answer → ℕ
greatest_declared [] = 0
greatest_declared (Resumed ∷ earlier) = greatest_declared earlier
greatest_declared (Declared t level ∷ earlier) = max (percent_of level) (greatest_declared earlier)

-- what an index value declares after these answers
abbrev pub declared_after : List Answer → ℕ → Day → ℕ → ℕ → Option Level
declared_after earlier index_close day t value = declares (halt_in earlier) (greatest_declared earlier) index_close day t value

-- the answers to these calls of a day with that index close
abbrev pub answers : ℕ → List Call → List Answer
answers index_close [] = []
answers index_close (Time t ∷ calls) =
    let earlier = answers index_close calls in
    if ends t (halt_in earlier) then Resumed ∷ earlier else earlier
answers index_close (Tick t value day ∷ calls) =
    let earlier = answers index_close calls in
    option_map_or (λ level. Declared t level ∷ earlier) (declared_after earlier index_close day t value) earlier
