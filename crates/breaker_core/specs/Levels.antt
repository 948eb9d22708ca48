-- The levels of the market-wide circuit breakers (NYSE Rule 7.12).
use Rattle.std.specs.Prelude.{ℕ, Bool, true, false, Option, Some, None, ◌+◌, nat_lt, nat_le, if◌then◌else◌, not, ◌&&◌, is_some, option_and_then}
use Rattle.std.specs.Option.{option_map_or}
use Rattle.price_core.specs.Moves.{fell}
use Rattle.session_core.specs.declared.day.Day.{Day}
use Rattle.session_core.specs.declared.state.Level.{Level}
use Rattle.session_core.specs.declared.state.Level.TheVariants.{One, Two, Three}
use Rattle.session_core.specs.Durations.{fifteen_minutes}
use Rattle.session_core.specs.Times.{in_session, may_declare_brief}
use Rattle.breaker_core.specs.declared.breaker.Halt.{Halt}

-- the decline of the index that reaches a level, in per cent
abbrev pub percent_of : Level → ℕ
percent_of One = 7
percent_of Two = 13
percent_of Three = 20

-- a halt of Level 1 or 2 lasts 15 minutes, one of Level 3 the rest of the day
abbrev pub is_brief : Level → Bool
is_brief One = true
is_brief Two = true
is_brief Three = false

-- whether a halt is over at t
abbrev pub is_over : ℕ → Halt → Bool
is_over t halt = is_brief halt.level && nat_le (halt.since + fifteen_minutes) t

-- whether there is a halt that is over at t
abbrev pub ends : ℕ → Option Halt → Bool
ends t halt = option_map_or (is_over t) halt false

-- the greatest level that an index value reaches
abbrev pub level_reached : ℕ → ℕ → Option Level
level_reached value index_close =
    if fell (percent_of Three) value index_close then Some Three
    else if fell (percent_of Two) value index_close then Some Two
    else if fell (percent_of One) value index_close then Some One
    else None

-- Whether a level may be declared at t, with this halt in effect, where greatest is the percentage of the greatest
-- level declared today, 0 for none.
abbrev pub may_declare : Option Halt → ℕ → Day → ℕ → Level → Bool
may_declare halt greatest day t level =
    in_session t day && not (is_some halt) && nat_lt greatest (percent_of level)
    && (if is_brief level then may_declare_brief t day else true)

-- the level that an index value declares at t
abbrev pub declares : Option Halt → ℕ → ℕ → Day → ℕ → ℕ → Option Level
declares halt greatest index_close day t value =
    option_and_then (λ level. if may_declare halt greatest day t level then Some level else None) (level_reached value index_close)
