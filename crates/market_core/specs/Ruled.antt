-- The market-wide rules over what is kept of a day.
use Rattle.std.specs.Prelude.{ℕ, Option, List, [], ◌∷◌, ◌++◌, if◌then◌else◌, map, is_some}
use Rattle.session_core.specs.declared.state.Level.{Level}
use Rattle.wire_in.specs.declared.record.Record.{Record}
use Rattle.wire_in.specs.declared.record.Record.TheVariants as in_
use Rattle.wire_out.specs.declared.message.Message.{Message}
use Rattle.wire_out.specs.declared.message.Message.TheVariants.{MarketResume}
use Rattle.wire_out.specs.declared.message.Stamped.{Stamped}
use Rattle.breaker_core.specs.BreakerState.{resumed, with_declared}
use Rattle.breaker_core.specs.Levels.{ends, declares}
use Rattle.rulebook.specs.Market.{breaks}
use Rattle.symbol_core.specs.declared.symbol.MarketView.{MarketView}
use Rattle.market_core.specs.declared.lead.Today.{Today}

abbrev pub with_breaker_resumed : ℕ → Today → Today
with_breaker_resumed t today = record { day = today.day; breaker = resumed t today.breaker }

-- the level that an index value declares on a day
abbrev pub level_on : ℕ → ℕ → Today → Option Level
level_on t value today = declares today.breaker.halt today.breaker.greatest today.breaker.index_close today.day t value

abbrev pub with_level_on : ℕ → ℕ → Today → Today
with_level_on t value today = record { day = today.day; breaker = with_declared t (level_on t value today) today.breaker }

abbrev pub resumption : ℕ → Today → List Message
resumption t today = if ends t today.breaker.halt then MarketResume ∷ [] else []

-- at an index tick: a resumption first, and then a level
abbrev pub tick_messages : ℕ → ℕ → Today → List Message
tick_messages t value today = resumption t today ++ breaks value (level_on t value (with_breaker_resumed t today))

-- the day after the market-wide rules at a record
abbrev pub ruled : Record → Today → Today
ruled (in_.Clock t) today = with_breaker_resumed t today
ruled (in_.IndexTick t value) today = with_level_on t value (with_breaker_resumed t today)
ruled x today = today

-- what those rules publish
abbrev pub ruling : Record → Today → List Message
ruling (in_.Clock t) today = resumption t today
ruling (in_.IndexTick t value) today = tick_messages t value today
ruling x today = []

-- what a day is to its symbols
abbrev pub view_of : Today → MarketView
view_of today = record { day = today.day; stopped = is_some today.breaker.halt }

-- messages of one moment
abbrev pub stamped : ℕ → List Message → List Stamped
stamped t messages = map (λ m. record { moment = t; message = m }) messages
