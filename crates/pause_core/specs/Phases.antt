-- Tests of the phase of a stock's trading.
use Rattle.std.specs.Prelude.{Bool, true, false}
use Rattle.session_core.specs.declared.state.Phase.{Phase}
use Rattle.session_core.specs.declared.state.Phase.TheVariants.{Shut, Trading, LimitLow, LimitHigh, Halted, Stopped, Closed}

-- the stock's day is over
abbrev pub is_done : Phase → Bool
is_done Closed = true
is_done p = false

-- trading, and not in a limit state
abbrev pub is_trading : Phase → Bool
is_trading Trading = true
is_trading p = false

-- in a limit state (LULD Plan, Section VI)
abbrev pub is_limit : Phase → Bool
is_limit LimitLow = true
is_limit LimitHigh = true
is_limit p = false

-- in a regulatory halt
abbrev pub is_in_regulatory_halt : Phase → Bool
is_in_regulatory_halt Halted = true
is_in_regulatory_halt p = false

-- a market-wide halt can halt it
abbrev pub can_market_halt : Phase → Bool
can_market_halt Halted = false
can_market_halt Stopped = false
can_market_halt Closed = false
can_market_halt p = true

-- trading can start from it
abbrev pub can_start : Phase → Bool
can_start Shut = true
can_start Stopped = true
can_start p = false
