-- The phases that the session close, a market-wide halt, the start of trading and a regulatory halt bring.
use Rattle.std.specs.Prelude.{Bool, Option, Some, None, List, [], ◌∷◌, ◌++◌, not, ◌&&◌, if◌then◌else◌, unwrap_or, option_to_list}
use Rattle.session_core.specs.declared.state.Phase.{Phase}
use Rattle.session_core.specs.declared.state.Phase.TheVariants.{Shut, Trading, Halted, Stopped, Closed}
use Rattle.pause_core.specs.declared.turning.Brakes.{Brakes}
use Rattle.pause_core.specs.declared.turning.Turned.{Turned}
use Rattle.pause_core.specs.Phases.{is_done, is_in_regulatory_halt, can_market_halt, can_start}

-- A rule gives the phase that it brings, or none.

-- the session close
abbrev pub session_close : Phase → Brakes → Option Phase
session_close p b = if b.closed then Some Closed else None

-- a market-wide halt is in effect and halts the stock (NYSE Rule 7.12)
abbrev pub market_halts : Phase → Brakes → Bool
market_halts p b = b.stopped && can_market_halt p

-- a market-wide halt
abbrev pub market_halt : Phase → Brakes → Option Phase
market_halt p b = if market_halts p b then Some Stopped else None

-- trading starts in the session, while no market-wide halt is in effect
abbrev pub starts : Phase → Brakes → Bool
starts p b = can_start p && (b.in_session && not b.stopped)

-- the start of trading
abbrev pub start : Phase → Brakes → Option Phase
start p b = if starts p b then Some Trading else None

-- where a regulatory halt leaves the stock
abbrev pub phase_after_regulatory_halt : Brakes → Phase
phase_after_regulatory_halt b = if b.stopped then Stopped else if b.in_session then Trading else Shut

-- a regulatory halt, and its end
abbrev pub regulatory_halt : Phase → Brakes → Option Phase
regulatory_halt p b =
    if b.halted
    then (if is_in_regulatory_halt p then None else Some Halted)
    else if is_in_regulatory_halt p then Some (phase_after_regulatory_halt b)
    else None

-- a stock whose day is over takes part in no rule
abbrev pub obeyed : (Phase → Brakes → Option Phase) → Phase → Brakes → Option Phase
obeyed rule p b = if is_done p then None else rule p b

-- the phases that rules bring one after the other, each from the phase that those before it left
abbrev pub phases : List (Phase → Brakes → Option Phase) → Phase → Brakes → List Phase
phases [] p b = []
phases (rule ∷ rules) p b = option_to_list (obeyed rule p b) ++ phases rules (unwrap_or (obeyed rule p b) p) b

-- the phases of the four rules
abbrev pub turns : Phase → Brakes → List Phase
turns p b = phases (session_close ∷ market_halt ∷ start ∷ regulatory_halt ∷ []) p b

-- the same as a pair
abbrev pub in_order : List Phase → Turned
in_order [] = record { first = None; second = None }
in_order (p ∷ []) = record { first = Some p; second = None }
in_order (p ∷ q ∷ ps) = record { first = Some p; second = Some q }
