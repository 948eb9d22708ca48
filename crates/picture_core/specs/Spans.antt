-- How long what a message says stands in the picture.
use Rattle.std.specs.Prelude.{ℕ, Bool, true, false, not, List, Option, option_map}
use Rattle.std.specs.List.{find}
use Rattle.session_core.specs.declared.state.Phase.{Phase}
use Rattle.session_core.specs.declared.state.Phase.TheVariants as phases
use Rattle.wire_out.specs.declared.message.Message.{Message}
use Rattle.wire_out.specs.declared.message.Message.TheVariants.{State, Band, Straddle, Collar, Release, Breaker, MarketResume}
use Rattle.wire_out.specs.declared.message.Stamped.{Stamped}

-- a run goes on in this phase
abbrev pub is_run : Phase → Bool
is_run phases.Trading = true
is_run phases.LimitLow = true
is_run phases.LimitHigh = true
is_run _ = false

-- a message ends the reference price and the bands: the next ones, or the end of the run
abbrev pub ends_band : Message → Bool
ends_band (Band s cause reference lower upper) = true
ends_band (State s phase) = not (is_run phase)
ends_band _ = false

-- a message ends a phase: the next phase
abbrev pub ends_phase : Message → Bool
ends_phase (State s phase) = true
ends_phase _ = false

-- a message ends a straddle state: its end
abbrev pub ends_straddle : Message → Bool
ends_straddle (Straddle s on) = true
ends_straddle _ = false

-- a message ends a round's collars: the next round, the reopening, or another phase
abbrev pub ends_collar : Message → Bool
ends_collar (Collar s round lower upper) = true
ends_collar (Release s price) = true
ends_collar (State s phase) = true
ends_collar _ = false

-- a message ends a market-wide halt
abbrev pub ends_breaker : Message → Bool
ends_breaker MarketResume = true
ends_breaker _ = false

-- a later message ends what an earlier one says
abbrev pub ends : Message → Message → Bool
ends (State s phase) later = ends_phase later
ends (Band s cause reference lower upper) later = ends_band later
ends (Straddle s on) later = ends_straddle later
ends (Collar s round lower upper) later = ends_collar later
ends (Breaker level index) later = ends_breaker later
ends _ later = false

-- the moment of the first later message that ends it; none where none does
abbrev pub end_of : Message → List Stamped → Option ℕ
end_of message later = option_map (λ x. x.moment) (find (λ x. ends message x.message) later)
