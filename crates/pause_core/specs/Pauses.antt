-- A trading pause: after 15 seconds in a limit state, or in a straddle state when the listing exchange asks for it (LULD Plan, Section VII(A)).
-- In the last ten minutes there is no reopening before the close (Section VII(C)).
use Rattle.std.specs.Prelude.{Bool, Option, Some, None, ◌&&◌, ◌||◌, if◌then◌else◌}
use Rattle.session_core.specs.declared.state.Phase.{Phase}
use Rattle.session_core.specs.declared.state.Phase.TheVariants.{Paused, Closing}
use Rattle.pause_core.specs.Phases.{is_limit, is_trading}

-- a limit state of 15 seconds
abbrev pub is_limited : Bool → Phase → Bool
is_limited expired p = is_limit p && expired

-- the listing exchange asks in a straddle state
abbrev pub is_asked : Bool → Bool → Phase → Bool
is_asked asked straddling p = asked && is_trading p && straddling

-- the phase of the pause
abbrev pub pause : Bool → Bool → Bool → Phase → Bool → Option Phase
pause expired asked straddling p last_10 =
    if is_limited expired p || is_asked asked straddling p
    then (if last_10 then Some Closing else Some Paused)
    else None
