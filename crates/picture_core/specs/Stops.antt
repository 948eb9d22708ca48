-- The pauses and halts of a day.
use Rattle.std.specs.Prelude.{ℕ, List, [], ◌∷◌, codes, Option, Some, None, option_map}
use Rattle.std.specs.List.{cons_option, flat_map}
use Rattle.session_core.specs.declared.state.Level.TheVariants as levels
use Rattle.session_core.specs.declared.state.Phase.{Phase}
use Rattle.session_core.specs.declared.state.Phase.TheVariants as phases
use Rattle.wire_out.specs.declared.message.Message.{Message}
use Rattle.wire_out.specs.declared.message.Message.TheVariants.{State, Breaker}
use Rattle.wire_out.specs.declared.message.Stamped.{Stamped}
use Rattle.picture_core.specs.Labels.{◌⊕◌, time_text}
use Rattle.picture_core.specs.Spans.{end_of}
use Rattle.picture_core.specs.declared.stop.Kind.{Kind}
use Rattle.picture_core.specs.declared.stop.Kind.TheVariants as kinds
use Rattle.picture_core.specs.declared.stop.Stop.{Stop}

-- the pause or the halt that a phase is
abbrev pub kind_of_phase : Phase → Option Kind
kind_of_phase phases.Paused = Some kinds.Pause
kind_of_phase phases.Closing = Some kinds.PauseToClose
kind_of_phase phases.Halted = Some kinds.Halt
kind_of_phase _ = None

-- what a message begins
abbrev pub kind_of : Message → Option Kind
kind_of (State s phase) = kind_of_phase phase
kind_of (Breaker level index) = Some (kinds.MarketWide level)
kind_of _ = None

-- from the moment of a message to that of the first later one that ends it, where one does
abbrev pub stop_of : Stamped → List Stamped → Option Stop
stop_of x later = option_map (λ kind. record { kind = kind; begin = x.moment; end = end_of x.message later }) (kind_of x.message)

-- the pauses and halts that messages begin, each with those behind it as the later ones
abbrev pub stops_of : List Stamped → List Stop
stops_of [] = []
stops_of (x ∷ later) = cons_option (stop_of x later) (stops_of later)

abbrev pub kind_text : Kind → List ℕ
kind_text kinds.Pause = codes "pause"
kind_text kinds.PauseToClose = codes "pause to the close"
kind_text kinds.Halt = codes "halt"
kind_text (kinds.MarketWide levels.One) = codes "Level 1"
kind_text (kinds.MarketWide levels.Two) = codes "Level 2"
kind_text (kinds.MarketWide levels.Three) = codes "Level 3"

-- to the end, where one is told
abbrev pub end_text : Option ℕ → List ℕ
end_text None = codes " on"
end_text (Some moment) = codes " to " ⊕ time_text moment

-- a pause or a halt in words
unfoldable pub stop_text : Stop → List ℕ
stop_text stop = kind_text stop.kind ⊕ codes " from " ⊕ time_text stop.begin ⊕ end_text stop.end

unfoldable pub sentence : Stop → List ℕ
sentence stop = codes " " ⊕ stop_text stop ⊕ codes "."

-- all of them in words
abbrev pub sentences : List Stop → List ℕ
sentences stops = flat_map sentence stops
