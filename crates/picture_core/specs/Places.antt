-- Where each message of the picture stands.
use Rattle.std.specs.Prelude.{ℕ, ◌+◌, ◌*◌, ◌≤◌, max, List, [], ◌∷◌, Option, unwrap_or}
use Rattle.session_core.specs.declared.state.Phase.{Phase}
use Rattle.session_core.specs.declared.state.Phase.TheVariants as phases
use Rattle.wire_out.specs.declared.message.Message.{Message}
use Rattle.wire_out.specs.declared.message.Message.TheVariants.{State, Band, Straddle, Collar, Release, Short, Breaker}
use Rattle.wire_out.specs.declared.message.Stamped.{Stamped}
use Rattle.picture_core.specs.Scales.{x_of, y_of}
use Rattle.picture_core.specs.Spans.{end_of}
use Rattle.picture_core.specs.declared.axis.Axis.{Axis}
use Rattle.picture_core.specs.declared.place.Heights.{Heights}
use Rattle.picture_core.specs.declared.place.Place.{Place}

-- the x at which a span ends: where the data ends, where nothing ends it
abbrev pub right_of : ℕ → ℕ → Option ℕ → ℕ
right_of last left end = max left (x_of (unwrap_or end last))

-- the lane below the prices: limit states, straddle states, pauses, halts, market-wide halts, the short sale restriction
abbrev pub lane_of_phase : Phase → ℕ
lane_of_phase phases.Paused = 2
lane_of_phase phases.Closing = 2
lane_of_phase phases.Halted = 3
lane_of_phase _ = 0

abbrev pub lane_of : Message → ℕ
lane_of (State s phase) = lane_of_phase phase
lane_of (Straddle s on) = 1
lane_of (Breaker level index) = 4
lane_of (Short s kind) = 5
lane_of _ = 0

-- a bar is 60 high, and has room for words below it: the next lane's begins 130 below it
abbrev pub in_lane : ℕ → Heights
in_lane lane = record { top = 3060 + 130 * lane; middle = 3060 + 130 * lane; bottom = 3120 + 130 * lane }

-- what has prices stands at their heights, and all else in its lane
abbrev pub heights_of : Axis → Message → Heights
heights_of axis (Band s cause reference lower upper) =
    record { top = y_of axis upper; middle = y_of axis reference; bottom = y_of axis lower }
heights_of axis (Collar s round lower upper) = record { top = y_of axis upper; middle = y_of axis upper; bottom = y_of axis lower }
heights_of axis (Release s price) = record { top = y_of axis price; middle = y_of axis price; bottom = y_of axis price }
heights_of axis message = in_lane (lane_of message)

-- from the moment of a message to that of the first later one that ends what it says, else to the last moment that is told
abbrev pub place_of : Axis → ℕ → Stamped → List Stamped → Place
place_of axis last x later =
    record { left = x_of x.moment; right = right_of last (x_of x.moment) (end_of x.message later); heights = heights_of axis x.message }

-- the places of messages, each with those behind it as the later ones
abbrev pub places_of : Axis → ℕ → List Stamped → List Place
places_of axis last [] = []
places_of axis last (x ∷ later) = place_of axis last x later ∷ places_of axis last later

-- heights are within the picture
pub record AreWithin (heights : Heights) : Type 0 where
  pub below : 300 ≤ heights.top
  pub top : heights.top ≤ 3770
  pub middle : heights.middle ≤ 3770
  pub bottom : heights.bottom ≤ 3770

-- a place is within the picture
pub record IsWithin (place : Place) : Type 0 where
  pub begins : 800 ≤ place.left
  pub forward : place.left ≤ place.right
  pub ends : place.right ≤ 6200
  pub within : AreWithin place.heights
