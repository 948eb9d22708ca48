-- What each message draws at its place.
use Rattle.std.specs.Prelude.{ℕ, ◌+◌, ◌-◌, Bool, true, false, nat_lt, nat_le, if◌then◌else◌, List, [], ◌∷◌, codes, decimal}
use Rattle.session_core.specs.declared.state.Level.{Level}
use Rattle.session_core.specs.declared.state.Level.TheVariants as levels
use Rattle.session_core.specs.declared.state.Phase.{Phase}
use Rattle.session_core.specs.declared.state.Phase.TheVariants as phases
use Rattle.wire_out.specs.declared.message.ShortKind.{ShortKind}
use Rattle.wire_out.specs.declared.message.ShortKind.TheVariants as kinds
use Rattle.wire_out.specs.declared.message.Message.{Message}
use Rattle.wire_out.specs.declared.message.Message.TheVariants.{State, Band, Straddle, Collar, Release, Short, Breaker}
use Rattle.wire_out.specs.declared.message.Stamped.{Stamped}
use Rattle.picture_core.specs.Labels.{◌⊕◌, dollars_text, time_text}
use Rattle.picture_core.specs.Rooms.{room_of_words, is_free, with_room}
use Rattle.picture_core.specs.declared.element.Style.{Style}
use Rattle.picture_core.specs.declared.element.Style.TheVariants.{Plain, Before, Strong}
use Rattle.picture_core.specs.declared.place.Place.{Place}
use Rattle.picture_core.specs.declared.room.Room.{Room}

-- words at a point, and what ends them
pub record Label : Type 0 where
  pub style : Style
  pub x : ℕ
  pub y : ℕ
  pub words : List ℕ
  pub end : List ℕ

-- a label by its parts
abbrev pub label : Style → ℕ → ℕ → List ℕ → List ℕ → Label
label style x y words end = record { style = style; x = x; y = y; words = words; end = end }

-- the class of words in the picture's style
abbrev pub class_of : Style → List ℕ
class_of Plain = []
class_of Before = codes " class=\"left\""
class_of Strong = codes " class=\"strong\""

-- words that end at their point
abbrev pub ends_there : Style → Bool
ends_there Before = true
ends_there _ = false

-- the room of a label
abbrev pub room_of : Label → Room
room_of l = room_of_words l.x l.y (ends_there l.style) l.words

-- a label as text
unfoldable pub label_text : Label → List ℕ
label_text l =
    codes "<text" ⊕ class_of l.style ⊕ codes " x=\"" ⊕ decimal l.x ⊕ codes "\" y=\"" ⊕ decimal l.y ⊕ codes "\">" ⊕ l.words
    ⊕ codes "</text>" ⊕ l.end

-- a label is drawn where its room meets none that is taken
unfoldable pub drawn_label : List Room → Label → List ℕ
drawn_label rooms l = if is_free rooms (room_of l) then label_text l else []

-- and it takes its room
unfoldable pub with_label : List Room → Label → List Room
with_label rooms l = with_room rooms (room_of l)

-- labels in their order, each where those before it leave room
abbrev pub drawn_labels : List Room → List Label → List ℕ
drawn_labels rooms [] = []
drawn_labels rooms (l ∷ labels) = drawn_label rooms l ⊕ drawn_labels (with_label rooms l) labels

-- the rooms that are taken behind them
abbrev pub with_labels : List Room → List Label → List Room
with_labels rooms [] = rooms
with_labels rooms (l ∷ labels) = with_labels (with_label rooms l) labels

-- a line at a height
unfoldable pub line : Place → ℕ → List ℕ
line p y = codes "M" ⊕ decimal p.left ⊕ codes " " ⊕ decimal y ⊕ codes "H" ⊕ decimal p.right

-- the reference price and the bands as three lines
unfoldable pub band_lines : Place → List ℕ
band_lines p =
    codes "<path class=\"band\" d=\"" ⊕ line p p.heights.top ⊕ line p p.heights.bottom
    ⊕ codes "\"/><path class=\"reference\" d=\"" ⊕ line p p.heights.middle ⊕ codes "\"/>"

-- a price at a point
abbrev pub price_label : ℕ → ℕ → ℕ → Label
price_label x y price = label Plain x y (dollars_text price) []

-- the upper price over its line, the reference price over its own, the lower one below it: where the lines are 300 wide
unfoldable pub band_labels : Place → ℕ → ℕ → ℕ → List Label
band_labels p reference lower upper =
    if nat_lt (p.right - p.left) 300 then []
    else price_label (p.left + 10) (p.heights.top - 20) upper ∷ price_label (p.left + 10) (p.heights.middle - 20) reference
    ∷ price_label (p.left + 10) (p.heights.bottom + 70) lower ∷ []

-- a round's collars as two lines, with an upright one at their begin
unfoldable pub collar_lines : Place → List ℕ
collar_lines p =
    codes "<path class=\"collar\" d=\"" ⊕ line p p.heights.top ⊕ line p p.heights.bottom
    ⊕ codes "M" ⊕ decimal p.left ⊕ codes " " ⊕ decimal p.heights.top ⊕ codes "V" ⊕ decimal p.heights.bottom ⊕ codes "\"/>"

-- a round by its number
abbrev pub round_text : ℕ → List ℕ
round_text round = codes "r" ⊕ decimal round

-- over the upper line and below the lower one
unfoldable pub collar_labels : Place → ℕ → List Label
collar_labels p round =
    label Plain (p.left + 10) (p.heights.top - 20) (round_text round) [] ∷ label Plain (p.left + 10) (p.heights.bottom + 70) (round_text round) [] ∷ []

-- a reopening price as a point in a circle
unfoldable pub release_mark : Place → List ℕ
release_mark p =
    codes "<circle class=\"release\" cx=\"" ⊕ decimal p.left ⊕ codes "\" cy=\"" ⊕ decimal p.heights.middle ⊕ codes "\" r=\"28\"/><circle cx=\""
    ⊕ decimal p.left ⊕ codes "\" cy=\"" ⊕ decimal p.heights.middle ⊕ codes "\" r=\"8\"/>"

-- with the price
unfoldable pub release_labels : Place → ℕ → List Label
release_labels p price = label Strong (p.left + 50) (p.heights.middle + 80) (dollars_text price) [] ∷ []

-- a bar in a lane
unfoldable pub bar : List ℕ → Place → List ℕ
bar class p =
    codes "<rect class=\"" ⊕ class ⊕ codes "\" x=\"" ⊕ decimal p.left ⊕ codes "\" y=\"" ⊕ decimal p.heights.top
    ⊕ codes "\" width=\"" ⊕ decimal (p.right - p.left) ⊕ codes "\" height=\"" ⊕ decimal (p.heights.bottom - p.heights.top) ⊕ codes "\"/>\n"

-- its stretch of the prices, grey and without hatching
unfoldable pub stretch : Place → List ℕ
stretch p =
    codes "<rect class=\"behind\" x=\"" ⊕ decimal p.left ⊕ codes "\" y=\"300\" width=\"" ⊕ decimal (p.right - p.left)
    ⊕ codes "\" height=\"2600\"/>\n"

-- a bar's words begin with its moment, and end with a blank that keeps the next ones apart
abbrev pub begun : ℕ → List ℕ → List ℕ
begun moment words = time_text moment ⊕ words ⊕ codes " "

-- words below a bar, with a newline
abbrev pub lane_label : Style → ℕ → Place → List ℕ → Label
lane_label style x p words = label style x (p.heights.bottom + 44) words (codes "\n")

-- a bar's words begin where it begins, and on the right of the picture they end where it ends
unfoldable pub bar_label : Place → List ℕ → Label
bar_label p words = if nat_le p.left 5000 then lane_label Plain (p.left + 10) p words else lane_label Before p.right p words

-- the one label of a bar
abbrev pub bar_labels : Place → ℕ → List ℕ → List Label
bar_labels p moment words = bar_label p (begun moment words) ∷ []

-- limit states, pauses and halts are bars, the last two with their stretch; other phases draw nothing
abbrev pub phase_begin : Phase → Place → List ℕ
phase_begin phases.LimitLow p = bar (codes "limit") p
phase_begin phases.LimitHigh p = bar (codes "limit") p
phase_begin phases.Paused p = stretch p ⊕ bar (codes "pause") p
phase_begin phases.Closing p = stretch p ⊕ bar (codes "pause") p
phase_begin phases.Halted p = stretch p ⊕ bar (codes "halt") p
phase_begin _ p = []

-- the words of their bars
abbrev pub phase_labels : Phase → Place → ℕ → List Label
phase_labels phases.LimitLow p moment = bar_labels p moment (codes " lower band")
phase_labels phases.LimitHigh p moment = bar_labels p moment (codes " upper band")
phase_labels phases.Paused p moment = bar_labels p moment []
phase_labels phases.Closing p moment = bar_labels p moment (codes " to the close")
phase_labels phases.Halted p moment = bar_labels p moment []
phase_labels _ p moment = []

-- the words of a market-wide halt
abbrev pub level_text : Level → List ℕ
level_text levels.One = codes " Level 1"
level_text levels.Two = codes " Level 2"
level_text levels.Three = codes " Level 3"

-- the words of a short sale restriction
abbrev pub short_text : ShortKind → List ℕ
short_text kinds.Triggered = codes " triggered"
short_text kinds.Carried = codes " carried from the day before"

-- what a message draws before its labels
abbrev pub element_begin : Message → Place → List ℕ
element_begin (Band s cause reference lower upper) p = codes "<g>" ⊕ band_lines p
element_begin (Collar s round lower upper) p = codes "<g>" ⊕ collar_lines p
element_begin (Release s price) p = codes "<g>" ⊕ release_mark p
element_begin (State s phase) p = phase_begin phase p
element_begin (Straddle s true) p = bar (codes "straddle") p
element_begin (Breaker level index) p = stretch p ⊕ bar (codes "breaker") p
element_begin (Short s kind) p = bar (codes "short") p
element_begin _ p = []

-- the labels of a message
abbrev pub element_labels : Message → ℕ → Place → List Label
element_labels (Band s cause reference lower upper) moment p = band_labels p reference lower upper
element_labels (Collar s round lower upper) moment p = collar_labels p round
element_labels (Release s price) moment p = release_labels p price
element_labels (State s phase) moment p = phase_labels phase p moment
element_labels (Straddle s true) moment p = bar_labels p moment []
element_labels (Breaker level index) moment p = bar_labels p moment (level_text level)
element_labels (Short s kind) moment p = bar_labels p moment (short_text kind)
element_labels _ moment p = []

-- what it draws behind them
abbrev pub element_end : Message → List ℕ
element_end (Band s cause reference lower upper) = codes "</g>\n"
element_end (Collar s round lower upper) = codes "</g>\n"
element_end (Release s price) = codes "</g>\n"
element_end _ = []

-- a begin, labels and an end
unfoldable pub drawn : List Room → List ℕ → List Label → List ℕ → List ℕ
drawn rooms begin labels end = begin ⊕ drawn_labels rooms labels ⊕ end

-- a message at its place, beside the rooms that are taken
unfoldable pub element_text : List Room → Stamped → Place → List ℕ
element_text rooms x p = drawn rooms (element_begin x.message p) (element_labels x.message x.moment p) (element_end x.message)

-- the rooms that are taken behind it
unfoldable pub rooms_after : List Room → Stamped → Place → List Room
rooms_after rooms x p = with_labels rooms (element_labels x.message x.moment p)
