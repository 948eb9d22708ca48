-- The picture of the market's day: its market-wide halts, and a row for each stock that was paused or halted.
use Rattle.std.specs.Prelude.{ℕ, ◌+◌, ◌-◌, ◌*◌, max, Bool, not, ◌&&◌, ◌==◌, nat_le, if◌then◌else◌, List, [], ◌∷◌, ◌++◌, length, codes, decimal, Option, Some, None, option_map, is_some}
use Rattle.std.specs.List.{filter, find, fold, list_any, position}
use Rattle.session_core.specs.declared.state.Level.{Level}
use Rattle.session_core.specs.declared.state.Level.TheVariants as levels
use Rattle.session_core.specs.declared.state.Phase.{Phase}
use Rattle.session_core.specs.declared.state.Phase.TheVariants as phases
use Rattle.wire_out.specs.declared.message.Message.{Message}
use Rattle.wire_out.specs.declared.message.Message.TheVariants.{State, Breaker}
use Rattle.wire_out.specs.declared.message.Stamped.{Stamped}
use Rattle.picture_core.specs.Shown.{is_of, is_market, last_moment}
use Rattle.picture_core.specs.Days.{Days, day_words}
use Rattle.picture_core.specs.Spans.{ends}
use Rattle.picture_core.specs.Scales.{x_of}
use Rattle.picture_core.specs.Places.{right_of}
use Rattle.picture_core.specs.Labels.{◌⊕◌, name_text, time_text}
use Rattle.picture_core.specs.Elements.{label, label_text}
use Rattle.picture_core.specs.Frames.{time_ticks}
use Rattle.picture_core.specs.DataEnd.{data_end}
use Rattle.picture_core.specs.Stops.{end_text, stops_of, sentences}
use Rattle.picture_core.specs.Heads.{opening, page}
use Rattle.picture_core.specs.declared.element.Style.TheVariants.{Plain, Before}
use Rattle.picture_core.specs.declared.market.TheConstants.{LEVELS, LEGEND}

-- how a phase without trading is hatched
abbrev pub class_of_phase : Phase → Option (List ℕ)
class_of_phase phases.Paused = Some (codes "pause")
class_of_phase phases.Closing = Some (codes "pause")
class_of_phase phases.Halted = Some (codes "halt")
class_of_phase _ = None

-- a stock that a message pauses or halts gets a row, where it has none
abbrev pub with_row : List ℕ → Message → List ℕ
with_row rows (State s phase) =
    if is_some (class_of_phase phase) && not (list_any (λ row. row == s) rows) then rows ++ s ∷ [] else rows
with_row rows _ = rows

-- the ids of the rows, in the order in which the stocks were paused or halted first
abbrev pub rows_of : List Stamped → List ℕ
rows_of day = fold (λ rows x. with_row rows x.message) [] day

-- the three levels have rows above them
abbrev pub row_of_level : Level → ℕ
row_of_level levels.One = 0
row_of_level levels.Two = 1
row_of_level levels.Three = 2

-- a row is 50 high, and the next one begins 70 below it
abbrev pub top_of : ℕ → ℕ
top_of row = 330 + 70 * row

-- the lower edge of the frame
abbrev pub bottom_of : ℕ → ℕ
bottom_of count = 350 + 70 * (3 + max count 1)

-- a later message ends a pause or a halt of that stock, or a market-wide one
abbrev pub ends_own : Message → Message → Bool
ends_own (State s phase) later = is_of s later && ends (State s phase) later
ends_own message later = ends message later

-- the moment of the first later message that does; none where none does
abbrev pub own_end : Message → List Stamped → Option ℕ
own_end message later = option_map (λ x. x.moment) (find (λ x. ends_own message x.message) later)

-- a bar in a row
unfoldable pub row_bar : List ℕ → ℕ → ℕ → ℕ → List ℕ
row_bar class row left right =
    codes "<rect class=\"" ⊕ class ⊕ codes "\" x=\"" ⊕ decimal left ⊕ codes "\" y=\"" ⊕ decimal (top_of row)
    ⊕ codes "\" width=\"" ⊕ decimal (right - left) ⊕ codes "\" height=\"50\"/>\n"

-- a market-wide halt is grey over all rows
unfoldable pub level_stretch : ℕ → ℕ → ℕ → List ℕ
level_stretch bottom left right =
    codes "<rect class=\"behind\" x=\"" ⊕ decimal left ⊕ codes "\" y=\"300\" width=\"" ⊕ decimal (right - left) ⊕ codes "\" height=\""
    ⊕ decimal (bottom - 300) ⊕ codes "\"/>\n"

-- words stand behind its bar, and on the right of the picture before it
unfoldable pub level_words : ℕ → ℕ → ℕ → List ℕ → List ℕ
level_words row left right words =
    if nat_le right 5600 then label_text (label Plain (right + 15) (top_of row + 43) words (codes "\n"))
    else label_text (label Before (left - 15) (top_of row + 43) words (codes "\n"))

-- all that a market-wide halt draws, under words for its time
unfoldable pub level_mark : ℕ → ℕ → ℕ → ℕ → List ℕ → List ℕ
level_mark bottom row left right words =
    level_stretch bottom left right ⊕ row_bar (codes "breaker") row left right ⊕ level_words row left right words

-- from when to when
unfoldable pub time_words : ℕ → Option ℕ → List ℕ
time_words begin end = time_text begin ⊕ end_text end

-- what a phase draws in its stock's row
abbrev pub phase_mark : Option (List ℕ) → Option ℕ → ℕ → ℕ → List ℕ
phase_mark (Some class) (Some row) left right = row_bar class (3 + row) left right
phase_mark (Some class) None left right = []
phase_mark None row left right = []

-- what a message draws from its moment to its end, else to the last moment that is told
abbrev pub mark : List ℕ → ℕ → Message → ℕ → Option ℕ → List ℕ
mark rows last (State s phase) moment end =
    phase_mark (class_of_phase phase) (position (λ row. row == s) rows) (x_of moment) (right_of last (x_of moment) end)
mark rows last (Breaker level index) moment end =
    level_mark (bottom_of (length rows)) (row_of_level level) (x_of moment) (right_of last (x_of moment) end) (time_words moment end)
mark rows last _ moment end = []

-- all messages, each with those behind it as the later ones
abbrev pub marks : List ℕ → ℕ → List Stamped → List ℕ
marks rows last [] = []
marks rows last (x ∷ later) = mark rows last x.message x.moment (own_end x.message later) ⊕ marks rows last later

-- the name of a row: the stock by its id and its name
unfoldable pub row_name : List Stamped → ℕ → ℕ → List ℕ
row_name day at s =
    codes "<text class=\"left\" x=\"770\" y=\"" ⊕ decimal (top_of (3 + at) + 43) ⊕ codes "\">" ⊕ decimal s ⊕ name_text s day ⊕ codes "</text>\n"

-- those of the rows from that one on
abbrev pub row_names : List Stamped → ℕ → List ℕ → List ℕ
row_names day at [] = []
row_names day at (s ∷ rows) = row_name day at s ⊕ row_names day (at + 1) rows

-- where there are none, words say so
unfoldable pub no_rows : ℕ → List ℕ
no_rows count = if count == 0 then codes "<text class=\"time\" x=\"3500\" y=\"583\">no stock was paused or halted</text>\n" else []

-- the names of the levels' rows, a text that stands in the code
unfoldable pub levels_text : List ℕ
levels_text = LEVELS.now

-- the legend, another
unfoldable pub legend : List ℕ
legend = LEGEND.now

-- the frame, and the legend below it
unfoldable pub market_frame : ℕ → List ℕ
market_frame bottom =
    codes "<rect class=\"frame\" x=\"800\" y=\"300\" width=\"5400\" height=\"" ⊕ decimal (bottom - 300) ⊕ codes "\"/>" ⊕ levels_text
    ⊕ codes "<g transform=\"translate(0 " ⊕ decimal bottom ⊕ codes ")\">" ⊕ legend ⊕ codes "</g>\n"

-- the market-wide halts in words, and how many stocks were paused or halted
unfoldable pub market_description : ℕ → List Stamped → ℕ → List ℕ
market_description last day count =
    codes "Market-wide halts, and the pauses and halts of each stock that had any, Eastern time. The data ends at " ⊕ time_text last
    ⊕ codes ". Stocks that were paused or halted: " ⊕ decimal count ⊕ codes "."
    ⊕ sentences (stops_of (filter (λ x. is_market x.message) day))

-- the head of the picture
unfoldable pub market_head : List ℕ → ℕ → List Stamped → ℕ → List ℕ
market_head title last day count =
    opening (bottom_of count + 330) title (market_description last day count)
    ⊕ page (bottom_of count + 330) title (codes "market-wide halts, and each stock that was paused or halted, Eastern time")
    ⊕ market_frame (bottom_of count)

-- the picture of a day with those rows, up to the last moment
unfoldable pub market_drawing : List ℕ → ℕ → List Stamped → List ℕ → List ℕ
market_drawing title last day rows =
    market_head title last day (length rows) ⊕ time_ticks (bottom_of (length rows)) ⊕ data_end (bottom_of (length rows)) last
    ⊕ row_names day 0 rows ⊕ no_rows (length rows) ⊕ marks rows last day ⊕ codes "</svg>\n"

-- the picture of the market's day
abbrev pub market_picture : Option ℕ → Days → List ℕ
market_picture wanted days =
    market_drawing (codes "Market" ⊕ day_words wanted days) (last_moment days.messages) days.messages (rows_of days.messages)
