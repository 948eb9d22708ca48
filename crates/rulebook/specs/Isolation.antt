-- One symbol alone: its own records and the market-wide ones give its messages.
use Rattle.std.specs.Prelude.{ℕ, Bool, true, false, List, [], ◌∷◌, ◌==◌, if◌then◌else◌, filter, ◌||◌}
use Rattle.std.specs.List.{list_any}
use Rattle.std.specs.Option.{option_map_or}
use Rattle.wire_in.specs.declared.record.Record.{Record}
use Rattle.wire_in.specs.Records.{is_day, is_tick, name_of}
use Rattle.wire_out.specs.declared.message.Message.{Message}
use Rattle.wire_out.specs.declared.message.Message.TheVariants.{Listed, State, Band, Straddle, Collar, Release, Short, Breaker, MarketResume}
use Rattle.wire_out.specs.declared.message.Stamped.{Stamped}
use Rattle.rulebook.specs.declared.event.Event.{Event}
use Rattle.rulebook.specs.declared.event.Event.TheVariants.{Accepted}
use Rattle.rulebook.specs.Admission.{since_day}
use Rattle.rulebook.specs.Book.{Named, evaluate, evaluate_own, evaluate_market, target}
use Rattle.rulebook.specs.History.{records}

-- whether a record is market-wide or of s, by the ids of a whole list
abbrev pub concerns : List Record → ℕ → Record → Bool
concerns accepted s x = is_day x || is_tick x || option_map_or (λ id. id == s) (target accepted x) false

-- the records of s and the market-wide ones
abbrev pub view : List Record → ℕ → List Record
view accepted s = filter (concerns accepted s) accepted

-- in a view each listing is of the symbol
abbrev pub isolated : ℕ → Named
isolated s = record { symbol = s; own = λ name. true }

-- a listing of any name
abbrev pub is_listing : Record → Bool
is_listing x = option_map_or (λ name. true) (name_of x) false

-- whether the symbol of a view is listed today
abbrev pub is_listed_in_view : List Record → Bool
is_listed_in_view v = list_any is_listing (since_day v)

-- a step of the history of a view
abbrev pub isolated_step : ℕ → Record → List Event → List Event
isolated_step s x h =
    if is_day x then h
    else if is_tick x then (if is_listed_in_view (records h) then evaluate x (isolated s) (evaluate_market x h) else evaluate_market x h)
    else evaluate_own x (isolated s) h

-- the history of a view, with the market's messages and those of s
abbrev pub isolated_history : ℕ → List Record → List Event
isolated_history s [] = []
isolated_history s (x ∷ earlier) = isolated_step s x (Accepted x ∷ isolated_history s earlier)

-- whether a message is the market's or of s
abbrev pub is_for : ℕ → Message → Bool
is_for s (Listed symbol name) = symbol == s
is_for s (State symbol phase) = symbol == s
is_for s (Band symbol why reference lower upper) = symbol == s
is_for s (Straddle symbol on) = symbol == s
is_for s (Collar symbol round lower upper) = symbol == s
is_for s (Release symbol price) = symbol == s
is_for s (Short symbol kind) = symbol == s
is_for s (Breaker level index) = true
is_for s MarketResume = true

-- the market's messages and those of s
abbrev pub for_symbol : ℕ → List Stamped → List Stamped
for_symbol s ms = filter (λ m. is_for s m.message) ms
