-- Reopening auctions (after Nasdaq Rule 4120): what a history says of the last one of a symbol.
use Rattle.std.specs.Prelude.{ℕ, Bool, true, false, Option, Some, None, List, [], ◌∷◌, ◌==◌, if◌then◌else◌, option_map, option_and_then}
use Rattle.std.specs.Option.{option_map_or}
use Rattle.price_core.specs.declared.quote.Collars.{Collars}
use Rattle.session_core.specs.declared.state.Phase.{Phase}
use Rattle.session_core.specs.declared.state.Phase.TheVariants.{Paused, LimitLow, LimitHigh}
use Rattle.wire_in.specs.declared.record.Record.{Record}
use Rattle.wire_in.specs.declared.record.Record.TheVariants as in_
use Rattle.wire_out.specs.declared.message.Message.{Message}
use Rattle.wire_out.specs.declared.message.Message.TheVariants as out
use Rattle.reopen_core.specs.declared.auction.Indication.{Indication}
use Rattle.reopen_core.specs.declared.auction.Origin.{Origin}
use Rattle.reopen_core.specs.declared.auction.Origin.TheVariants.{Low, High, Straddle}
use Rattle.reopen_core.specs.declared.auction.Round.{Round}
use Rattle.rulebook.specs.declared.event.Event.{Event}
use Rattle.rulebook.specs.declared.event.Event.TheVariants.{Accepted, Published}
use Rattle.rulebook.specs.History.{Found, newest, today, last}
use Rattle.rulebook.specs.Symbol.{state_of, phase_in}

-- a round's number and its collars
abbrev pub collar_of : ℕ → Message → Option (ℕ × Collars)
collar_of s (out.Collar symbol round lower upper) = if symbol == s then Some (round, record { lower = lower; upper = upper }) else None
collar_of s m = None

-- a round with the moment of its message
abbrev pub round_of : Found (ℕ × Collars) → Round
round_of found = record { number = found.value.0; moment = found.moment; collars = found.value.1 }

-- today's last round of s
abbrev pub last_round : List Event → ℕ → Option Round
last_round h s = option_map round_of (last (collar_of s) (today h))

-- in a trading pause with an auction
abbrev pub is_paused : Phase → Bool
is_paused Paused = true
is_paused p = false

-- a message that s is paused
abbrev pub pauses : ℕ → Message → Bool
pauses s m = option_map_or is_paused (state_of s m) false

-- what a pause out of that phase comes from
abbrev pub origin_of : Phase → Origin
origin_of LimitLow = Low
origin_of LimitHigh = High
origin_of p = Straddle

-- what the last pause of s came from
abbrev pub origin_in : ℕ → List Event → Origin
origin_in s [] = Straddle
origin_in s (Accepted x ∷ h) = origin_in s h
origin_in s (Published m ∷ h) = if pauses s m then origin_of (phase_in s h) else origin_in s h

-- what today's last pause of s came from
abbrev pub origin : List Event → ℕ → Origin
origin h s = origin_in s (today h)

-- the indication of a record of s
abbrev pub indicated_by : ℕ → Record → Option Indication
indicated_by s (in_.Indication t symbol price unmatched) = if symbol == s then Some (record { price = price; unmatched = unmatched }) else None
indicated_by s x = None

-- the last indication of s, from the record of the step of the last pause on
abbrev pub indication_in : ℕ → List Event → Option Indication
indication_in s [] = None
indication_in s (Accepted x ∷ h) = elim (indicated_by s x) [ Some i ↦ Some i | None ↦ indication_in s h ]
indication_in s (Published m ∷ h) = if pauses s m then option_and_then (indicated_by s) (newest h) else indication_in s h

-- the last indication of s since today's last pause
abbrev pub indication : List Event → ℕ → Option Indication
indication h s = indication_in s (today h)
