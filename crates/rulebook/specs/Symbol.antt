-- What a history says of one symbol (LULD Plan). Each value is found by searching back from the newest event.
use Rattle.std.specs.Prelude.{ℕ, Bool, true, false, Option, Some, None, List, [], ◌∷◌, ◌++◌, ◌+◌, ◌==◌, nat_lt, if◌then◌else◌, not, ◌&&◌, is_some, unwrap_or, option_map, option_and_then}
use Rattle.std.specs.List.{list_any}
use Rattle.std.specs.Option.{option_map_or}
use Rattle.price_core.specs.declared.quote.Bands.{Bands}
use Rattle.price_core.specs.declared.quote.Cause.{Cause}
use Rattle.price_core.specs.declared.quote.Cause.TheVariants as cause
use Rattle.price_core.specs.declared.quote.Quotation.{Quotation}
use Rattle.session_core.specs.declared.day.Day.{Day}
use Rattle.session_core.specs.declared.state.Phase.{Phase}
use Rattle.session_core.specs.declared.state.Phase.TheVariants.{Shut}
use Rattle.session_core.specs.Durations.{five_minutes}
use Rattle.wire_in.specs.declared.record.NoticeKind.TheVariants as notice
use Rattle.wire_in.specs.declared.record.Record.{Record}
use Rattle.wire_in.specs.declared.record.Record.TheVariants as in_
use Rattle.wire_in.specs.Records.{moment_of}
use Rattle.wire_out.specs.declared.message.Message.{Message}
use Rattle.wire_out.specs.declared.message.Message.TheVariants as out
use Rattle.eligible_core.specs.Conditions.{eligible, is_opening_trade}
use Rattle.percent_core.specs.Percentages.{category, span, percent}
use Rattle.percent_core.specs.PriceBands.{bands}
use Rattle.window_core.specs.declared.window.Deal.{Deal}
use Rattle.window_core.specs.Deals.{live, mean_of}
use Rattle.pause_core.specs.Phases.{is_limit, is_trading}
use Rattle.rulebook.specs.declared.symbol.Terms.{Terms}
use Rattle.rulebook.specs.declared.symbol.Banded.{Banded}
use Rattle.rulebook.specs.declared.event.Event.{Event}
use Rattle.rulebook.specs.declared.event.Event.TheVariants.{Accepted, Published}
use Rattle.rulebook.specs.History.{Found, now, newest, step_record, today, records, last}

-- Listings

-- Which names are a symbol's is a test: in a whole history the names with its id, in a history of it alone every name.

-- the last listing since the last day record
abbrev pub terms_in : (List ℕ → Bool) → List Record → Option Terms
terms_in own [] = None
terms_in own (in_.Day t day close ∷ earlier) = None
terms_in own (in_.Listing t name tier leverage prior_close ∷ earlier) =
    if own name then Some (record { tier = tier; leverage = leverage; prior_close = prior_close }) else terms_in own earlier
terms_in own (x ∷ earlier) = terms_in own earlier

-- today's listing
abbrev pub terms : List Event → (List ℕ → Bool) → Option Terms
terms h own = terms_in own (records h)

-- the prior close of a listing
abbrev pub prior_close_of : Option Terms → Option ℕ
prior_close_of listed = option_and_then (λ terms. terms.prior_close) listed

-- the prior close that today's listing gives
abbrev pub prior_close : List Event → (List ℕ → Bool) → Option ℕ
prior_close h own = prior_close_of (terms h own)

-- Phases

-- the phase of a state message of s
abbrev pub state_of : ℕ → Message → Option Phase
state_of s (out.State symbol phase) = if symbol == s then Some phase else None
state_of s m = None

-- the last state message of s today
abbrev pub last_state : List Event → ℕ → Option (Found Phase)
last_state h s = last (state_of s) (today h)

-- the phase that these events leave s in
abbrev pub phase_in : ℕ → List Event → Phase
phase_in s h = option_map_or (λ state. state.value) (last (state_of s) h) Shut

-- the phase of s
abbrev pub phase : List Event → ℕ → Phase
phase h s = phase_in s (today h)

-- the moment of that message
abbrev pub since : List Event → ℕ → ℕ
since h s = option_map_or (λ state. state.moment) (last_state h s) 0

-- Runs: a run begins where trading begins other than out of a limit state

-- a message that begins a run of s, after these events
abbrev pub begins_run : ℕ → Message → List Event → Bool
begins_run s m h = option_map_or is_trading (state_of s m) false && not (is_limit (phase_in s h))

-- the events of the last run: the record of the step that began it, and what came from there on
abbrev pub run_in : ℕ → List Event → Option (List Event)
run_in s [] = None
run_in s (Accepted x ∷ h) = option_map (λ run. Accepted x ∷ run) (run_in s h)
run_in s (Published m ∷ h) =
    if begins_run s m h then Some (Published m ∷ step_record h) else option_map (λ run. Published m ∷ run) (run_in s h)

-- the events of today's last run
abbrev pub run : List Event → ℕ → List Event
run h s = unwrap_or (run_in s (today h)) []

-- the moment at which the last run began
abbrev pub begun_in : ℕ → List Event → Option ℕ
begun_in s [] = None
begun_in s (Accepted x ∷ h) = begun_in s h
begun_in s (Published m ∷ h) = if begins_run s m h then Some (now h) else begun_in s h

-- the moment at which today's last run began
abbrev pub begun : List Event → ℕ → ℕ
begun h s = unwrap_or (begun_in s (today h)) 0

-- Quotations

-- the last quotation of s among these events
abbrev pub quote_in : ℕ → List Event → Option Quotation
quote_in s [] = None
quote_in s (Accepted (in_.Quote t symbol bid offer x y) ∷ h) = if symbol == s then Some (record { bid = bid; offer = offer }) else quote_in s h
quote_in s (e ∷ h) = quote_in s h

-- the last quotation of the run
abbrev pub quote : List Event → ℕ → Option Quotation
quote h s = quote_in s (run h s)

-- Price bands

-- the bands of a band message of s
abbrev pub band_of : ℕ → Message → Option Banded
band_of s (out.Band symbol c reference lower upper) =
    if symbol == s then Some (record { cause = c; reference = reference; bands = record { lower = lower; upper = upper } }) else None
band_of s m = None

-- bands that the time of day changed
abbrev pub is_times : Cause → Bool
is_times cause.Times = true
is_times c = false

-- bands that came with a new reference price
abbrev pub adoption_of : ℕ → Message → Option Banded
adoption_of s m = option_and_then (λ b. if is_times b.cause then None else Some b) (band_of s m)

-- the run's last bands
abbrev pub last_band : List Event → ℕ → Option Banded
last_band h s = option_map (λ b. b.value) (last (band_of s) (run h s))

-- the moment at which the run last took a reference price
abbrev pub adopted : List Event → ℕ → ℕ
adopted h s = option_map_or (λ b. b.moment) (last (adoption_of s) (run h s)) 0

-- the bands that a reference price gives at a moment of the day
abbrev pub bands_of : Terms → Day → ℕ → ℕ → Bands
bands_of listed day t reference =
    let c = category listed.prior_close in
    bands reference c (percent day.profile listed.tier c (span t day)) listed.leverage

-- Trades

-- the price of a record that is an eligible trade of s
abbrev pub traded_price : Day → ℕ → Record → Option ℕ
traded_price day s (in_.Trade t symbol number price size flags) = if (symbol == s) && eligible flags t day then Some price else None
traded_price day s x = None

-- the price of a record that is an eligible opening trade of s
abbrev pub opening_price : Day → ℕ → Record → Option ℕ
opening_price day s (in_.Trade t symbol number price size flags) =
    if (symbol == s) && eligible flags t day && is_opening_trade flags then Some price else None
opening_price day s x = None

-- an eligible opening trade of s before a moment
abbrev pub opens_before : Day → ℕ → ℕ → Record → Bool
opens_before day s end x = is_some (opening_price day s x) && nat_lt (moment_of x) end

-- a message of bands of s, the first after these events
abbrev pub is_first_band : ℕ → Message → List Event → Bool
is_first_band s m h = is_some (band_of s m) && not (is_some (last (band_of s) h))

-- the events of a run whose trades count: from the opening trade on, where it gave the first bands before this moment, else all
abbrev pub counted_in : Day → ℕ → ℕ → List Event → List Event
counted_in day s end [] = []
counted_in day s end (Accepted x ∷ h) = Accepted x ∷ counted_in day s end h
counted_in day s end (Published m ∷ h) =
    if is_first_band s m h && option_map_or (opens_before day s end) (newest h) false
    then Published m ∷ step_record h
    else Published m ∷ counted_in day s end h

-- the events of the run whose trades count
abbrev pub counted : Day → List Event → ℕ → List Event
counted day h s = counted_in day s (begun h s + five_minutes) (run h s)

-- a record that cancels the trade of that number
abbrev pub cancels : ℕ → ℕ → Record → Bool
cancels s number (in_.Cancel t symbol cancelled) = (symbol == s) && (cancelled == number)
cancels s number x = false

-- The eligible trades of s among these events that none of the records that came later has cancelled, the oldest first.
abbrev pub deals_in : Day → ℕ → List Record → List Event → List Deal
deals_in day s later [] = []
deals_in day s later (Published m ∷ h) = deals_in day s later h
deals_in day s later (Accepted (in_.Trade moment symbol number price size flags) ∷ h) =
    if (symbol == s) && eligible flags moment day && not (list_any (cancels s number) later)
    then deals_in day s later h ++ record { moment = moment; number = number; price = price } ∷ []
    else deals_in day s later h
deals_in day s later (Accepted x ∷ h) = deals_in day s (x ∷ later) h

-- the trades that count
abbrev pub deals_of : Day → List Event → ℕ → List Deal
deals_of day h s = deals_in day s [] (counted day h s)

-- the mean of those of the last five minutes
abbrev pub mean : Day → List Event → ℕ → Option ℕ
mean day h s = mean_of (live (now h) (deals_of day h s))

-- Straddles and notices

-- whether a straddle message of s is on
abbrev pub straddle_of : ℕ → Message → Option Bool
straddle_of s (out.Straddle symbol on) = if symbol == s then Some on else None
straddle_of s m = None

-- whether the last straddle message of s today is on
abbrev pub was_straddling : List Event → ℕ → Bool
was_straddling h s = option_map_or (λ straddle. straddle.value) (last (straddle_of s) (today h)) false

-- whether the last halt notice of s among these records has no resume notice after it
abbrev pub is_under_regulatory_halt_in : ℕ → List Record → Bool
is_under_regulatory_halt_in s [] = false
is_under_regulatory_halt_in s (in_.Notice t symbol notice.Halt ∷ earlier) = if symbol == s then true else is_under_regulatory_halt_in s earlier
is_under_regulatory_halt_in s (in_.Notice t symbol notice.Resume ∷ earlier) = if symbol == s then false else is_under_regulatory_halt_in s earlier
is_under_regulatory_halt_in s (x ∷ earlier) = is_under_regulatory_halt_in s earlier

-- a regulatory halt is in effect
abbrev pub is_under_regulatory_halt : List Event → ℕ → Bool
is_under_regulatory_halt h s = is_under_regulatory_halt_in s (records (today h))
