-- The rules of one symbol, in the order in which each step tries them. A rule reads the open history, with what the rules
-- before it published, and gives the messages that it publishes.
use Rattle.std.specs.Prelude.{ℕ, Bool, true, false, Option, Some, None, List, [], ◌∷◌, ◌++◌, ◌+◌, ◌==◌, if◌then◌else◌, not, ◌&&◌, ◌||◌, option_map}
use Rattle.std.specs.Option.{option_map_or}
use Rattle.price_core.specs.declared.quote.Bands.{Bands}
use Rattle.price_core.specs.declared.quote.Collars.{Collars}
use Rattle.price_core.specs.declared.quote.Cause.{Cause}
use Rattle.price_core.specs.declared.quote.Cause.TheVariants as cause
use Rattle.price_core.specs.declared.quote.Quotation.{Quotation}
use Rattle.session_core.specs.declared.day.Day.{Day}
use Rattle.session_core.specs.declared.state.Phase.{Phase}
use Rattle.session_core.specs.declared.state.Phase.TheVariants.{Trading, LimitLow, LimitHigh, Closing}
use Rattle.session_core.specs.Times.{in_session, is_closed, in_last_10_minutes}
use Rattle.wire_in.specs.declared.record.NoticeKind.TheVariants as notice
use Rattle.wire_in.specs.declared.record.Record.{Record}
use Rattle.wire_in.specs.declared.record.Record.TheVariants as in_
use Rattle.wire_in.specs.Records.{is_day}
use Rattle.wire_out.specs.declared.message.Message.{Message}
use Rattle.wire_out.specs.declared.message.Message.TheVariants as out
use Rattle.wire_out.specs.declared.message.ShortKind.TheVariants.{Triggered}
use Rattle.refprice_core.specs.declared.reference.Adoption.{Adoption}
use Rattle.refprice_core.specs.declared.reference.Priced.{Priced}
use Rattle.refprice_core.specs.Prices.{because, forced}
use Rattle.refprice_core.specs.Prices as prices
use Rattle.limit_core.specs.Limits.{is_at_lower, is_at_upper, straddles}
use Rattle.limit_core.specs.Timers.{has_lasted}
use Rattle.pause_core.specs.declared.turning.Brakes.{Brakes}
use Rattle.pause_core.specs.Pauses as pausing
use Rattle.pause_core.specs.Phases.{is_limit, is_trading}
use Rattle.pause_core.specs.Turns as turns
use Rattle.reopen_core.specs.declared.auction.Round.{Round}
use Rattle.reopen_core.specs.declared.auction.Trial.{Trial}
use Rattle.reopen_core.specs.declared.auction.Trial.TheVariants as trial
use Rattle.reopen_core.specs.Collars.{auction_reference, first_collars}
use Rattle.reopen_core.specs.Trials as trials
use Rattle.short_core.specs.Restriction as restriction
use Rattle.rulebook.specs.declared.symbol.Terms.{Terms}
use Rattle.rulebook.specs.declared.symbol.Banded.{Banded}
use Rattle.rulebook.specs.declared.event.Event.{Event}
use Rattle.rulebook.specs.declared.event.Event.TheVariants.{Accepted, Published}
use Rattle.rulebook.specs.Auction.{last_round, is_paused, origin_of, origin, indication}
use Rattle.rulebook.specs.History.{before_step, records, open_step, last}
use Rattle.rulebook.specs.Market.{is_market_halted, day_record}
use Rattle.rulebook.specs.Symbol.{terms, terms_in, prior_close_of, prior_close, state_of, phase, since, begun, quote, last_band, adopted, bands_of, traded_price, opening_price, mean, was_straddling, is_under_regulatory_halt}

-- What a rule may read: the open history, the symbol and the test of its name, and of the open step the record, its moment
-- and the day.
pub record Context : Type 0 where
  pub history : List Event
  pub symbol : ℕ
  pub own : List ℕ → Bool
  pub newest : Record
  pub moment : ℕ
  pub day : Day

-- the phase of the symbol
abbrev pub phase_now : Context → Phase
phase_now c = phase c.history c.symbol

-- the message of a phase
abbrev pub becomes : Context → Phase → List Message
becomes c p = out.State c.symbol p ∷ []

-- The session close, a market-wide halt (NYSE Rule 7.12), the start of trading, and a regulatory halt.

-- what brakes the symbol: the session, a market-wide halt and a regulatory halt
abbrev pub brakes : Context → Brakes
brakes c = record {
  closed = is_closed c.moment c.day;
  in_session = in_session c.moment c.day;
  stopped = is_market_halted c.history;
  halted = is_under_regulatory_halt c.history c.symbol;
}

-- the phase that such a rule brings, or none
abbrev pub turned : (Phase → Brakes → Option Phase) → Context → List Message
turned rule c = option_map_or (becomes c) (rule (phase_now c) (brakes c)) []

-- the session close: the symbol's day is over
abbrev pub session_close : Context → List Message
session_close c = turned turns.session_close c

-- a market-wide halt
abbrev pub market_halt : Context → List Message
market_halt c = turned turns.market_halt c

-- the start of trading
abbrev pub start : Context → List Message
start c = turned turns.start c

-- a regulatory halt, and its end
abbrev pub regulatory_halt : Context → List Message
regulatory_halt c = turned turns.regulatory_halt c

-- A trading pause: after 15 seconds in a limit state, or in a straddle state when the listing exchange asks for it (LULD Plan,
-- Section VII(A)). In the last ten minutes there is no reopening before the close (Section VII(C)).

-- a notice that asks for a pause of s
abbrev pub asks_to_pause : ℕ → Record → Bool
asks_to_pause s (in_.Notice t symbol notice.PauseNow) = symbol == s
asks_to_pause s x = false

-- the phase has lasted 15 seconds
abbrev pub has_expired : Context → Bool
has_expired c = has_lasted (since c.history c.symbol) c.moment

-- the message of a round's collars
abbrev pub collar : ℕ → ℕ → Collars → List Message
collar s round collars = out.Collar s round collars.lower collars.upper ∷ []

-- the first round of the auction, in a phase that is paused
abbrev pub first_round : Context → Banded → List Message
first_round c b = collar c.symbol 0 (first_collars (origin_of (phase_now c)) b.bands b.reference)

-- a pause has an auction
abbrev pub pause_as : Context → Phase → List Message
pause_as c p = becomes c p ++ (if is_paused p then option_map_or (first_round c) (last_band c.history c.symbol) [] else [])

-- a trading pause
abbrev pub pause : Context → List Message
pause c =
    option_map_or (pause_as c)
    (pausing.pause (has_expired c) (asks_to_pause c.symbol c.newest) (was_straddling c.history c.symbol) (phase_now c) (in_last_10_minutes c.moment c.day))
    []

-- A trial of the reopening auction, five minutes after its last round began (after Nasdaq Rule 4120).

-- what a trial after that round publishes
abbrev pub reopened : Context → ℕ → Trial → List Message
reopened c round trial.NotDue = []
reopened c round (trial.Extend collars) = collar c.symbol (round + 1) collars
reopened c round (trial.Release price) = out.Release c.symbol price ∷ becomes c Trading
reopened c round trial.Closing = becomes c Closing

-- a trial after a round, with the run's last bands
abbrev pub reopen_with : Context → Round → Banded → List Message
reopen_with c round b =
    reopened c round.number
    (trials.trial c.moment (in_last_10_minutes c.moment c.day) round (auction_reference (origin c.history c.symbol) b.bands b.reference) (indication c.history c.symbol))

-- a trial after a round, where the run has bands
abbrev pub reopen_after : Context → Round → List Message
reopen_after c round = option_map_or (reopen_with c round) (last_band c.history c.symbol) []

-- a trial of the reopening auction
abbrev pub reopen : Context → List Message
reopen c = if is_paused (phase_now c) then option_map_or (reopen_after c) (last_round c.history c.symbol) [] else []

-- A limit state is left when the quotation leaves the band (LULD Plan, Section VI(B)).

-- a test of a quotation and price bands, false where one is missing
abbrev pub meets : (Quotation → Bands → Bool) → Option Quotation → Option Banded → Bool
meets test q b = option_map_or (λ b. option_map_or (λ q. test q b.bands) q false) b false

-- at the band of a limit state, false in another phase
abbrev pub at_band : Phase → Option Quotation → Option Banded → Bool
at_band LimitLow q b = meets is_at_lower q b
at_band LimitHigh q b = meets is_at_upper q b
at_band p q b = false

-- whether the run's last quotation is at that side of its last bands
abbrev pub is_at_band : Phase → Context → Bool
is_at_band p c = at_band p (quote c.history c.symbol) (last_band c.history c.symbol)

-- the end of a limit state
abbrev pub leave_limit : Context → List Message
leave_limit c = if is_limit (phase_now c) && not (is_at_band (phase_now c) c) then becomes c Trading else []

-- A new reference price (LULD Plan, Section V(A) and (B)).

-- the first value, else the second
abbrev pub or_else : {X : Type 0} → Option X → Option X → Option X
or_else (Some x) other = Some x
or_else None other = other

-- whether the open step has left a limit state of s
abbrev pub has_left_limit : List Event → ℕ → Bool
has_left_limit [] s = false
has_left_limit (Accepted x ∷ h) s = false
has_left_limit (Published m ∷ h) s = (option_map_or is_trading (state_of s m) false && is_limit (phase h s)) || has_left_limit h s

-- the price of a message that releases s
abbrev pub release_of : ℕ → Message → Option ℕ
release_of s (out.Release symbol price) = if symbol == s then Some price else None
release_of s m = None

-- the price at which the open step released s
abbrev pub released : List Event → ℕ → Option ℕ
released h s = option_map (λ release. release.value) (last (release_of s) (open_step h))

-- a notice that s opens on quotations
abbrev pub opens_on_quotes : ℕ → Record → Bool
opens_on_quotes s (in_.Notice t symbol notice.OpenQuote) = symbol == s
opens_on_quotes s x = false

-- the price that the record offers: that of an opening trade, or the prior close at an opening on quotations
abbrev pub offered : Context → Option ℕ
offered c = or_else (opening_price c.day c.symbol c.newest) (if opens_on_quotes c.symbol c.newest then prior_close c.history c.own else None)

-- the mean of the window
abbrev pub mean_now : Context → Option ℕ
mean_now c = mean c.day c.history c.symbol

-- the price of a release, else the first price of a run
abbrev pub first_price : Context → Option ℕ
first_price c = or_else (released c.history c.symbol) (prices.first_price (begun c.history c.symbol) c.moment (offered c) (mean_now c))

-- the run's last adoption of a reference price
abbrev pub adoption : Context → Banded → Adoption
adoption c b = record { moment = adopted c.history c.symbol; price = b.reference }

-- the new reference price outside the end of a limit state: the first of the run, or one that has moved
abbrev pub later_price : Context → Option Banded → Option Priced
later_price c None = because cause.First (first_price c)
later_price c (Some b) = because cause.Moved (prices.moved_price (adoption c b) c.moment (mean_now c))

-- the new reference price, or none
abbrev pub reference : Context → Option Priced
reference c =
    if not (is_trading (phase_now c)) then None
    else if has_left_limit c.history c.symbol then forced (mean_now c)
    else later_price c (last_band c.history c.symbol)

-- Price bands are published with each new reference price, and where the time of day changes them (LULD Plan, Section V(A)).

-- the message of the bands of a reference price
abbrev pub band : Context → Cause → ℕ → List Message
band c why price =
    option_map_or (λ listed. let b = bands_of listed c.day c.moment price in out.Band c.symbol why price b.lower b.upper ∷ []) (terms c.history c.own) []

-- other bands
abbrev pub differs : Bands → Bands → Bool
differs a b = not ((a.lower == b.lower) && (a.upper == b.upper))

-- the time of day gives other bands to the reference price in force
abbrev pub time_changes : Context → Banded → Bool
time_changes c last = option_map_or (λ listed. differs (bands_of listed c.day c.moment last.reference) last.bands) (terms c.history c.own) false

-- the message of the bands that the time of day changes
abbrev pub band_by_time : Context → Banded → List Message
band_by_time c last = if is_trading (phase_now c) && time_changes c last then band c cause.Times last.reference else []

-- a new reference price with its bands, or bands that the time of day changes
abbrev pub publish_band : Context → List Message
publish_band c =
    elim (reference c) [
      | Some r ↦ band c r.cause r.price
      | None ↦ option_map_or (band_by_time c) (last_band c.history c.symbol) []
    ]

-- A limit state begins where the quotation is at a band (LULD Plan, Section VI(B)).

-- the begin of a limit state
abbrev pub enter_limit : Context → List Message
enter_limit c =
    if not (is_trading (phase_now c)) then []
    else if is_at_band LimitLow c then becomes c LimitLow
    else if is_at_band LimitHigh c then becomes c LimitHigh
    else []

-- A straddle state begins or ends (LULD Plan, Section VII(A)).

-- trading, with a quotation that straddles the bands
abbrev pub is_straddling_now : Context → Bool
is_straddling_now c = is_trading (phase_now c) && meets straddles (quote c.history c.symbol) (last_band c.history c.symbol)

-- the begin of a straddle state, or its end
abbrev pub straddle : Context → List Message
straddle c =
    if is_straddling_now c && not (was_straddling c.history c.symbol) then out.Straddle c.symbol true ∷ []
    else if was_straddling c.history c.symbol && not (is_straddling_now c) then out.Straddle c.symbol false ∷ []
    else []

-- The short sale restriction: an eligible trade at least 10 per cent below the prior close (17 CFR 242.201(b)), for the rest
-- of the day and the following day.

-- whether a record triggers it for s, with this listing
abbrev pub triggers : Day → ℕ → Record → Option Terms → Bool
triggers day s x listed = option_map_or (restriction.triggers (prior_close_of listed)) (traded_price day s x) false

-- whether a record since the last day record triggered it
abbrev pub triggered_in : (List ℕ → Bool) → Day → ℕ → List Record → Bool
triggered_in own day s [] = false
triggered_in own day s (x ∷ earlier) = if is_day x then false else triggers day s x (terms_in own earlier) || triggered_in own day s earlier

-- whether an earlier record of today triggered it
abbrev pub has_triggered : Context → Bool
has_triggered c = triggered_in c.own c.day c.symbol (records (before_step c.history))

-- the first trade of the day that triggers the restriction
abbrev pub restrict : Context → List Message
restrict c =
    if triggers c.day c.symbol c.newest (terms c.history c.own) && not (has_triggered c)
    then out.Short c.symbol Triggered ∷ []
    else []

-- the records before the last day record
abbrev pub before_day : List Record → List Record
before_day [] = []
before_day (x ∷ earlier) = if is_day x then earlier else before_day earlier

-- whether a trade of the day before today triggered it
abbrev pub is_carried : List Event → (List ℕ → Bool) → ℕ → Bool
is_carried h own s =
    let before = before_day (records h) in
    option_map_or (λ day. triggered_in own day.0 s before) (day_record before) false
