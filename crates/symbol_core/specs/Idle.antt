-- When a clock or an index tick finds nothing to say of a symbol. Private words: no public clause cites them.
use Rattle.std.specs.Prelude.{◌≡◌, ◌+◌, ◌++◌, ◌<◌, ◌≤◌, ℕ, Bool, true, false, if◌then◌else◌, nat_lt, Option, Some, None, List, [], ◌&&◌, ◌||◌, not, is_some, option_to_list}
use Rattle.std.specs.Option.{option_map_or}
use Rattle.price_core.specs.declared.quote.Cause.TheVariants.{Moved}
use Rattle.price_core.specs.declared.quote.Quotation.{Quotation}
use Rattle.session_core.specs.declared.day.Day.{Day}
use Rattle.session_core.specs.declared.state.Phase.TheVariants.{LimitLow, LimitHigh}
use Rattle.session_core.specs.Durations.{five_minutes}
use Rattle.session_core.specs.Times.{in_session, is_closed}
use Rattle.wire_in.specs.declared.record.Record.{Record}
use Rattle.wire_in.specs.declared.record.Record.TheVariants as in_
use Rattle.wire_in.specs.Records.{is_tick, moment_of}
use Rattle.limit_core.specs.Timers.{has_lasted}
use Rattle.pause_core.specs.Phases.{can_market_halt, can_start, is_done, is_in_regulatory_halt, is_limit, is_trading}
use Rattle.refprice_core.specs.Prices.{moved_price}
use Rattle.window_core.specs.declared.window.Deal.{Deal}
use Rattle.window_core.specs.Deals.{live, mean_of}
use Rattle.rulebook.specs.Rules.{asks_to_pause, at_band}
use Rattle.symbol_core.specs.declared.due.Due.{Due}
use Rattle.symbol_core.specs.declared.state.Kept.{Kept}
use Rattle.symbol_core.specs.declared.state.Step.{Step}
use Rattle.symbol_core.specs.declared.symbol.MarketView.{MarketView}
use Rattle.symbol_core.specs.InStep.{InStep, at_rest, in_step, just_opened}
use Rattle.symbol_core.specs.Kept.{straddles_at}
use Rattle.symbol_core.specs.Pricing.{reference, time_changes}
use Rattle.symbol_core.specs.Runs.{run_band, run_quote, run_reference}
use Rattle.symbol_core.specs.Steps.{step_for}
use Rattle.symbol_core.specs.Taken.{cancelled_by, deal_of, taken, triggers_by}
use Rattle.symbol_core.specs.Window.{window}

-- in a limit state whose band that quotation has left
abbrev pub leaves_limit : Kept → Option Quotation → Bool
leaves_limit k quote = is_limit k.phase && not (at_band k.phase quote (run_band k))

-- no rule says anything at a tick, whatever its time, where that is the run's quotation
pub record IsSettledAt (k : Kept) (quote : Option Quotation) (stopped : Bool) : Type 0 where
  pub runs : (stopped && can_market_halt k.phase) ≡ false
  pub halted : k.halted ≡ is_in_regulatory_halt k.phase
  pub stays : leaves_limit k quote ≡ false
  pub low : (is_trading k.phase && at_band LimitLow quote (run_band k)) ≡ false
  pub high : (is_trading k.phase && at_band LimitHigh quote (run_band k)) ≡ false
  pub straddles : straddles_at k quote ≡ k.straddling

-- the same with the quotation that there is
abbrev pub IsSettled : Kept → Bool → Type 0
IsSettled k stopped = IsSettledAt k (run_quote k) stopped

-- What each rule that waits for a time says nothing before.

abbrev pub ClosesFrom : Day → ℕ → Type 0
ClosesFrom day until = (u : ℕ) → u < until → is_closed u day ≡ false

abbrev pub starts_at : Kept → Day → Bool → ℕ → Bool
starts_at k day stopped u = can_start k.phase && (in_session u day && not stopped)

abbrev pub StartsFrom : Kept → Day → Bool → ℕ → Type 0
StartsFrom k day stopped until = (u : ℕ) → u < until → starts_at k day stopped u ≡ false

abbrev pub pauses_at : Kept → ℕ → Bool
pauses_at k u = is_limit k.phase && has_lasted k.since u

abbrev pub PausesFrom : Kept → ℕ → Type 0
PausesFrom k until = (u : ℕ) → u < until → pauses_at k u ≡ false

abbrev pub reopens_at : Kept → ℕ → Bool
reopens_at k u = option_map_or (λ auction. not (nat_lt u (auction.round.moment + five_minutes))) k.auction false

abbrev pub ReopensFrom : Kept → ℕ → Type 0
ReopensFrom k until = (u : ℕ) → u < until → reopens_at k u ≡ false

-- whether time gives other bands than the last ones
abbrev pub changes_bands : Kept → Step → Bool
changes_bands k step = is_trading k.phase && option_map_or (time_changes k step) (run_band k) false

abbrev pub ChangesBandsFrom : Kept → Day → ℕ → ℕ → Type 0
ChangesBandsFrom k day from until = (step : Step) → step.day ≡ day → from ≤ step.moment → step.moment < until → changes_bands k step ≡ false

-- a new reference price at a tick
abbrev pub PricesFrom : Kept → List Deal → ℕ → ℕ → Type 0
PricesFrom k deals from until = (step : Step) → is_tick step.input ≡ true → from ≤ step.moment → step.moment < until → reference (at_rest k) step (mean_of (live step.moment deals)) ≡ None

-- from a moment of a day on and before another, time brings nothing but perhaps a new reference price
pub record Waits (k : Kept) (day : Day) (stopped : Bool) (from until : ℕ) : Type 0 where
  pub closes : ClosesFrom day until
  pub starts : StartsFrom k day stopped until
  pub pauses : PausesFrom k until
  pub reopens : ReopensFrom k until
  pub bands : ChangesBandsFrom k day from until

-- no rule says anything at the open step
pub record IsQuiet (k : InStep) (deals : List Deal) (step : Step) : Type 0 where
  pub settled : IsSettled k.kept step.stopped
  pub closes : is_closed step.moment step.day ≡ false
  pub starts : starts_at k.kept step.day step.stopped step.moment ≡ false
  pub pauses : pauses_at k.kept step.moment ≡ false
  pub asks : asks_to_pause k.kept.id step.input ≡ false
  pub reopens : reopens_at k.kept step.moment ≡ false
  pub prices : reference k step (mean_of (live step.moment (window k deals))) ≡ None
  pub bands : changes_bands k.kept step ≡ false
  pub restricts : k.opened.restricts ≡ false

-- a quotation, a trade, a clock or an index tick
abbrev pub comes_often : Record → Bool
comes_often (in_.Quote t symbol bid offer x y) = true
comes_often (in_.Trade t symbol number price size flags) = true
comes_often (in_.IndexTick t value) = true
comes_often (in_.Clock t) = true
comes_often x = false

-- nor does it at the open step of such a record
pub record WaitsAt (k : Kept) (step : Step) (until : ℕ) : Type 0 where
  pub often : comes_often step.input ≡ true
  pub later : step.moment < until
  pub waits : Waits k step.day step.stopped step.moment until

-- ticks of that market from that moment on and before the other find nothing to say
pub record IsIdle (k : Kept) (deals : List Deal) (due : Due) : Type 0 where
  pub settled : IsSettled k due.market.stopped
  pub waits : Waits k due.market.day due.market.stopped due.from due.waits
  pub within : due.until ≤ due.waits
  pub prices : PricesFrom k deals due.from due.until

-- its day is over, or it isn't listed today
abbrev pub is_out : Kept → Bool
is_out k = is_done k.phase || not (is_some k.terms)

abbrev pub IsDue : Option Due → Kept → List Deal → Type 0
IsDue None k deals = Unit {0}
IsDue (Some due) k deals = is_out k ≡ false → IsIdle k deals due

-- a trade, a clock or an index tick
abbrev pub brings_deal_or_time : Record → Bool
brings_deal_or_time (in_.Trade t symbol number price size flags) = true
brings_deal_or_time (in_.IndexTick t value) = true
brings_deal_or_time (in_.Clock t) = true
brings_deal_or_time x = false

-- a mean is no new reference price at a moment: the stock isn't trading, or its run has a reference price that stays
abbrev pub keeps_price : Kept → ℕ → Option ℕ → Bool
keeps_price k t mean = not (is_trading k.phase) || option_map_or (λ last. not (is_some (moved_price last t mean))) (run_reference k).last false

-- no rule says anything at a moment, and from then on until another only a new reference price can come
pub record IsStill (k : Kept) (due : Due) : Type 0 where
  pub settled : IsSettled k due.market.stopped
  pub waits : Waits k due.market.day due.market.stopped due.from due.waits

-- a stock that is trading has a reference price
abbrev pub has_price : Kept → Bool
has_price k = is_some (run_reference k).last || not (is_trading k.phase)

-- at a trade or a tick only another reference price can come, and a deal that counts and isn't the first of the day to trigger
-- the short sale restriction
pub record IsAwaited (k : Kept) (market : MarketView) (x : Record) (deal : Option Deal) : Type 0 where
  pub kind : brings_deal_or_time x ≡ true
  pub inside : is_out k ≡ false
  pub settled : IsSettled k market.stopped
  pub until : ℕ
  pub later : moment_of x < until
  pub waits : Waits k market.day market.stopped (moment_of x) until
  pub own : deal ≡ deal_of market.day k.id x
  pub priced : has_price k ≡ true
  pub counts : (if is_some k.run then option_to_list deal else []) ≡ option_to_list deal
  pub restricts : (triggers_by k.short.prior_close deal && not k.short.triggered) ≡ false

-- at a record, once it is taken in, only another reference price can come, and a deal that counts
pub record MayMove (k : Kept) (market : MarketView) (x : Record) (deal : Option Deal) : Type 0 where
  pub often : comes_often x ≡ true
  pub settled : IsSettled k market.stopped
  pub until : ℕ
  pub later : moment_of x < until
  pub waits : Waits k market.day market.stopped (moment_of x) until
  pub recent : live (moment_of x) (option_to_list deal) ≡ option_to_list deal
  pub priced : has_price k ≡ true
  pub counts : (if is_some k.run then option_to_list deal else []) ≡ option_to_list deal

-- all that a record leaves for the rules, once it is taken in, is its deal
pub record HasTaken (was k : Kept) (market : MarketView) (x : Record) (deal : Option Deal) : Type 0 where
  pub takes : taken was (step_for market x) ≡ in_step k (just_opened deal false)
  pub cancels : cancelled_by was.id x ≡ None

-- at an open step no rule before that of the bands says anything
pub record AwaitsPrice (k : Kept) (step : Step) : Type 0 where
  pub trading : is_trading k.phase ≡ true
  pub settled : IsSettled k step.stopped
  pub until : ℕ
  pub waits : WaitsAt k step until

-- the mean of the kept deals and the open step's own is a new reference price in place of the last one
pub record MeanMoves (k : InStep) (deals : List Deal) (step : Step) : Type 0 where
  pub price : ℕ
  pub mean : mean_of (live step.moment (deals ++ option_to_list k.opened.deal)) ≡ Some price
  pub prices : reference k step (mean_of (live step.moment (window k deals))) ≡ Some (record { cause = Moved; price = price })

-- a trading stock is in a limit state where its quotation is at a band, and else trades on
pub record HasEntered (old new : Kept) : Type 0 where
  pub quote : run_quote new ≡ run_quote old
  pub band : run_band new ≡ run_band old
  pub halted : new.halted ≡ old.halted
  pub no_halt : is_in_regulatory_halt new.phase ≡ false
  pub stays : leaves_limit new (run_quote new) ≡ false
  pub low : (is_trading new.phase && at_band LimitLow (run_quote new) (run_band new)) ≡ false
  pub high : (is_trading new.phase && at_band LimitHigh (run_quote new) (run_band new)) ≡ false
