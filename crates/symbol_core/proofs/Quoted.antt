-- A stock in a run that takes a quotation in at which no rule says anything.
use Rattle.std.proofs.Common.{arith, ◌≡◌, ℕ, ◌<◌, ◌≤◌, Bool, true, false, List, refl, sym, ap, ◌∙◌, subst}
use Rattle.std.specs.Prelude.{Option, Some, None, filter, is_some, option_map}
use Rattle.price_core.specs.declared.quote.Quotation.{Quotation}
use Rattle.wire_in.specs.declared.record.Record.{Record}
use Rattle.wire_in.specs.declared.record.Record.TheVariants as in_
use Rattle.wire_in.specs.Records.{moment_of}
use Rattle.wire_out.specs.declared.message.Message.{Message}
use Rattle.window_core.specs.declared.window.Deal.{Deal}
use Rattle.window_core.specs.Deals.{live, mean_of}
use Rattle.window_core.proofs.Deals.{live-live}
use Rattle.symbol_core.specs.declared.due.Due.{Due}
use Rattle.symbol_core.specs.declared.state.Kept.{Kept}
use Rattle.symbol_core.specs.declared.state.Run.{Run}
use Rattle.symbol_core.specs.declared.state.Step.{Step}
use Rattle.symbol_core.specs.declared.symbol.MarketView.{MarketView}
use Rattle.symbol_core.specs.Evaluates.{Evaluates}
use Rattle.symbol_core.specs.Idle.{IsDue, IsIdle, IsQuiet, IsSettled, IsSettledAt, WaitsAt, changes_bands, is_out}
use Rattle.symbol_core.specs.InStep.{at_rest}
use Rattle.symbol_core.specs.Kept.{quoted_by, requoted, with_quote}
use Rattle.symbol_core.specs.Pricing.{reference}
use Rattle.symbol_core.specs.Rests.{SymbolState}
use Rattle.symbol_core.specs.Steps.{Steps, step_for}
use Rattle.symbol_core.specs.Taken.{leaves, taken}
use Rattle.symbol_core.specs.Ticks.{Idles}
use Rattle.symbol_core.specs.Window.{SameLive, window}
use Rattle.symbol_core.proofs.Cancels.{leaves-all}
use Rattle.symbol_core.proofs.Evaluated.{step-evaluated}
use Rattle.symbol_core.proofs.Quiet.{speaks-quiet, waits-due, waits-taken}
use Rattle.symbol_core.proofs.Runs.{run_keeps}
use Rattle.symbol_core.proofs.Steps.{step-evaluates}
use Rattle.symbol_core.proofs.Unmoved.{window_rested}

-- a stock that is due is settled over the same market
pub settled-market : (k : Kept) (deals : List Deal) (due : Due) (market : MarketView) → IsDue (Some due) k deals → is_out k ≡ false → market ≡ due.market → IsSettled k market.stopped
settled-market k deals due market is inside same = let idle = is inside in subst (λ (m : MarketView). IsSettled k m.stopped) (sym same) idle.settled

-- the symbol once a quotation of its run is taken in at a moment, and nothing else
abbrev pub quoted : SymbolState → ℕ → Quotation → SymbolState
quoted held t quote = record { kept = with_quote held.kept quote; deals = live t held.deals; spare = 0 }

-- what a quotation leaves
pub kept_quoted : {X : Type 0} (value : Kept → X) (k : Kept) (quote : Quotation) → ((run : Run) (other : Option Quotation) → value (record k { run = Some (requoted other run) }) ≡ value (record k { run = Some run })) → value (with_quote k quote) ≡ value k
kept_quoted value k quote leaves = run_keeps (λ o. value (record k { run = o })) (requoted (Some quote)) (λ run. leaves run (Some quote)) k.run

reference_quoted : (k : Kept) (quote : Quotation) (step : Step) (mean : Option ℕ) → reference (at_rest (with_quote k quote)) step mean ≡ reference (at_rest k) step mean
reference_quoted k quote step mean = kept_quoted (λ l. reference (at_rest l) step mean) k quote (λ run other. refl)

-- settled with the quotation that it then has
settled_quoted : (k : Kept) (quote : Quotation) (stopped : Bool) → is_some k.run ≡ true → IsSettledAt k (Some quote) stopped → IsSettled (with_quote k quote) stopped
settled_quoted k quote stopped runs settled = by k.run runs settled where
  by : (o : Option Run) → is_some o ≡ true → IsSettledAt (record k { run = o }) (Some quote) stopped → IsSettled (with_quote (record k { run = o }) quote) stopped
  by None e s = absurd cc
  by (Some run) e s = record { runs = s.runs; halted = s.halted; stays = s.stays; low = s.low; high = s.high; straddles = s.straddles }

-- when the stock is due after it
pub quoted-due : (k : Kept) (deals : List Deal) (due : Due) (t : ℕ) (quote : Quotation) (market : MarketView) → IsDue (Some due) k deals → due.from ≤ t → market ≡ due.market → is_some k.run ≡ true → IsSettledAt k (Some quote) market.stopped
    → IsDue (Some (record due { from = t })) (with_quote k quote) (live t deals)
quoted-due k deals due t quote market is from same run settled = λ inside. by (is inside) where
  by : IsIdle k deals due → IsIdle (with_quote k quote) (live t deals) (record due { from = t })
  by idle =
      let waits = idle.waits in
      record {
        settled = subst (λ (m : MarketView). IsSettled (with_quote k quote) m.stopped) same (settled_quoted k quote market.stopped run settled);
        waits = record {
          closes = waits.closes;
          starts = waits.starts;
          pauses = waits.pauses;
          reopens = waits.reopens;
          bands = λ step day le lt. kept_quoted (λ l. changes_bands l step) k quote (λ run other. refl) ∙ waits.bands step day (omega arith) lt;
        };
        within = idle.within;
        prices = λ step tick le lt. reference_quoted k quote step (mean_of (live step.moment (live t deals))) ∙ ap (λ (ds : List Deal). reference (at_rest k) step (mean_of ds)) (live-live t step.moment le deals) ∙ idle.prices step tick (omega arith) lt;
      }

-- and ticks of any market that brought it nothing still do
pub quoted-idles : (market : MarketView) (from until t : ℕ) (held : SymbolState) (quote : Quotation) (stopped : Bool) → t ≤ from → is_some held.kept.run ≡ true → IsSettledAt held.kept (Some quote) stopped → Idles market from until held
    → Idles market from until (quoted held t quote)
quoted-idles market from until t held quote stopped le run settled idles = λ inside x tick since early. by (step_for market x) (omega arith) (idles inside x tick since early) where
  k : Kept
  k = held.kept

  by : (step : Step) → t ≤ step.moment → IsQuiet (at_rest k) held.deals step → IsQuiet (at_rest (with_quote k quote)) (live t held.deals) step
  by step later quiet =
      let before = quiet.settled in
      let mean = mean_of (live step.moment (live t held.deals)) in
      record {
        settled = settled_quoted k quote step.stopped run (record { runs = before.runs; halted = settled.halted; stays = settled.stays; low = settled.low; high = settled.high; straddles = settled.straddles });
        closes = quiet.closes;
        starts = quiet.starts;
        pauses = quiet.pauses;
        asks = quiet.asks;
        reopens = quiet.reopens;
        prices = ap (λ (ds : List Deal). reference (at_rest (with_quote k quote)) step (mean_of (live step.moment ds))) (window_rested (with_quote k quote) (live t held.deals))
            ∙ reference_quoted k quote step mean
            ∙ ap (λ (ds : List Deal). reference (at_rest k) step (mean_of ds)) (live-live t step.moment later held.deals)
            ∙ ap (λ (ds : List Deal). reference (at_rest k) step (mean_of (live step.moment ds))) (sym (window_rested k held.deals))
            ∙ quiet.prices;
        bands = kept_quoted (λ l. changes_bands l step) k quote (λ run other. refl) ∙ quiet.bands;
        restricts = refl;
      }

module _ (market : MarketView) (t i y z : ℕ) (bid offer : Option ℕ) (k : Kept) (deals : List Deal) (due : Due) (quote : Quotation)
    (is : IsDue (Some due) k deals) (inside : is_out k ≡ false) (from : due.from ≤ t) (until : t < due.until) (same : market ≡ due.market)
    (run : is_some k.run ≡ true) (settled : IsSettledAt k (Some quote) market.stopped) (offered : quoted_by k.id (in_.Quote t i bid offer y z) ≡ Some quote) where
  abbrev x : Record
  x = in_.Quote t i bid offer y z

  abbrev step : Step
  step = step_for market x

  idle : IsIdle k deals due
  idle = is inside

  abbrev with_it : Kept
  with_it = with_quote k quote

  -- the kept state once the quotation is taken in
  took : with_it ≡ (taken k step).kept
  took = λ j. record k { run = option_map (requoted (sym offered j)) k.run }

  abbrev stayed : List Deal
  stayed = live t (filter (leaves k.id x) deals)

  all : stayed ≡ live t deals
  all = ap (live t) (leaves-all k.id x deals refl)

  waits : WaitsAt k step due.waits
  waits = waits-due k deals due step refl from (let within = idle.within in omega (arith, within, until)) same is inside

  -- a quotation offers no price
  no_price : reference (at_rest with_it) step (mean_of (live t (window (at_rest with_it) stayed))) ≡ None
  no_price =
      ap (λ (ds : List Deal). reference (at_rest with_it) step (mean_of (live t ds))) (window_rested with_it stayed ∙ all)
      ∙ ap (λ (ds : List Deal). reference (at_rest with_it) step (mean_of ds)) (live-live t t (omega arith) deals)
      ∙ reference_quoted k quote step (mean_of (live t deals))
      ∙ idle.prices (record step { input = in_.Clock t }) refl from until

  keeps : SameLive t (live t deals) (window (taken k step) stayed)
  keeps =
      subst (λ (ds : List Deal). SameLive t (live t deals) ds) (sym (window_rested (taken k step).kept stayed ∙ all))
      (record { at = λ u le. refl })

  pub quote-steps : (before : List Message) → Steps step k with_it deals (live t deals) before before
  quote-steps before =
      let spoken = speaks-quiet (taken k step) stayed step before (Some due.waits) refl (waits-taken k step (Some due.waits) waits)
      (subst (λ (kept : Kept). IsSettled kept market.stopped) took (settled_quoted k quote market.stopped run settled))
      (subst (λ (l : Kept). reference (at_rest l) step (mean_of (live t (window (at_rest l) stayed))) ≡ None) took no_price) refl in
      step-evaluates step k spoken.said (taken k step) (taken k step) with_it deals (filter (leaves k.id x) deals) stayed stayed (live t deals) before spoken.between before
      refl refl refl refl spoken.announces spoken.obeys keeps took

pub quoted-evaluated : (market : MarketView) (x : Record) (k : Kept) (deals : List Deal) (due : Due) (quote : Quotation) (before : List Message) → IsDue (Some due) k deals → is_out k ≡ false → due.from ≤ moment_of x → moment_of x < due.until
    → market ≡ due.market → is_some k.run ≡ true → IsSettledAt k (Some quote) market.stopped → quoted_by k.id x ≡ Some quote
    → Evaluates market x (record { kept = k; deals = deals; spare = 0 }) (quoted (record { kept = k; deals = deals; spare = 0 }) (moment_of x) quote) before before
quoted-evaluated market (in_.Day t d c) k deals due quote before is inside from until same run settled offered = absurd cc
quoted-evaluated market (in_.Listing t name tier l c) k deals due quote before is inside from until same run settled offered = absurd cc
quoted-evaluated market (in_.Trade t i n p q f) k deals due quote before is inside from until same run settled offered = absurd cc
quoted-evaluated market (in_.Cancel t i n) k deals due quote before is inside from until same run settled offered = absurd cc
quoted-evaluated market (in_.Quote t i bid offer y z) k deals due quote before is inside from until same run settled offered =
    step-evaluated market (in_.Quote t i bid offer y z) (record { kept = k; deals = deals; spare = 0 }) (quoted (record { kept = k; deals = deals; spare = 0 }) t quote) before before refl refl
    (quote-steps market t i y z bid offer k deals due quote is inside from until same run settled offered before)
quoted-evaluated market (in_.IndexTick t v) k deals due quote before is inside from until same run settled offered = absurd cc
quoted-evaluated market (in_.Clock t) k deals due quote before is inside from until same run settled offered = absurd cc
quoted-evaluated market (in_.Notice t i kind) k deals due quote before is inside from until same run settled offered = absurd cc
quoted-evaluated market (in_.Indication t i p u) k deals due quote before is inside from until same run settled offered = absurd cc
