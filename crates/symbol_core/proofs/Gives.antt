-- What a rule gives at a history for which the symbol stands, by the kept state.
use Rattle.std.proofs.Common.{◌≡◌, ℕ, Bool, List, [], ◌∷◌, ◌++◌, refl, sym, ap, ◌∙◌}
use Rattle.std.specs.Prelude.{Option, Some, None, true, false, if◌then◌else◌, ◌&&◌, not, unwrap_or}
use Rattle.std.specs.Option.{option_map_or}
use Rattle.std.proofs.Math.Nat.{le_refl}
use Rattle.session_core.specs.declared.state.Phase.{Phase}
use Rattle.session_core.specs.declared.state.Phase.TheVariants.{Trading, LimitLow, LimitHigh}
use Rattle.wire_in.specs.declared.record.Record.{Record}
use Rattle.wire_in.specs.declared.record.Record.TheVariants as in_
use Rattle.wire_out.specs.declared.message.Message.{Message}
use Rattle.wire_out.specs.declared.message.Message.TheVariants as out
use Rattle.wire_out.specs.declared.message.ShortKind.TheVariants.{Carried, Triggered}
use Rattle.pause_core.specs.declared.turning.Brakes.{Brakes}
use Rattle.pause_core.specs.Phases.{is_limit, is_trading}
use Rattle.session_core.specs.Times.{in_last_10_minutes}
use Rattle.reopen_core.specs.declared.auction.Round.{Round}
use Rattle.reopen_core.specs.declared.auction.Trial.{Trial}
use Rattle.reopen_core.specs.declared.auction.Trial.TheVariants as trial
use Rattle.reopen_core.specs.AuctionState.{AuctionState, with_trial}
use Rattle.reopen_core.specs.Trials as trials
use Rattle.refprice_core.specs.declared.reference.Priced.{Priced}
use Rattle.refprice_core.specs.Prices as prices
use Rattle.refprice_core.specs.Prices.{because, forced}
use Rattle.limit_core.specs.Limits as limits
use Rattle.price_core.specs.declared.quote.Cause.TheVariants.{First}
use Rattle.rulebook.specs.declared.symbol.Banded.{Banded}
use Rattle.window_core.specs.declared.window.Deal.{Deal}
use Rattle.window_core.specs.Deals.{live, mean_of}
use Rattle.rulebook.specs.declared.event.Event.{Event}
use Rattle.rulebook.specs.Auction as auction
use Rattle.rulebook.specs.Book.{announced, context}
use Rattle.rulebook.specs.History.{now, records}
use Rattle.rulebook.specs.Market.{is_market_halted}
use Rattle.rulebook.specs.Rules as rules
use Rattle.rulebook.specs.Rules.{Context, at_band, meets, or_else}
use Rattle.rulebook.specs.Symbol as of
use Rattle.symbol_core.specs.declared.state.Kept.{Kept}
use Rattle.symbol_core.specs.declared.state.Step.{Step}
use Rattle.symbol_core.specs.InStep.{InStep}
use Rattle.symbol_core.specs.Auctions.{auction_by, auction_of, auction_with}
use Rattle.symbol_core.specs.Kept.{announcing, auction_begun, becoming, brakes, collars_of, pause_now, pausing, reopened, reopening, reopening_with, straddling}
use Rattle.symbol_core.specs.Pricing.{band, band_by_time, banding, priced_by, reference}
use Rattle.symbol_core.specs.Runs.{adoption_by, run_band, run_quote, run_reference}
use Rattle.symbol_core.specs.Stands.{named, Stands, triggers_first}
use Rattle.symbol_core.proofs.Runs.{adopted_is, begun_is}
use Rattle.symbol_core.specs.Window.{window}

-- the kept state and the open step that a history tells, but for the run
abbrev pub told : (List ℕ → Bool) → InStep → Step → List Event → InStep
told mine k step h =
    let s = k.kept.id in
    record {
      kept = record {
        id = s;
        terms = of.terms h mine;
        phase = of.phase h s;
        since = of.since h s;
        run = k.kept.run;
        straddling = of.was_straddling h s;
        halted = of.is_under_regulatory_halt h s;
        auction = auction_of h s;
        short = record {
          prior_close = of.prior_close h mine;
          triggered = rules.triggered_in mine step.day s (records h);
          carried = rules.is_carried h mine s;
        };
      };
      opened = record {
        left_limit = rules.has_left_limit h s;
        released = rules.released h s;
        deal = k.opened.deal;
        is_fresh = k.opened.is_fresh;
        restricts = triggers_first (context step.day (named mine s) step.input h);
      };
    }

pub stands-told : (mine : List ℕ → Bool) (k : InStep) (step : Step) (deals : List Deal) (h : List Event) → Stands mine k deals step h → k ≡ told mine k step h
stands-told mine k step deals h s = λ i. record {
  kept = record k.kept {
    terms = s.terms i;
    phase = s.phase i;
    since = s.since i;
    straddling = s.straddling i;
    halted = s.halted i;
    auction = s.auction i;
    short = record { prior_close = s.prior_close i; triggered = s.triggered i; carried = s.carried i };
  };
  opened = record k.opened {
    left_limit = s.left_limit i;
    released = s.released i;
    restricts = s.restricts i;
  };
}

-- a rule that reads the kept state without its run, the moment and the market's halt
pub by_kept : (rule : InStep → Step → List Message) (mine : List ℕ → Bool) (k : InStep) (step : Step) (deals : List Deal) (h : List Event) → Stands mine k deals step h
    → rule (told mine k step h) (record step { moment = now h; stopped = is_market_halted h }) ≡ rule k step
by_kept rule mine k step deals h s =
    ap (λ (t : ℕ). rule (told mine k step h) (record step { moment = t; stopped = is_market_halted h })) (sym s.moment)
    ∙ ap (λ (b : Bool). rule (told mine k step h) (record step { stopped = b })) (sym s.stopped)
    ∙ ap (λ (l : InStep). rule l step) (sym (stands-told mine k step deals h s))

pub turned-gives : (rule : Phase → Brakes → Option Phase) (k : InStep) (step : Step) (mine : List ℕ → Bool) (deals : List Deal) (h : List Event) → Stands mine k deals step h
    → rules.turned rule (context step.day (named mine k.kept.id) step.input h) ≡ option_map_or (becoming k.kept) (rule k.kept.phase (brakes k.kept step)) []
turned-gives rule k step mine deals h s = by_kept (λ l step. option_map_or (becoming l.kept) (rule l.kept.phase (brakes l.kept step)) []) mine k step deals h s

-- a trial publishes what it leaves of the auction
reopened_told : (mine : List ℕ → Bool) (k : Kept) (step : Step) (h : List Event) (x : Record) (a : AuctionState) (o : Trial)
    → rules.reopened (context step.day (named mine k.id) x h) a.round.number o ≡ reopened k (with_trial step.moment o a) o
reopened_told mine k step h x a trial.NotDue = refl
reopened_told mine k step h x a (trial.Extend collars) = refl
reopened_told mine k step h x a (trial.Release price) = refl
reopened_told mine k step h x a trial.Closing = refl

-- the auction that a history tells
reopen_told : (mine : List ℕ → Bool) (k : Kept) (step : Step) (h : List Event) (x : Record) (paused : Bool) (band : Option Banded) (round : Option Round)
    → (if paused then option_map_or (λ r. option_map_or (rules.reopen_with (context step.day (named mine k.id) x h) r) band []) round [] else [])
    ≡ option_map_or (reopening_with k (record step { moment = now h })) (auction_by paused band round (auction.origin h k.id) (auction.indication h k.id)) []
reopen_told mine k step h x false band round = refl
reopen_told mine k step h x true None None = refl
reopen_told mine k step h x true None (Some r) = refl
reopen_told mine k step h x true (Some b) None = refl
reopen_told mine k step h x true (Some b) (Some r) =
    let a = auction_with (auction.origin h k.id) (auction.indication h k.id) b r in
    reopened_told mine k (record step { moment = now h }) h x a (trials.trial (now h) (in_last_10_minutes (now h) step.day) r a.reference a.indication)

pub reopen-gives : (k : InStep) (step : Step) (mine : List ℕ → Bool) (deals : List Deal) (h : List Event) → Stands mine k deals step h
    → rules.reopen (context step.day (named mine k.kept.id) step.input h) ≡ reopening k.kept step
reopen-gives k step mine deals h s =
    reopen_told mine (told mine k step h).kept (record step { moment = now h; stopped = is_market_halted h }) h step.input (auction.is_paused (of.phase h k.kept.id)) (of.last_band h k.kept.id) (auction.last_round h k.kept.id)
    ∙ by_kept (λ l. reopening l.kept) mine k step deals h s

-- the end of a limit state, and its begin

abbrev pub leaving : Kept → Step → List Message
leaving k step = if is_limit k.phase && not (at_band k.phase (run_quote k) (run_band k)) then becoming k Trading else []

abbrev pub entering : Kept → Step → List Message
entering k step =
    if not (is_trading k.phase) then []
    else if at_band LimitLow (run_quote k) (run_band k) then becoming k LimitLow
    else if at_band LimitHigh (run_quote k) (run_band k) then becoming k LimitHigh
    else []

pub leave-gives : (k : InStep) (step : Step) (mine : List ℕ → Bool) (deals : List Deal) (h : List Event) → Stands mine k deals step h
    → rules.leave_limit (context step.day (named mine k.kept.id) step.input h) ≡ leaving k.kept step
leave-gives k step mine deals h s = λ i. if is_limit (sym s.phase i) && not (at_band (sym s.phase i) (sym s.quote i) (sym s.band i)) then becoming k.kept Trading else []

pub enter-gives : (k : InStep) (step : Step) (mine : List ℕ → Bool) (deals : List Deal) (h : List Event) → Stands mine k deals step h
    → rules.enter_limit (context step.day (named mine k.kept.id) step.input h) ≡ entering k.kept step
enter-gives k step mine deals h s = λ i.
    if not (is_trading (sym s.phase i)) then []
    else if at_band LimitLow (sym s.quote i) (sym s.band i) then becoming k.kept LimitLow
    else if at_band LimitHigh (sym s.quote i) (sym s.band i) then becoming k.kept LimitHigh
    else []

-- a price, else another
because_either : (p q : Option ℕ) → because First (or_else p q) ≡ or_else (because First p) (because First q)
because_either None q = refl
because_either (Some p) q = refl

-- the new reference price outside the end of a limit state, by the run's last bands
later-gives : (c : Context) (o : Option Banded)
    → rules.later_price c o
    ≡ priced_by (rules.released c.history c.symbol) (record { begun = of.begun c.history c.symbol; last = adoption_by (of.adopted c.history c.symbol) o }) c.moment (rules.offered c) (rules.mean_now c)
later-gives c None = because_either (rules.released c.history c.symbol) (prices.first_price (of.begun c.history c.symbol) c.moment (rules.offered c) (rules.mean_now c))
later-gives c (Some b) = refl

reference-gives : (k : InStep) (step : Step) (mine : List ℕ → Bool) (deals : List Deal) (h : List Event) → Stands mine k deals step h
    → rules.reference (context step.day (named mine k.kept.id) step.input h) ≡ reference k step (of.mean step.day h k.kept.id)
reference-gives k step mine deals h s =
    ap (λ (o : Option Priced). if not (is_trading (of.phase h k.kept.id)) then None else if rules.has_left_limit h k.kept.id then forced (of.mean step.day h k.kept.id) else o)
    (later-gives (context step.day (named mine k.kept.id) step.input h) (of.last_band h k.kept.id))
    ∙ (λ i.
    if not (is_trading (sym s.phase i)) then None
    else if sym s.left_limit i then forced (of.mean step.day h k.kept.id)
    else priced_by (sym s.released i) (record { begun = begins i; last = adopts i }) (sym s.moment i)
    (or_else (of.opening_price step.day k.kept.id step.input) (if rules.opens_on_quotes k.kept.id step.input then of.prior_close_of (sym s.terms i) else None)) (of.mean step.day h k.kept.id))
  where
    begins : of.begun h k.kept.id ≡ (run_reference k.kept).begun
    begins = ap (λ (o : Option ℕ). unwrap_or o 0) (sym s.begun) ∙ begun_is k.kept.run

    adopts : adoption_by (of.adopted h k.kept.id) (of.last_band h k.kept.id) ≡ (run_reference k.kept).last
    adopts = sym s.adopted ∙ adopted_is k.kept.run

pub banding-gives : (mean : Option ℕ) (k : InStep) (step : Step) (mine : List ℕ → Bool) (deals : List Deal) (h : List Event) → Stands mine k deals step h
    → of.mean step.day h k.kept.id ≡ mean → rules.publish_band (context step.day (named mine k.kept.id) step.input h) ≡ banding mean k step
banding-gives mean k step mine deals h s e =
    (λ i. elim (reference-gives k step mine deals h s i) [ Some r ↦ rules.band c r.cause r.price | None ↦ option_map_or (rules.band_by_time c) (sym s.band i) [] ])
    ∙ by_kept (λ l later. elim (reference k step (of.mean step.day h k.kept.id)) [ Some r ↦ band l.kept later r.cause r.price | None ↦ option_map_or (band_by_time l.kept later) (run_band k.kept) [] ]) mine k step deals h s
    ∙ ap (λ (m : Option ℕ). banding m k step) e
  where
    c : Context
    c = context step.day (named mine k.kept.id) step.input h

-- the mean of the history is that of the window
pub mean-gives : (k : InStep) (step : Step) (mine : List ℕ → Bool) (deals : List Deal) (h : List Event) → Stands mine k deals step h
    → of.mean step.day h k.kept.id ≡ mean_of (live step.moment (window k deals))
mean-gives k step mine deals h s =
    ap (λ (ds : List Deal). mean_of ds) (sym (s.window.at (now h) (le_refl (now h))))
    ∙ ap (λ (t : ℕ). mean_of (live t (window k deals))) (sym s.moment)

pub straddle-gives : (k : InStep) (step : Step) (mine : List ℕ → Bool) (deals : List Deal) (h : List Event) → Stands mine k deals step h
    → rules.straddle (context step.day (named mine k.kept.id) step.input h) ≡ straddling k.kept step
straddle-gives k step mine deals h s = λ i. straddles (is_trading (sym s.phase i) && meets limits.straddles (sym s.quote i) (sym s.band i)) (sym s.straddling i) where
  straddles : (now was : Bool) → List Message
  straddles now was = if now && not was then out.Straddle k.kept.id true ∷ [] else if was && not now then out.Straddle k.kept.id false ∷ [] else []

abbrev pub restricting : InStep → Step → List Message
restricting k step = if k.opened.restricts then out.Short k.kept.id Triggered ∷ [] else []

pub restrict-gives : (k : InStep) (step : Step) (mine : List ℕ → Bool) (deals : List Deal) (h : List Event) → Stands mine k deals step h
    → rules.restrict (context step.day (named mine k.kept.id) step.input h) ≡ restricting k step
restrict-gives k step mine deals h s = by_kept restricting mine k step deals h s

-- a pause, with these bands
abbrev pausing_with : Option Banded → Kept → Step → List Message
pausing_with band k step = option_map_or (λ p. becoming k p ++ (if auction.is_paused p then option_map_or (λ b. collars_of k.id (auction_begun k step b)) band [] else [])) (pause_now k step) []

pub pause-gives : (k : InStep) (step : Step) (mine : List ℕ → Bool) (deals : List Deal) (h : List Event) → Stands mine k deals step h
    → rules.pause (context step.day (named mine k.kept.id) step.input h) ≡ pausing k.kept step
pause-gives k step mine deals h s =
    (λ i. pausing_with (sym s.band i) (told mine k step h).kept (record step { moment = now h; stopped = is_market_halted h }))
    ∙ by_kept (λ l. pausing_with (run_band k.kept) l.kept) mine k step deals h s

pub announced-gives : (k : InStep) (step : Step) (mine : List ℕ → Bool) (deals : List Deal) (h : List Event) (x : Record) → Stands mine k deals step h → announced (named mine k.kept.id) x h ≡ announcing k.kept x
announced-gives k step mine deals h (in_.Day t d c) s = refl
announced-gives k step mine deals h (in_.Listing t name l m c) s = ap (λ (b : Bool). if b then out.Listed k.kept.id name ∷ out.Short k.kept.id Carried ∷ [] else out.Listed k.kept.id name ∷ []) (sym s.carried)
announced-gives k step mine deals h (in_.Trade t i n p q f) s = refl
announced-gives k step mine deals h (in_.Cancel t i n) s = refl
announced-gives k step mine deals h (in_.Quote t i b o x y) s = refl
announced-gives k step mine deals h (in_.IndexTick t v) s = refl
announced-gives k step mine deals h (in_.Clock t) s = refl
announced-gives k step mine deals h (in_.Notice t i n) s = refl
announced-gives k step mine deals h (in_.Indication t i p u) s = refl
