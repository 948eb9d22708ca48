-- A clock or an index tick at which no rule says anything of the symbol.
use Rattle.std.proofs.Common.{arith, ◌≡◌, ℕ, ◌<◌, ◌≤◌, Bool, true, false, cond, List, [], ◌∷◌, ◌++◌, refl, sym, ap, ◌∙◌, subst}
use Rattle.std.specs.Prelude.{Option, Some, None, if◌then◌else◌, ◌+◌, ◌&&◌, ◌||◌, nat_lt, not, filter, is_some, IfSome}
use Rattle.std.specs.Option.{option_map_or}
use Rattle.std.proofs.lemmas.List.{append-nil}
use Rattle.price_core.specs.declared.quote.Cause.TheVariants.{Times}
use Rattle.session_core.specs.declared.day.Day.{Day}
use Rattle.session_core.specs.declared.state.Phase.{Phase}
use Rattle.session_core.specs.Durations.{five_minutes}
use Rattle.session_core.specs.Times.{in_last_10_minutes, is_closed}
use Rattle.wire_in.specs.declared.record.Record.{Record}
use Rattle.wire_in.specs.Records.{is_tick, moment_of}
use Rattle.wire_out.specs.declared.message.Message.{Message}
use Rattle.wire_out.specs.declared.message.Message.TheVariants as out
use Rattle.wire_out.specs.declared.message.ShortKind.TheVariants.{Triggered}
use Rattle.pause_core.specs.Phases.{is_done, is_in_regulatory_halt, is_trading}
use Rattle.pause_core.specs.Turns.{phase_after_regulatory_halt}
use Rattle.pause_core.specs.Turns as turns
use Rattle.refprice_core.specs.declared.reference.Priced.{Priced}
use Rattle.window_core.specs.declared.window.Deal.{Deal}
use Rattle.window_core.specs.Deals.{live, mean_of}
use Rattle.window_core.proofs.Deals.{live-live}
use Rattle.reopen_core.specs.declared.auction.Trial.TheVariants as trial
use Rattle.reopen_core.specs.AuctionState.{AuctionState, with_trial}
use Rattle.reopen_core.specs.Trials as trials
use Rattle.wire_in.proofs.RecordKinds.{by_tick, tick as only_ticks}
use Rattle.rulebook.specs.declared.event.Event.{Event}
use Rattle.rulebook.specs.declared.event.Event.TheVariants.{Accepted}
use Rattle.rulebook.specs.declared.symbol.Banded.{Banded}
use Rattle.rulebook.proofs.Histories.{now-publish}
use Rattle.rulebook.specs.Book.{Named, all_obeyed, announced, context, obeyed, symbol_rules}
use Rattle.rulebook.specs.History.{publish}
use Rattle.rulebook.specs.Rules as rules
use Rattle.rulebook.specs.Rules.{Context, asks_to_pause, at_band}
use Rattle.rulebook.specs.Symbol.{phase, terms}
use Rattle.symbol_core.specs.declared.due.Due.{Due}
use Rattle.symbol_core.specs.declared.state.Kept.{Kept}
use Rattle.symbol_core.specs.declared.state.Step.{Step}
use Rattle.symbol_core.specs.declared.symbol.MarketView.{MarketView}
use Rattle.symbol_core.specs.Evaluates.{Evaluates, Opens, open_history, part_of}
use Rattle.symbol_core.specs.Kept.{becoming, brakes, pausing_as, reopened, reopening, reopening_with}
use Rattle.symbol_core.specs.Pricing.{band, band_by_time, reference, time_changes}
use Rattle.symbol_core.specs.Idle.{IsDue, IsIdle, IsQuiet, IsSettled, Waits, changes_bands, pauses_at, reopens_at, starts_at}
use Rattle.symbol_core.specs.InStep.{InStep, at_rest}
use Rattle.symbol_core.specs.Rests.{SymbolState}
use Rattle.symbol_core.specs.Runs.{run_band, run_quote}
use Rattle.symbol_core.specs.Silent.{IsOfOthers}
use Rattle.symbol_core.specs.Stands.{named, Stands}
use Rattle.symbol_core.specs.Steps.{step_for}
use Rattle.symbol_core.specs.Taken.{cancelled_by, leaves, taken}
use Rattle.symbol_core.specs.Ticks.{Idles}
use Rattle.symbol_core.specs.Window.{SameLive, window}
use Rattle.symbol_core.proofs.Cancels.{leaves-all}
use Rattle.symbol_core.proofs.Evaluated.{evaluated-away, starts}
use Rattle.symbol_core.proofs.Gives.{banding-gives, enter-gives, leave-gives, mean-gives, pause-gives, reopen-gives, restrict-gives, straddle-gives, turned-gives}
use Rattle.symbol_core.proofs.Live.{same-live}
use Rattle.symbol_core.proofs.Resting.{rests-apart, rests-same, rests-with}
use Rattle.symbol_core.proofs.Runs.{same_run}
use Rattle.symbol_core.proofs.Steps.{stands-opened}

-- What a tick is not.

-- what a tick leaves of each rule of a record
record OfNone (s : ℕ) (x : Record) : Type 0 where
  pub others : (mine : List ℕ → Bool) → IsOfOthers mine s x
  pub announces : (n : Named) (h : List Event) → announced n x h ≡ []
  pub asks : asks_to_pause s x ≡ false
  pub cancels : cancelled_by s x ≡ None
  pub takes : (k : Kept) (step : Step) → k.id ≡ s → step.input ≡ x → taken k step ≡ at_rest k

quote_stays : {X : Type 0} (b : Bool) (x : X) → cond b x x ≡ x
quote_stays true x = refl
quote_stays false x = refl

tick_of_none : (s : ℕ) (x : Record) → is_tick x ≡ true → OfNone s x
tick_of_none s x e =
    by_tick (OfNone s)
    (λ t. record {
      others = λ mine. record { symbol = refl; name = refl };
      announces = λ n h. refl;
      asks = refl;
      cancels = refl;
      takes = λ k step is input. (λ i. taken k (record step { input = input i })) ∙ (λ i. at_rest (record k { run = same_run k.run i }));
    })
    (λ t v. record {
      others = λ mine. record { symbol = refl; name = refl };
      announces = λ n h. refl;
      asks = refl;
      cancels = refl;
      takes = λ k step is input. (λ i. taken k (record step { input = input i })) ∙ (λ i. at_rest (record k { run = same_run k.run i }));
    }) x e

-- Where no rule says anything, the symbol stays as it is.

abbrev NoneSaid : Day → Named → Record → List Event → List (Context → List Message) → Type 0
NoneSaid day s x h [] = Unit {0}
NoneSaid day s x h (rule ∷ later) = (obeyed day s x rule h ≡ []) × NoneSaid day s x h later

none_said : (day : Day) (s : Named) (x : Record) (h : List Event) (later : List (Context → List Message)) → NoneSaid day s x h later → all_obeyed day s x later h ≡ []
none_said day s x h [] n = refl
none_said day s x h (rule ∷ later) n = (λ i. n.0 i ++ all_obeyed day s x later (publish (n.0 i) h)) ∙ none_said day s x h later n.1

evaluated-none : (market : MarketView) (x : Record) (held : SymbolState) (before : List Message) → is_tick x ≡ true
    → ((mine : List ℕ → Bool) (others : List Message) (h : List Event) → Opens mine held market x others h → NoneSaid market.day (named mine held.kept.id) x (open_history x others h) symbol_rules)
    → Evaluates market x held held before before
evaluated-none market x held before tick none =
    record {
      says = λ mine others h p. append_nothing before ∙ ap (λ (ms : List Message). before ++ ms) (sym (part_is mine others h p));
      rests = λ mine others h p. rw (part_is mine others h p) (rests-apart mine held x others h p.no_day (of_none.others mine) p.silent p.later p.rests);
      says_no_day = λ e. refl;
      begins = λ e mine h r. let apart : true ≡ false = sym e ∙ (only_ticks x tick).other.no_day in cc;
      id = refl;
    }
  where
    of_none : OfNone held.kept.id x
    of_none = tick_of_none held.kept.id x tick

    append_nothing : (xs : List Message) → xs ≡ xs ++ []
    append_nothing [] = refl
    append_nothing (m ∷ xs) = ap (λ (ys : List Message). m ∷ ys) (append_nothing xs)

    part_is : (mine : List ℕ → Bool) (others : List Message) (h : List Event) → Opens mine held market x others h → part_of market.day (named mine held.kept.id) x (open_history x others h) ≡ []
    part_is mine others h p =
        let S = named mine held.kept.id in
        let H = open_history x others h in
        let away = is_tick x && not (is_some (terms H mine)) in
        (λ i. cond away [] (of_none.announces S H i ++ all_obeyed market.day S x symbol_rules (publish (of_none.announces S H i) H)))
        ∙ ap (λ (ms : List Message). cond away [] ms) (none_said market.day S x H symbol_rules (none mine others h p))
        ∙ quote_stays away []

-- A closed symbol.

pub evaluated-closed : (market : MarketView) (x : Record) (held : SymbolState) (before : List Message) → is_tick x ≡ true → is_done held.kept.phase ≡ true → Evaluates market x held held before before
evaluated-closed market x held before tick done = evaluated-none market x held before tick (λ mine others h p. all symbol_rules mine others h (closed mine others h p)) where
  closed : (mine : List ℕ → Bool) (others : List Message) (h : List Event) → Opens mine held market x others h → is_done (phase (open_history x others h) held.kept.id) ≡ true
  closed mine others h p =
      let s = stands-opened mine (step_for market x) held.kept held.deals others h (starts mine held market x others h p) in
      ap is_done (sym s.phase) ∙ done

  all : (later : List (Context → List Message)) (mine : List ℕ → Bool) (others : List Message) (h : List Event) → is_done (phase (open_history x others h) held.kept.id) ≡ true
      → NoneSaid market.day (named mine held.kept.id) x (open_history x others h) later
  all [] mine others h e = tt
  all (rule ∷ later) mine others h e =
      (ap (λ (b : Bool). cond b [] (rule (context market.day (named mine held.kept.id) x (open_history x others h)))) e, all later mine others h e)

-- An idle symbol.

same_straddle : (k : Kept) (b : Bool) → cond (b && not b) (out.Straddle k.id true ∷ []) (cond (b && not b) (out.Straddle k.id false ∷ []) []) ≡ []
same_straddle k true = refl
same_straddle k false = refl

-- a regulatory halt that is in effect where the phase says so
halted_none : {X : Type 0} (p q : Option X) (halted is_in : Bool) → halted ≡ is_in → (if halted then (if is_in then None else p) else if is_in then q else None) ≡ None
halted_none p q true true e = refl
halted_none p q false false e = refl
halted_none p q true false e = absurd cc
halted_none p q false true e = absurd cc

enters_none : (trading low high : Bool) (xs ys : List Message) → (trading && low) ≡ false → (trading && high) ≡ false → (if not trading then [] else if low then xs else if high then ys else []) ≡ []
enters_none false low high xs ys e f = refl
enters_none true low high xs ys e f = (λ i. if e i then xs else if f i then ys else [])

not_true : (b : Bool) → not b ≡ false → b ≡ true
not_true true e = refl
not_true false e = absurd cc

-- before the five minutes of a round have passed, no trial is due
reopens_none : (k : Kept) (step : Step) → reopens_at k step.moment ≡ false → reopening k step ≡ []
reopens_none k step e = by k.auction e where
  by : (o : Option AuctionState) → option_map_or (λ a. not (nat_lt step.moment (a.round.moment + five_minutes))) o false ≡ false → option_map_or (reopening_with k step) o [] ≡ []
  by None e = refl
  by (Some a) e =
      ap
      (λ (early : Bool). let o = (if early then trial.NotDue else if in_last_10_minutes step.moment step.day then trial.Closing else trials.outcome a.indication a.reference a.round.collars) in reopened k (with_trial step.moment o a) o)
      (not_true (nat_lt step.moment (a.round.moment + five_minutes)) e)

-- where time gives the bands that there are, none are published
bands_none : (k : Kept) (step : Step) → changes_bands k step ≡ false → option_map_or (band_by_time k step) (run_band k) [] ≡ []
bands_none k step e = by (run_band k) e where
  by : (o : Option Banded) → (is_trading k.phase && option_map_or (time_changes k step) o false) ≡ false → option_map_or (band_by_time k step) o [] ≡ []
  by None e = refl
  by (Some last) e = ap (λ (b : Bool). if b then band k step Times last.reference else []) e

-- a step without a deal of its own leaves the window as it is
pub window_rested : (k : Kept) (deals : List Deal) → window (at_rest k) deals ≡ deals
window_rested k deals = ap (λ (ds : List Deal). deals ++ ds) (quote_stays (is_some k.run) []) ∙ append-nil deals

-- the rules before that of the bands, and those from it on
abbrev pub early_rules : List (Context → List Message)
early_rules = rules.session_close ∷ rules.market_halt ∷ rules.start ∷ rules.regulatory_halt ∷ rules.pause ∷ rules.reopen ∷ rules.leave_limit ∷ []

abbrev pub price_rules : List (Context → List Message)
price_rules = rules.publish_band ∷ rules.enter_limit ∷ rules.straddle ∷ rules.restrict ∷ []

-- none of the early rules says anything at a step
pub record IsQuietEarly (k : Kept) (step : Step) : Type 0 where
  pub settled : IsSettled k step.stopped
  pub closes : is_closed step.moment step.day ≡ false
  pub starts : starts_at k step.day step.stopped step.moment ≡ false
  pub pauses : pauses_at k step.moment ≡ false
  pub asks : asks_to_pause k.id step.input ≡ false
  pub reopens : reopens_at k step.moment ≡ false

module _ (k : InStep) (deals : List Deal) (step : Step) (mine : List ℕ → Bool) (h : List Event) (s : Stands mine k deals step h) where
  abbrev none_of : List (Context → List Message) → Type 0
  none_of later = NoneSaid step.day (named mine k.kept.id) step.input h later

  -- a rule that gives nothing
  said : (rule : Context → List Message) → rule (context step.day (named mine k.kept.id) step.input h) ≡ [] → obeyed step.day (named mine k.kept.id) step.input rule h ≡ []
  said rule e = ap (λ (ms : List Message). cond (is_done (phase h k.kept.id)) [] ms) e ∙ quote_stays (is_done (phase h k.kept.id)) []

  early : IsQuietEarly k.kept step → none_of early_rules
  early quiet =
      let settled = quiet.settled in (
        said rules.session_close (turned-gives turns.session_close k step mine deals h s ∙ ap (λ (b : Bool). option_map_or (becoming k.kept) (if b then Some Phase.Closed else None) []) quiet.closes),
        (
          said rules.market_halt (turned-gives turns.market_halt k step mine deals h s
              ∙ ap (λ (b : Bool). option_map_or (becoming k.kept) (if b then Some Phase.Stopped else None) []) settled.runs),
          (
            said rules.start (turned-gives turns.start k step mine deals h s
                ∙ ap (λ (b : Bool). option_map_or (becoming k.kept) (if b then Some Phase.Trading else None) []) quiet.starts),
            (
              said rules.regulatory_halt (turned-gives turns.regulatory_halt k step mine deals h s
                  ∙ ap (λ (o : Option Phase). option_map_or (becoming k.kept) o []) (halted_none (Some Phase.Halted) (Some (phase_after_regulatory_halt (brakes k.kept step))) k.kept.halted (is_in_regulatory_halt k.kept.phase) settled.halted)),
              (
                said rules.pause (pause-gives k step mine deals h s
                    ∙ (λ i. option_map_or (pausing_as k.kept step) (if quiet.pauses i || (quiet.asks i && is_trading k.kept.phase && k.kept.straddling) then (if in_last_10_minutes step.moment step.day then Some Phase.Closing else Some Phase.Paused) else None) [])),
                (
                  said rules.reopen (reopen-gives k step mine deals h s ∙ reopens_none k.kept step quiet.reopens),
                  (
                    said rules.leave_limit (leave-gives k step mine deals h s ∙ ap (λ (b : Bool). if b then becoming k.kept Phase.Trading else []) settled.stays),
                    tt,
                  ),
                ),
              ),
            ),
          ),
        ),
      )

  at_price : IsQuiet k deals step → none_of price_rules
  at_price quiet =
      let settled = quiet.settled in
      let mean = mean_of (live step.moment (window k deals)) in (
        said rules.publish_band (banding-gives mean k step mine deals h s (mean-gives k step mine deals h s)
            ∙ ap (λ (o : Option Priced). elim o [ Some r ↦ band k.kept step r.cause r.price | None ↦ option_map_or (band_by_time k.kept step) (run_band k.kept) [] ]) quiet.prices
            ∙ bands_none k.kept step quiet.bands),
        (
          said rules.enter_limit (enter-gives k step mine deals h s
              ∙ enters_none (is_trading k.kept.phase) (at_band Phase.LimitLow (run_quote k.kept) (run_band k.kept)) (at_band Phase.LimitHigh (run_quote k.kept) (run_band k.kept)) (becoming k.kept Phase.LimitLow) (becoming k.kept Phase.LimitHigh) settled.low settled.high),
          (
            said rules.straddle (straddle-gives k step mine deals h s
                ∙ (λ i. if settled.straddles i && not k.kept.straddling then out.Straddle k.kept.id true ∷ [] else if k.kept.straddling && not (settled.straddles i) then out.Straddle k.kept.id false ∷ [] else [])
                ∙ same_straddle k.kept k.kept.straddling),
            (
              said rules.restrict (restrict-gives k step mine deals h s ∙ ap (λ (b : Bool). if b then out.Short k.kept.id Triggered ∷ [] else []) quiet.restricts),
              tt,
            ),
          ),
        ),
      )

  none_both : (a b : List (Context → List Message)) → none_of a → none_of b → none_of (a ++ b)
  none_both [] b first later = later
  none_both (rule ∷ a) b first later = (first.0, none_both a b first.1 later)

quiet_rules : (k : InStep) (deals : List Deal) (step : Step) → IsQuiet k deals step
    → (mine : List ℕ → Bool) (h : List Event) → Stands mine k deals step h → NoneSaid step.day (named mine k.kept.id) step.input h symbol_rules
quiet_rules k deals step quiet mine h s =
    none_both k deals step mine h s early_rules price_rules
    (early k deals step mine h s (record { settled = quiet.settled; closes = quiet.closes; starts = quiet.starts; pauses = quiet.pauses; asks = quiet.asks; reopens = quiet.reopens }))
    (at_price k deals step mine h s quiet)

-- what the early rules give of a stock of which they say nothing
pub early-nothing : (k : InStep) (deals : List Deal) (step : Step) → IsQuietEarly k.kept step → (mine : List ℕ → Bool) (h : List Event) → Stands mine k deals step h → all_obeyed step.day (named mine k.kept.id) step.input early_rules h ≡ []
early-nothing k deals step quiet mine h s = none_said step.day (named mine k.kept.id) step.input h early_rules (early k deals step mine h s quiet)

pub quiet-nothing : (k : InStep) (deals : List Deal) (step : Step) → IsQuiet k deals step → (mine : List ℕ → Bool) (h : List Event) → Stands mine k deals step h → all_obeyed step.day (named mine k.kept.id) step.input symbol_rules h ≡ []
quiet-nothing k deals step quiet mine h s = none_said step.day (named mine k.kept.id) step.input h symbol_rules (quiet_rules k deals step quiet mine h s)

-- an idle symbol is quiet at a tick
idle_quiet : (k : Kept) (deals : List Deal) (due : Due) (step : Step) → IsIdle k deals due → is_tick step.input ≡ true → due.from ≤ step.moment → step.moment < due.until → step.day ≡ due.market.day → step.stopped ≡ due.market.stopped
    → IsQuiet (at_rest k) deals step
idle_quiet k deals due step idle tick from until day stopped =
    record {
      settled = subst (λ (b : Bool). IsSettled k b) (sym stopped) idle.settled;
      closes = ap (λ (d : Day). is_closed step.moment d) day ∙ waits.closes step.moment early;
      starts = (λ i. starts_at k (day i) (stopped i) step.moment) ∙ waits.starts step.moment early;
      pauses = waits.pauses step.moment early;
      asks = of_none.asks;
      reopens = waits.reopens step.moment early;
      prices = ap (λ (ds : List Deal). reference (at_rest k) step (mean_of (live step.moment ds))) (window_rested k deals) ∙ idle.prices step tick from until;
      bands = waits.bands step day from early;
      restricts = refl;
    }
  where
    waits : Waits k due.market.day due.market.stopped due.from due.waits
    waits = idle.waits

    early : step.moment < due.waits
    early = let within = idle.within in omega arith

    of_none : OfNone k.id step.input
    of_none = tick_of_none k.id step.input tick

evaluated-quiet : (market : MarketView) (x : Record) (held : SymbolState) (before : List Message) → is_tick x ≡ true → IsQuiet (at_rest held.kept) held.deals (step_for market x) → Evaluates market x held held before before
evaluated-quiet market x held before tick quiet =
    evaluated-none market x held before tick
    (λ mine others h p.
    quiet_rules (at_rest k) held.deals step quiet mine (open_history x others h)
    (subst (λ (ds : List Deal). Stands mine (at_rest k) ds step (open_history x others h)) (leaves-all k.id x held.deals of_none.cancels)
    (subst (λ (l : InStep). Stands mine l (filter (leaves k.id x) held.deals) step (open_history x others h)) (of_none.takes k step refl refl)
    (stands-opened mine step k held.deals others h (starts mine held market x others h p)))))
  where
    k : Kept
    k = held.kept

    step : Step
    step = step_for market x

    of_none : OfNone k.id x
    of_none = tick_of_none k.id x tick

-- a tick at which a symbol idles
pub evaluated-idle : (market : MarketView) (x : Record) (held : SymbolState) (from until : ℕ) (before : List Message) → Idles market from until held → is_tick x ≡ true → from ≤ moment_of x → moment_of x < until → Evaluates market x held held before before
evaluated-idle market x held from until before idles tick since early = by (is_done held.kept.phase) (is_some held.kept.terms) refl refl where
  by : (done listed : Bool) → is_done held.kept.phase ≡ done → is_some held.kept.terms ≡ listed → Evaluates market x held held before before
  by true listed e f = evaluated-closed market x held before tick e
  by false false e f = evaluated-away market x held before ((λ i. tick i && not (f i)))
  by false true e f = evaluated-quiet market x held before tick (idles (λ i. e i || not (f i)) x tick since early)

idles-due : (held : SymbolState) (due : Due) → IsDue (Some due) held.kept held.deals → Idles due.market due.from due.until held
idles-due held due is = λ inside x tick from until. idle_quiet held.kept held.deals due (step_for due.market x) (is inside) tick from until refl refl

-- before a symbol is due it idles
abbrev pub IsIdling : Option Due → SymbolState → Type 0
IsIdling o held = IfSome o (λ due. Idles due.market due.from due.until held)

pub idling : (o : Option Due) (held : SymbolState) → IsDue o held.kept held.deals → IsIdling o held
idling None held is = tt
idling (Some due) held is = idles-due held due is

-- a tick before a symbol is due
pub evaluated-due : (market : MarketView) (x : Record) (held : SymbolState) (due : Due) (before : List Message) → IsDue (Some due) held.kept held.deals → is_tick x ≡ true → due.from ≤ moment_of x → moment_of x < due.until → market ≡ due.market
    → Evaluates market x held held before before
evaluated-due market x held due before is tick from until same =
    subst (λ (m : MarketView). Evaluates m x held held before before) (sym same) (evaluated-idle due.market x held due.from due.until before (idles-due held due is) tick from until)

-- Deals that are five minutes old may go at a tick.
pub evaluated-live : (market : MarketView) (x : Record) (held : SymbolState) (before : List Message) → is_tick x ≡ true → Evaluates market x held held before before
    → Evaluates market x held (record { kept = held.kept; deals = live (moment_of x) held.deals; spare = 0 }) before before
evaluated-live market x held before tick e =
    record {
      says = e.says;
      rests = λ mine others h p.
          let ms = part_of market.day (named mine held.kept.id) x (open_history x others h) in
          rests-same mine held.kept held.deals (live (moment_of x) held.deals) (publish ms (open_history x others h))
          (subst (λ (t : ℕ). SameLive t (live (moment_of x) held.deals) held.deals)
          (sym (now-publish ms (open_history x others h) ∙ now-publish others (Accepted x ∷ h))) (same-live (moment_of x) held.deals))
          (rests-with mine held 0 (publish ms (open_history x others h)) (e.rests mine others h p));
      says_no_day = λ day. refl;
      begins = λ day mine h r. let both : true ≡ false = sym day ∙ (only_ticks x tick).other.no_day in cc;
      id = refl;
    }

pub due-live : (k : Kept) (deals : List Deal) (due : Due) (t : ℕ) → due.from ≤ t → IsDue (Some due) k deals → IsDue (Some (record due { from = t })) k (live t deals)
due-live k deals due t from is = λ inside. by (is inside) where
  by : IsIdle k deals due → IsIdle k (live t deals) (record due { from = t })
  by idle =
      let waits = idle.waits in
      record {
        settled = idle.settled;
        waits = record {
          closes = waits.closes;
          starts = waits.starts;
          pauses = waits.pauses;
          reopens = waits.reopens;
          bands = λ step day le lt. waits.bands step day (omega arith) lt;
        };
        within = idle.within;
        prices = λ step tick le lt. ap (λ (ds : List Deal). reference (at_rest k) step (mean_of ds)) (live-live t step.moment le deals) ∙ idle.prices step tick (omega arith) lt;
      }

-- nor does it from a later moment on
pub due-later : (k : Kept) (deals : List Deal) (due : Due) (t : ℕ) → due.from ≤ t → IsDue (Some due) k deals → IsDue (Some (record due { from = t })) k deals
due-later k deals due t from is = λ inside. by (is inside) where
  by : IsIdle k deals due → IsIdle k deals (record due { from = t })
  by idle =
      let waits = idle.waits in
      record {
        settled = idle.settled;
        waits = record {
          closes = waits.closes;
          starts = waits.starts;
          pauses = waits.pauses;
          reopens = waits.reopens;
          bands = λ step day le lt. waits.bands step day (omega arith) lt;
        };
        within = idle.within;
        prices = λ step tick le lt. idle.prices step tick (omega arith) lt;
      }

-- of a symbol that is due, if ever
abbrev pub IsPassed : Option Due → SymbolState → Type 0
IsPassed o held = IfSome o (λ due. (x : Record) → is_tick x ≡ true → due.from ≤ moment_of x → moment_of x < due.until → (before : List Message) → Evaluates due.market x held held before before)

pub passed : (o : Option Due) (held : SymbolState) → IsDue o held.kept held.deals → IsPassed o held
passed None held is = tt
passed (Some due) held is = λ x tick from until before. evaluated-due due.market x held due before is tick from until refl

-- a symbol that isn't listed has no next due
pub due-unlisted : (k : Kept) (deals : List Deal) (due : Due) → is_some k.terms ≡ false → IsDue (Some due) k deals
due-unlisted k deals due e = λ inside. absurd (by (is_done k.phase) (is_some k.terms) e inside) where
  by : (done listed : Bool) → listed ≡ false → (done || not listed) ≡ false → ⊥
  by true listed e f = cc
  by false true e f = cc
  by false false e f = cc
