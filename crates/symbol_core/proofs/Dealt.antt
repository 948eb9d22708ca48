-- A trade or a tick at which no rule says anything, where time could bring a new reference price.
use Rattle.std.proofs.Common.{arith, ◌≡◌, ℕ, ◌<◌, ◌≤◌, Bool, true, false, List, [], ◌++◌, refl, sym, ap, ◌∙◌, subst}
use Rattle.std.specs.Prelude.{Option, Some, None, IfSome, if◌then◌else◌, ◌&&◌, ◌||◌, not, filter, is_some, option_map, option_to_list}
use Rattle.std.specs.Option.{option_map_or}
use Rattle.price_core.specs.Moves.{moved_one_percent}
use Rattle.price_core.specs.declared.quote.Cause.TheVariants.{Moved}
use Rattle.pause_core.specs.Phases.{is_done, is_trading}
use Rattle.refprice_core.specs.declared.reference.Adoption.{Adoption}
use Rattle.refprice_core.specs.Prices.{because, forced, has_stood, moved_price}
use Rattle.rulebook.specs.Auction.{indicated_by}
use Rattle.rulebook.specs.Book.{symbol_rules}
use Rattle.wire_in.specs.declared.record.Record.{Record}
use Rattle.wire_in.specs.declared.record.Record.TheVariants as in_
use Rattle.wire_in.specs.Records.{is_day, is_tick, moment_of}
use Rattle.wire_out.specs.declared.message.Message.{Message}
use Rattle.window_core.specs.declared.window.Deal.{Deal}
use Rattle.window_core.specs.Deals.{live, mean_of}
use Rattle.symbol_core.specs.declared.due.Due.{Due}
use Rattle.symbol_core.specs.declared.state.Kept.{Kept}
use Rattle.symbol_core.specs.declared.state.Step.{Step}
use Rattle.symbol_core.specs.declared.symbol.MarketView.{MarketView}
use Rattle.symbol_core.specs.Evaluates.{Evaluates}
use Rattle.symbol_core.specs.Idle.{AwaitsPrice, IsDue, IsIdle, IsSettled, HasTaken, IsAwaited, IsStill, MayMove, MeanMoves, Waits, WaitsAt, brings_deal_or_time, comes_often, has_price, is_out, keeps_price}
use Rattle.symbol_core.specs.InStep.{InStep, in_step, just_opened}
use Rattle.symbol_core.specs.Kept.{heard, quoted_by, requoted}
use Rattle.symbol_core.specs.Pricing.{later_price, offered, priced_by, reference}
use Rattle.symbol_core.specs.Runs.{run_reference}
use Rattle.symbol_core.specs.Stands.{ObeysAll}
use Rattle.symbol_core.specs.Steps.{Steps, step_for}
use Rattle.symbol_core.specs.Taken.{cancelled_by, deal_of, halted_by, leaves, listed_by, prior_close_by, taken, triggers_by}
use Rattle.symbol_core.specs.Window.{SameLive, window}
use Rattle.symbol_core.proofs.Cancels.{leaves-all}
use Rattle.symbol_core.proofs.Evaluated.{away, step-evaluated}
use Rattle.symbol_core.proofs.Live.{live-added, live-own}
use Rattle.symbol_core.proofs.Runs.{same_run}
use Rattle.symbol_core.proofs.Quiet.{announces-none, speaks-quiet, waits-taken}
use Rattle.symbol_core.proofs.Steps.{step-evaluates}

not_some : {X : Type 0} (o : Option X) → not (is_some o) ≡ true → o ≡ None
not_some None e = refl
not_some (Some x) e = absurd cc

-- The mean.

-- a mean is no new reference price before 30 seconds have passed, nor where it hasn't moved
pub keeps-tested : (a : Adoption) (t : ℕ) (mean : Option ℕ) → (not (has_stood a t) || not (option_map_or (λ m. moved_one_percent m a.price) mean false)) ≡ not (is_some (moved_price a t mean))
keeps-tested a t None = by (has_stood a t) where
  by : (stood : Bool) → (not stood || true) ≡ true
  by true = refl
  by false = refl
keeps-tested a t (Some m) = by (has_stood a t) (moved_one_percent m a.price) where
  by : (stood moves : Bool) → (not stood || not moves) ≡ not (is_some (if moves && stood then Some m else None))
  by true true = refl
  by true false = refl
  by false true = refl
  by false false = refl

-- and then there is none
pub kept-none : (k : InStep) (step : Step) (mean : Option ℕ) → k.opened.left_limit ≡ false → keeps_price k.kept step.moment mean ≡ true → reference k step mean ≡ None
kept-none k step mean left keeps =
    (λ i. if not (is_trading k.kept.phase) then None else if left i then forced mean else later_price k step mean) ∙ by (is_trading k.kept.phase) (run_reference k.kept).last keeps
  where
    by : (trading : Bool) (o : Option Adoption) → (not trading || option_map_or (λ last. not (is_some (moved_price last step.moment mean))) o false) ≡ true
        → (if not trading then None else priced_by k.opened.released (record { begun = (run_reference k.kept).begun; last = o }) step.moment (offered k.kept step) mean) ≡ None
    by false o e = refl
    by true None e = absurd cc
    by true (Some last) e = ap (because Moved) (not_some (moved_price last step.moment mean) e)

-- The record.

-- what a trade or a tick leaves as it was
record IsPlain (k : Kept) (x : Record) : Type 0 where
  pub often : comes_often x ≡ true
  pub no_day : is_day x ≡ false
  pub listed : listed_by x k.terms ≡ k.terms
  pub quoted : quoted_by k.id x ≡ None
  pub halted : halted_by k.id x k.halted ≡ k.halted
  pub indicated : indicated_by k.id x ≡ None
  pub prior_close : prior_close_by x k.short.prior_close ≡ k.short.prior_close
  pub cancels : cancelled_by k.id x ≡ None

plain : (k : Kept) (x : Record) → brings_deal_or_time x ≡ true → IsPlain k x
plain held (in_.Trade t i n p q f) e = record { often = refl; no_day = refl; listed = refl; quoted = refl; halted = refl; indicated = refl; prior_close = refl; cancels = refl }
plain held (in_.IndexTick t v) e = record { often = refl; no_day = refl; listed = refl; quoted = refl; halted = refl; indicated = refl; prior_close = refl; cancels = refl }
plain held (in_.Clock t) e = record { often = refl; no_day = refl; listed = refl; quoted = refl; halted = refl; indicated = refl; prior_close = refl; cancels = refl }
plain held (in_.Day t d c) e = absurd cc
plain held (in_.Listing t name tier l c) e = absurd cc
plain held (in_.Cancel t i n) e = absurd cc
plain held (in_.Quote t i bid offer y z) e = absurd cc
plain held (in_.Notice t i kind) e = absurd cc
plain held (in_.Indication t i p u) e = absurd cc

-- the restriction stays where the deal isn't the first to trigger it
stays_triggered : (a b : Bool) → (a && not b) ≡ false → (a || b) ≡ b
stays_triggered true true e = refl
stays_triggered true false e = absurd cc
stays_triggered false b e = refl

is_here : (k : Kept) (x : Record) → is_out k ≡ false → away x k.terms ≡ false
is_here k x inside = by (is_tick x) (is_done k.phase) (is_some k.terms) inside where
  by : (tick done listed : Bool) → (done || not listed) ≡ false → (tick && not listed) ≡ false
  by tick true listed e = absurd cc
  by tick false false e = absurd cc
  by true false true e = refl
  by false false true e = refl

-- before time brings anything but a new reference price
pub awaited : (market : MarketView) (x : Record) (k : Kept) (deals : List Deal) (due : Due) (deal : Option Deal) → IsDue (Some due) k deals → brings_deal_or_time x ≡ true → due.from ≤ moment_of x → moment_of x < due.waits → market ≡ due.market
    → deal ≡ deal_of market.day k.id x → has_price k ≡ true → is_out k ≡ false → (if is_some k.run then option_to_list deal else []) ≡ option_to_list deal → (triggers_by k.short.prior_close deal && not k.short.triggered) ≡ false
    → IsAwaited k market x deal
awaited market x k deals due deal is kind from later same own priced inside counts restricts = by (is inside) where
  from_now : Waits k due.market.day due.market.stopped due.from due.waits → Waits k due.market.day due.market.stopped (moment_of x) due.waits
  from_now w = record { closes = w.closes; starts = w.starts; pauses = w.pauses; reopens = w.reopens; bands = λ u day le lt. w.bands u day (omega (arith, le, from)) lt }

  by : IsIdle k deals due → IsAwaited k market x deal
  by idle =
      record {
        kind = kind;
        inside = inside;
        settled = subst (λ (m : MarketView). IsSettled k m.stopped) (sym same) idle.settled;
        until = due.waits;
        later = later;
        waits = subst (λ (m : MarketView). Waits k m.day m.stopped (moment_of x) due.waits) (sym same) (from_now idle.waits);
        own = own;
        priced = priced;
        counts = counts;
        restricts = restricts;
      }

module _ (market : MarketView) (x : Record) (k : Kept) (deal : Option Deal) (w : IsAwaited k market x deal) where
  abbrev stepped : Step
  stepped = step_for market x

  of_plain : IsPlain k x
  of_plain = plain k x w.kind

  -- all that the record leaves for the rules is its deal
  took : taken k stepped ≡ in_step k (just_opened deal false)
  took =
      (λ j. in_step
      (record k {
        terms = of_plain.listed j;
        run = option_map (requoted (of_plain.quoted j)) k.run;
        halted = of_plain.halted j;
        auction = heard (of_plain.indicated j) k.auction;
        short = record k.short { prior_close = of_plain.prior_close j; triggered = triggers_by (of_plain.prior_close j) (sym w.own j) || k.short.triggered };
      })
      (just_opened (sym w.own j) (triggers_by (of_plain.prior_close j) (sym w.own j) && not k.short.triggered)))
      ∙ (λ j. in_step
      (record k {
        run = same_run k.run j;
        short = record k.short { triggered = stays_triggered (triggers_by k.short.prior_close deal) k.short.triggered w.restricts j };
      })
      (just_opened deal (w.restricts j)))

  pub awaited-taken : HasTaken k k market x deal
  awaited-taken = record { takes = took; cancels = of_plain.cancels }

  pub awaited-moves : MayMove k market x deal
  awaited-moves = record {
    often = of_plain.often;
    settled = w.settled;
    until = w.until;
    later = w.later;
    waits = w.waits;
    recent = subst (λ (o : Option Deal). live (moment_of x) (option_to_list o) ≡ option_to_list o) (sym w.own) (live-own market.day k.id x);
    priced = w.priced;
    counts = w.counts;
  }

module _ (market : MarketView) (x : Record) (was k : Kept) (deals : List Deal) (deal : Option Deal) (w : MayMove k market x deal) (has : HasTaken was k market x deal)
    (keeps : keeps_price k (moment_of x) (mean_of (live (moment_of x) (live (moment_of x) deals ++ option_to_list deal))) ≡ true) where
  abbrev t : ℕ
  t = moment_of x

  abbrev step : Step
  step = step_for market x

  abbrev left : List Deal
  left = live t deals ++ option_to_list deal

  abbrev with_deal : InStep
  with_deal = in_step k (just_opened deal false)

  -- and once its step is over
  over : k ≡ (taken was step).kept
  over = ap (λ (l : InStep). l.kept) (sym has.takes)

  abbrev stayed : List Deal
  stayed = live t (filter (leaves was.id x) deals)

  all : stayed ≡ live t deals
  all = ap (live t) (leaves-all was.id x deals has.cancels)

  waits : WaitsAt (taken was step).kept step w.until
  waits = subst (λ (kept : Kept). WaitsAt kept step w.until) over (record { often = w.often; later = w.later; waits = w.waits })

  settled : IsSettled (taken was step).kept market.stopped
  settled = subst (λ (kept : Kept). IsSettled kept market.stopped) over w.settled

  -- the window with the deal
  dealt_in : (stayed ++ (if is_some k.run then option_to_list deal else [])) ≡ left
  dealt_in = λ j. all j ++ w.counts j

  no_price : reference (taken was step) step (mean_of (live t (window (taken was step) stayed))) ≡ None
  no_price =
      subst (λ (l : InStep). reference l step (mean_of (live t (window l stayed))) ≡ None) (sym has.takes)
      (ap (λ (ds : List Deal). reference with_deal step (mean_of (live t ds))) dealt_in ∙ kept-none with_deal step (mean_of (live t left)) refl keeps)

  keeps_deals : SameLive t left (window (taken was step) stayed)
  keeps_deals =
      subst (λ (l : InStep). SameLive t left (window l stayed)) (sym has.takes)
      (subst (λ (ds : List Deal). SameLive t left ds) (sym dealt_in) (record { at = λ u le. refl }))

  -- a record that brings no new reference price, and leaves nothing but its deal for the rules
  pub kept-steps : (before : List Message) → Steps step was k deals left before before
  kept-steps before =
      let spoken = speaks-quiet (taken was step) stayed step before (Some w.until) refl waits settled no_price (ap (λ (l : InStep). l.opened.restricts) has.takes) in
      step-evaluates step was spoken.said (taken was step) (taken was step) k deals (filter (leaves was.id x) deals) stayed stayed left before spoken.between before
      refl refl refl refl spoken.announces spoken.obeys keeps_deals over

-- a stock that is listed is evaluated at ticks too
pub awaited-here : (k : Kept) (market : MarketView) (x : Record) (deal : Option Deal) → IsAwaited k market x deal → away x k.terms ≡ false
awaited-here k market x deal w = is_here k x w.inside

pub awaited-no_day : (k : Kept) (market : MarketView) (x : Record) (deal : Option Deal) → IsAwaited k market x deal → is_day x ≡ false
awaited-no_day k market x deal w = let of_plain = plain k x w.kind in of_plain.no_day

-- while the stock is due, only a new reference price can come until then
pub due-still : (o : Option Due) (k : Kept) (deals : List Deal) → IsDue o k deals → is_out k ≡ false → IfSome o (λ due. IsStill k due)
due-still None k deals is inside = tt
due-still (Some due) k deals is inside = let idle = is inside in record { settled = idle.settled; waits = idle.waits }

-- what the code asks once the old deals are gone
pub keeps-at : (k : Kept) (gone deals : List Deal) (deal : Option Deal) (t u : ℕ) (answer : Bool) → t ≡ u → gone ≡ deals → answer ≡ keeps_price k t (mean_of (live t (gone ++ option_to_list deal))) → answer ≡ true
    → keeps_price k u (mean_of (live u (deals ++ option_to_list deal))) ≡ true
keeps-at k gone deals deal t u answer at same is passes = (λ i. keeps_price k (sym at i) (mean_of (live (sym at i) (sym same i ++ option_to_list deal)))) ∙ sym is ∙ passes

-- a record that brings a new reference price, and leaves nothing but its deal for the rules
pub moved-steps : (was k : Kept) (mid : InStep) (market : MarketView) (x : Record) (s : Step) (deal : Option Deal) (kept lent left : List Deal) (before after : List Message) → s ≡ step_for market x → MayMove k market x deal → HasTaken was k market x deal → live (moment_of x) kept ≡ lent
    → ObeysAll lent symbol_rules s (in_step k (just_opened deal false)) mid before after
    → SameLive s.moment left ((if mid.opened.is_fresh then [] else lent) ++ (if is_some mid.kept.run then option_to_list deal else []))
    → Steps (step_for market x) was mid.kept kept left before after
moved-steps was k mid market x s deal kept lent left before after is w has gone obeys keeps =
    let opened = in_step k (just_opened deal false) in
    step-evaluates (step_for market x) was opened mid opened mid.kept kept (filter (leaves was.id x) kept) lent lent left before before after
    refl (sym gone ∙ ap (live (moment_of x)) (sym (leaves-all was.id x kept has.cancels))) refl (sym has.takes)
    (announces-none opened (step_for market x) before w.often)
    (subst (λ (u : Step). ObeysAll lent symbol_rules u opened mid before after) is obeys)
    (subst (λ (u : Step). SameLive u.moment left ((if mid.opened.is_fresh then [] else lent) ++ (if is_some mid.kept.run then option_to_list deal else []))) is keeps) refl

pub moved-recent : (k : Kept) (market : MarketView) (x : Record) (deal : Option Deal) (t : ℕ) → MayMove k market x deal → t ≡ moment_of x → live t (option_to_list deal) ≡ option_to_list deal
moved-recent k market x deal t w at = subst (λ (u : ℕ). live u (option_to_list deal) ≡ option_to_list deal) (sym at) w.recent

-- and before whose bands no rule says anything
pub awaits-price : (k : Kept) (market : MarketView) (x : Record) (deal : Option Deal) (step : Step) → step ≡ step_for market x → MayMove k market x deal → is_trading k.phase ≡ true → AwaitsPrice k step
awaits-price k market x deal step is w trading = subst (AwaitsPrice k) (sym is) (record {
  trading = trading;
  settled = w.settled;
  until = w.until;
  waits = record { often = w.often; later = w.later; waits = w.waits };
})

-- the mean that it brings
pub mean-moves : (market : MarketView) (x : Record) (k : Kept) (deals : List Deal) (deal : Option Deal) (step : Step) → step ≡ step_for market x → MayMove k market x deal
    → keeps_price k (moment_of x) (mean_of (live (moment_of x) (deals ++ option_to_list deal))) ≡ false → MeanMoves (in_step k (just_opened deal false)) deals step
mean-moves market x k deals deal step is w moves =
    subst (MeanMoves with_deal deals) (sym is) (by (is_trading k.phase) (run_reference k).last (mean_of (live t (deals ++ option_to_list deal))) refl refl refl w.priced moves)
  where
    t : ℕ
    t = moment_of x

    with_deal : InStep
    with_deal = in_step k (just_opened deal false)

    it : (b : Bool) (m : ℕ) → not (is_some (if b then Some m else None)) ≡ false → (if b then Some m else None) ≡ Some m
    it true m e = refl
    it false m e = absurd cc

    by : (trading : Bool) (o : Option Adoption) (mean : Option ℕ) → is_trading k.phase ≡ trading → (run_reference k).last ≡ o → mean_of (live t (deals ++ option_to_list deal)) ≡ mean
        → (is_some o || not trading) ≡ true → (not trading || option_map_or (λ last. not (is_some (moved_price last t mean))) o false) ≡ false → MeanMoves with_deal deals (step_for market x)
    by false o mean trades is at priced moves = absurd cc
    by true None mean trades is at priced moves = absurd cc
    by true (Some last) None trades is at priced moves = absurd cc
    by true (Some last) (Some m) trades is at priced moves =
        record {
          price = m;
          mean = at;
          prices =
              ap (λ (ds : List Deal). reference with_deal (step_for market x) (mean_of (live t (deals ++ ds)))) w.counts
              ∙ (λ i. if not (trades i) then None else priced_by None (record { begun = (run_reference k).begun; last = is i }) t (offered k (step_for market x)) (at i))
              ∙ ap (because Moved) (it (moved_one_percent m last.price && has_stood last t) m moves);
        }
