-- Until when the rules that wait for a time say nothing at a tick.
use Rattle.std.proofs.Common.{◌≤◌, arith, ◌≡◌, ℕ, ◌+◌, ◌<◌, Bool, true, false, cond, List, [], ◌∷◌, refl, sym, ap, ◌∙◌}
use Rattle.std.specs.Prelude.{max, Option, Some, None, if◌then◌else◌, ◌&&◌, ◌||◌, nat_le, nat_lt, not, is_some, option_and_then, option_map, slice_get}
use Rattle.std.specs.Option.{option_map_or}
use Rattle.std.proofs.lemmas.Bool.Decides.{nat_tests}
use Rattle.price_core.specs.Moves.{moved_one_percent}
use Rattle.price_core.specs.declared.quote.Cause.TheVariants.{First, Moved}
use Rattle.session_core.specs.declared.day.Day.{Day}
use Rattle.session_core.specs.declared.state.Phase.{Phase}
use Rattle.session_core.specs.declared.state.Phase.TheVariants.{Closing, Paused}
use Rattle.session_core.specs.Durations.{fifteen_seconds, five_minutes}
use Rattle.session_core.specs.Times.{session_close, session_open}
use Rattle.wire_in.specs.declared.record.Record.{Record}
use Rattle.wire_in.specs.Records.{is_tick}
use Rattle.limit_core.specs.Timers.{has_lasted}
use Rattle.pause_core.specs.Pauses.{is_asked, pause}
use Rattle.pause_core.specs.Phases.{can_start, is_limit, is_trading}
use Rattle.percent_core.specs.Percentages as percentages
use Rattle.percent_core.specs.PriceBands.{bands}
use Rattle.refprice_core.specs.declared.reference.Adoption.{Adoption}
use Rattle.refprice_core.specs.declared.reference.Priced.{Priced}
use Rattle.refprice_core.specs.Prices.{awaits_from, awaits_mean, because, has_stood, moved_price, observed}
use Rattle.reopen_core.specs.AuctionState.{AuctionState}
use Rattle.window_core.specs.declared.window.Deal.{Deal}
use Rattle.window_core.specs.Deals.{mean_has_moved, live, mean_of}
use Rattle.wire_in.proofs.RecordKinds.{by_tick}
use Rattle.rulebook.specs.declared.symbol.Banded.{Banded}
use Rattle.rulebook.specs.declared.symbol.Terms.{Terms}
use Rattle.rulebook.specs.Rules as rules
use Rattle.rulebook.specs.Rules.{or_else}
use Rattle.rulebook.specs.Symbol as of
use Rattle.symbol_core.specs.declared.state.Kept.{Kept}
use Rattle.symbol_core.specs.declared.state.Step.{Step}
use Rattle.symbol_core.specs.Idle.{PricesFrom, changes_bands, pauses_at, reopens_at, starts_at}
use Rattle.symbol_core.specs.InStep.{at_rest}
use Rattle.symbol_core.specs.Pricing.{later_price, offered, priced_by, reference, time_changes}
use Rattle.symbol_core.specs.Runs.{run_band, run_reference}

pub nothing_and : (b : Bool) → (b && false) ≡ false
nothing_and true = refl
nothing_and false = refl

same_either : {X : Type 0} (b : Bool) (x : X) → cond b x x ≡ x
same_either true x = refl
same_either false x = refl

pub none_of : {X : Type 0} (o : Option X) → is_some o ≡ false → o ≡ None
none_of None e = refl
none_of (Some x) e = absurd cc

-- The start of trading.

pub starts-open : (k : Kept) (day : Day) (stopped : Bool) (u : ℕ) → u < session_open → starts_at k day stopped u ≡ false
starts-open k day stopped u before =
    let early : nat_le session_open u ≡ false = grind (arith, nat_tests) in
    (λ i. can_start k.phase && ((early i && nat_lt u (session_close day.close)) && not stopped)) ∙ nothing_and (can_start k.phase)

pub starts-never : (a b c : Bool) → (a && c) ≡ false → (a && (b && c)) ≡ false
starts-never true true c e = e
starts-never true false c e = refl
starts-never false b c e = refl

-- The pause after a limit state.

pub pauses-early : (k : Kept) (u : ℕ) → u < k.since + fifteen_seconds → pauses_at k u ≡ false
pauses-early k u before =
    let early : has_lasted k.since u ≡ false = grind (arith, nat_tests) in
    ap (λ (b : Bool). is_limit k.phase && b) early ∙ nothing_and (is_limit k.phase)

pub pauses-never : (k : Kept) (u : ℕ) → is_limit k.phase ≡ false → pauses_at k u ≡ false
pauses-never k u e = ap (λ (b : Bool). b && has_lasted k.since u) e

and_twice : (a b : Bool) → (a && (a && b)) ≡ (a && b)
and_twice true b = refl
and_twice false b = refl

-- a pause asks of the time alone only in a limit state
pub limited-once : (p : Phase) (lasted asked straddling last : Bool) → pause (is_limit p && lasted) asked straddling p last ≡ pause lasted asked straddling p last
limited-once p lasted asked straddling last =
    ap (λ (limited : Bool). if limited || is_asked asked straddling p then (if last then Some Closing else Some Paused) else None) (and_twice (is_limit p) lasted)

-- The trials of an auction.

pub reopens-early : (k : Kept) (a : AuctionState) (u : ℕ) → k.auction ≡ Some a → u < a.round.moment + five_minutes → reopens_at k u ≡ false
reopens-early k a u is before =
    let early : nat_lt u (a.round.moment + five_minutes) ≡ true = grind (arith, nat_tests) in
    ap (λ (o : Option AuctionState). option_map_or (λ b. not (nat_lt u (b.round.moment + five_minutes))) o false) is ∙ ap (λ (b : Bool). not b) early

pub reopens-without : (k : Kept) (u : ℕ) → k.auction ≡ None → reopens_at k u ≡ false
reopens-without k u is = ap (λ (o : Option AuctionState). option_map_or (λ b. not (nat_lt u (b.round.moment + five_minutes))) o false) is

-- The bands that time brings.

-- time brings no bands where the part of the session stays
times_stay : (k : Kept) (a b : Step) → a.day ≡ b.day → percentages.span a.moment a.day ≡ percentages.span b.moment b.day → option_map_or (time_changes k a) (run_band k) false ≡ option_map_or (time_changes k b) (run_band k) false
times_stay k a b day span = by (run_band k) where
  one : (last : Banded) (o : Option Terms)
      → option_map_or (λ listed. rules.differs (of.bands_of listed a.day a.moment last.reference) last.bands) o false ≡ option_map_or (λ listed. rules.differs (of.bands_of listed b.day b.moment last.reference) last.bands) o false
  one last None = refl
  one last (Some listed) =
      let category = percentages.category listed.prior_close in
      λ i. rules.differs (bands last.reference category (percentages.percent (day i).profile listed.tier category (span i)) listed.leverage) last.bands

  by : (o : Option Banded) → option_map_or (time_changes k a) o false ≡ option_map_or (time_changes k b) o false
  by None = refl
  by (Some last) = one last k.terms

pub bands-stay : (k : Kept) (a b : Step) → b.day ≡ a.day → percentages.span b.moment a.day ≡ percentages.span a.moment a.day → option_map_or (time_changes k a) (run_band k) false ≡ false → changes_bands k b ≡ false
bands-stay k a b day span none =
    ap (λ (changes : Bool). is_trading k.phase && changes) (times_stay k b a day (ap (λ (d : Day). percentages.span b.moment d) day ∙ span) ∙ none)
    ∙ nothing_and (is_trading k.phase)

pub bands-never : (k : Kept) (step : Step) → is_trading k.phase ≡ false → changes_bands k step ≡ false
bands-never k step e = ap (λ (b : Bool). b && option_map_or (time_changes k step) (run_band k) false) e

-- The reference price.

-- the mean, where it has moved and is awaited
abbrev moved : ℕ → Bool → Option ℕ → Option ℕ
moved price awaits mean = option_and_then (λ m. if moved_one_percent m price && awaits then Some m else None) mean

-- the new reference price at a tick, by whether a mean is awaited
abbrev by_mean : Bool → Option ℕ → Option Adoption → Option Priced
by_mean awaits mean None = because First (if awaits then mean else None)
by_mean awaits mean (Some last) = because Moved (moved last.price awaits mean)

-- whether a mean is awaited
abbrev awaits : Kept → ℕ → Bool
awaits k t = awaits_mean (run_reference k).begun (run_reference k).last t

offers_none : (k : Kept) (step : Step) → is_tick step.input ≡ true → offered k step ≡ None
offers_none k step tick = by step.input tick where
  by : (x : Record) → is_tick x ≡ true → or_else (of.opening_price step.day k.id x) (if rules.opens_on_quotes k.id x then of.prior_close_of k.terms else None) ≡ None
  by = by_tick (λ x. or_else (of.opening_price step.day k.id x) (if rules.opens_on_quotes k.id x then of.prior_close_of k.terms else None) ≡ None) (λ t. refl) (λ t v. refl)

late_or_early : (t from : ℕ) → nat_lt t from ≡ not (nat_le from t)
late_or_early t from = by (nat_le from t) refl where
  by : (late : Bool) → nat_le from t ≡ late → nat_lt t from ≡ not late
  by true e = grind (arith, nat_tests)
  by false e = grind (arith, nat_tests)

reference_by_mean : (k : Kept) (step : Step) (mean : Option ℕ) → is_tick step.input ≡ true
    → reference (at_rest k) step mean ≡ (if not (is_trading k.phase) then None else by_mean (awaits k step.moment) mean (run_reference k).last)
reference_by_mean k step mean tick =
    (λ i. if not (is_trading k.phase) then None else priced_by None (run_reference k) step.moment (offers_none k step tick i) mean)
    ∙ ap (λ (o : Option Priced). if not (is_trading k.phase) then None else o) (by (run_reference k).begun (run_reference k).last)
  where
    opening : (b : Bool) → (if not b then None else mean) ≡ (if b then mean else None)
    opening true = refl
    opening false = refl

    by : (begun : ℕ) (o : Option Adoption) → priced_by None (record { begun = begun; last = o }) step.moment None mean ≡ by_mean (awaits_mean begun o step.moment) mean o
    by begun (Some last) = refl
    by begun None =
        ap (λ (early : Bool). because First (if early then None else mean)) (late_or_early step.moment (begun + five_minutes))
        ∙ ap (because First) (opening (nat_le (begun + five_minutes) step.moment))

pub prices-never : (k : Kept) (deals : List Deal) (from until : ℕ) → is_trading k.phase ≡ false → PricesFrom k deals from until
prices-never k deals from until e = λ step tick le before.
    ap (λ (b : Bool). if not b then None else later_price (at_rest k) step (mean_of (live step.moment deals))) e

-- without deals
no_mean : (trading awaits : Bool) (o : Option Adoption) → (if not trading then None else by_mean awaits None o) ≡ None
no_mean false awaits o = refl
no_mean true true None = refl
no_mean true false None = refl
no_mean true awaits (Some last) = refl

pub prices-empty : (k : Kept) (deals : List Deal) (from until : ℕ) → option_map (λ d. d.moment) (slice_get deals 0) ≡ None → PricesFrom k deals from until
prices-empty k [] from until e = λ step tick le before. reference_by_mean k step None tick ∙ no_mean (is_trading k.phase) (awaits k step.moment) (run_reference k).last
prices-empty k (d ∷ deals) from until e = absurd cc

not_awaited : (price : ℕ) (mean : Option ℕ) → moved price false mean ≡ None
not_awaited price None = refl
not_awaited price (Some m) = ap (λ (b : Bool). if b then Some m else None) (nothing_and (moved_one_percent m price))

-- before a mean is awaited
pub prices-unawaited : (k : Kept) (deals : List Deal) (from : ℕ) → PricesFrom k deals from (awaits_from (run_reference k).begun (run_reference k).last)
prices-unawaited k deals from = λ step tick le before.
    let early : awaits k step.moment ≡ false = grind (arith, nat_tests) in
    let mean = mean_of (live step.moment deals) in
    reference_by_mean k step mean tick
    ∙ ap (λ (b : Bool). if not (is_trading k.phase) then None else by_mean b mean (run_reference k).last) early
    ∙ ap (λ (o : Option Priced). if not (is_trading k.phase) then None else o) (by mean (run_reference k).last)
    ∙ same_either (not (is_trading k.phase)) None
  where
    by : (mean : Option ℕ) (o : Option Adoption) → by_mean false mean o ≡ None
    by mean None = refl
    by mean (Some last) = ap (because Moved) (not_awaited last.price mean)

-- after a reference price, by whether the mean has moved
by_last : (k : Kept) (a : Adoption) (step : Step) (mean : Option ℕ) → is_tick step.input ≡ true → (run_reference k).last ≡ Some a → moved a.price (has_stood a step.moment) mean ≡ None → reference (at_rest k) step mean ≡ None
by_last k a step mean tick is none =
    reference_by_mean k step mean tick
    ∙ ap (λ (o : Option Adoption). if not (is_trading k.phase) then None else by_mean (awaits_mean (run_reference k).begun o step.moment) mean o) is
    ∙ ap (λ (o : Option ℕ). if not (is_trading k.phase) then None else because Moved o) none
    ∙ same_either (not (is_trading k.phase)) None

-- a mean that hasn't moved is no new reference price
pub none_moves : (a : Adoption) (t : ℕ) (mean : Option ℕ) → option_map_or (λ m. moved_one_percent m a.price) mean false ≡ false → moved_price a t mean ≡ None
none_moves a t None e = refl
none_moves a t (Some m) e = ap (λ (b : Bool). if b && has_stood a t then Some m else None) e

pub mean-unmoved : (begun : ℕ) (a : Adoption) (last : Option Adoption) (t : ℕ) (offered mean : Option ℕ) → last ≡ Some a → option_map_or (λ m. moved_one_percent m a.price) mean false ≡ false
    → observed begun last t offered None ≡ observed begun last t offered mean
mean-unmoved begun a last t offered mean is e =
    ap (λ (o : Option Adoption). observed begun o t offered None) is ∙ ap (because Moved) (sym (none_moves a t mean e)) ∙ ap (λ (o : Option Adoption). observed begun o t offered mean) (sym is)

-- and once another is awaited none comes while the mean of the deals that are left hasn't moved
pub prices-left : (k : Kept) (a : Adoption) (deals : List Deal) (from awaits until : ℕ) → (run_reference k).last ≡ Some a → awaits ≡ awaits_from (run_reference k).begun (run_reference k).last
    → ((u : ℕ) → max from awaits ≤ u → u < until → mean_has_moved a.price (live u deals) ≡ false) → PricesFrom k deals from until
prices-left k a deals from awaits until is begins near = λ step tick le before. by step tick le before (nat_lt step.moment awaits) refl where
  by : (step : Step) → is_tick step.input ≡ true → from ≤ step.moment → step.moment < until → (early : Bool) → nat_lt step.moment awaits ≡ early → reference (at_rest k) step (mean_of (live step.moment deals)) ≡ None
  by step tick le before true e = let soon : step.moment < awaits = grind (arith, nat_tests) in prices-unawaited k deals from step tick le (omega (arith, soon, begins))
  by step tick le before false e =
      let late : awaits ≤ step.moment = grind (arith, nat_tests) in
      by_last k a step (mean_of (live step.moment deals)) tick is
      (none_moves a step.moment (mean_of (live step.moment deals)) (near step.moment (omega (arith, le, late)) before))

-- The price of a release, else what is observed.

pub released-first : (p : Option ℕ) (o : Option Priced) → is_some p ≡ true → because First p ≡ or_else (because First p) o
released-first None o e = absurd cc
released-first (Some p) o e = refl

pub released-none : (p : Option ℕ) (o : Option Priced) → is_some p ≡ false → o ≡ or_else (because First p) o
released-none None o e = refl
released-none (Some p) o e = absurd cc
