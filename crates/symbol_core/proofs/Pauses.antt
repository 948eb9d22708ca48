-- Which rules pause a stock: the close, a market-wide halt, the start and a regulatory halt don't.
use Rattle.std.proofs.Common.{◌≡◌, ℕ, Bool, true, false, refl, sym, ap, ◌∙◌}
use Rattle.std.specs.Prelude.{Option, Some, None, if◌then◌else◌, not, is_some, ◌&&◌}
use Rattle.std.specs.Option.{option_map_or}
use Rattle.session_core.specs.declared.state.Phase.{Phase}
use Rattle.session_core.specs.declared.state.Phase.TheVariants as phase
use Rattle.pause_core.specs.declared.turning.Brakes.{Brakes}
use Rattle.pause_core.specs.Phases.{is_in_regulatory_halt, is_trading}
use Rattle.pause_core.specs.Turns as turns
use Rattle.refprice_core.specs.declared.reference.Priced.{Priced}
use Rattle.refprice_core.specs.declared.reference.Adoption.{Adoption}
use Rattle.refprice_core.specs.Prices.{because, first_price, forced, moved_price, observed}
use Rattle.price_core.specs.declared.quote.Cause.{Cause}
use Rattle.price_core.specs.declared.quote.Cause.TheVariants.{First, Forced, Moved}
use Rattle.rulebook.specs.Rules.{or_else}
use Rattle.rulebook.specs.Symbol.{is_times}
use Rattle.rulebook.specs.Auction.{is_paused}
use Rattle.symbol_core.specs.declared.state.Kept.{Kept}
use Rattle.symbol_core.specs.declared.state.Step.{Step}
use Rattle.symbol_core.specs.InStep.{InStep}
use Rattle.symbol_core.specs.Kept.{begins_auction}
use Rattle.symbol_core.specs.Pricing.{later_price, offered, reference, released_first}
use Rattle.symbol_core.specs.Runs.{run_band, run_reference}

-- a rule that pauses no stock
abbrev pub Unpaused : (Phase → Brakes → Option Phase) → Type 0
Unpaused rule = (p : Phase) (b : Brakes) → option_map_or is_paused (rule p b) false ≡ false

one_phase : (test : Bool) (p : Phase) → is_paused p ≡ false → option_map_or is_paused (if test then Some p else None) false ≡ false
one_phase true p e = e
one_phase false p e = refl

pub close-unpaused : Unpaused turns.session_close
close-unpaused p b = one_phase b.closed phase.Closed refl

pub stop-unpaused : Unpaused turns.market_halt
stop-unpaused p b = one_phase (turns.market_halts p b) phase.Stopped refl

pub start-unpaused : Unpaused turns.start
start-unpaused p b = one_phase (turns.starts p b) phase.Trading refl

after_halt : (stopped in_session : Bool) → is_paused (if stopped then phase.Stopped else if in_session then phase.Trading else phase.Shut) ≡ false
after_halt true in_session = refl
after_halt false true = refl
after_halt false false = refl

halted_phase : (halted already : Bool) (p : Phase) → is_paused p ≡ false → option_map_or is_paused (if halted then (if already then None else Some phase.Halted) else if already then Some p else None) false ≡ false
halted_phase true true p e = refl
halted_phase true false p e = refl
halted_phase false true p e = e
halted_phase false false p e = refl

pub halt-unpaused : Unpaused turns.regulatory_halt
halt-unpaused p b = halted_phase b.halted (is_in_regulatory_halt p) (turns.phase_after_regulatory_halt b) (after_halt b.stopped b.in_session)

-- such a phase begins no auction
pub alone : (k : Kept) (p : Phase) (o : Option Phase) → o ≡ Some p → option_map_or is_paused o false ≡ false → begins_auction k p ≡ false
alone k p o is e = ap (λ (b : Bool). b && is_some (run_band k)) (ap (λ (q : Option Phase). option_map_or is_paused q false) (sym is) ∙ e)

-- a stock that trades isn't paused
pub trading-unpaused : (p : Phase) → is_trading p ≡ true → is_paused p ≡ false
trading-unpaused phase.Shut e = refl
trading-unpaused phase.Trading e = refl
trading-unpaused phase.LimitLow e = refl
trading-unpaused phase.LimitHigh e = refl
trading-unpaused phase.Paused e = absurd cc
trading-unpaused phase.Closing e = refl
trading-unpaused phase.Halted e = refl
trading-unpaused phase.Stopped e = refl
trading-unpaused phase.Closed e = refl

-- one with a new reference price trades
pub priced-unpaused : (k : InStep) (step : Step) (mean : Option ℕ) (r : Priced) → reference k step mean ≡ Some r → is_paused k.kept.phase ≡ false
priced-unpaused k step mean r e = trading-unpaused k.kept.phase (by (is_trading k.kept.phase) e)
  where
    by : (trades : Bool) → (if not trades then None else if k.opened.left_limit then forced mean else later_price k step mean) ≡ Some r → trades ≡ true
    by true e = refl
    by false e = absurd cc

-- A new reference price isn't of the time of day.

abbrev by_time : Option Priced → Bool
by_time o = option_map_or (λ r. is_times r.cause) o false

because_adopts : (c : Cause) (p : Option ℕ) → is_times c ≡ false → by_time (because c p) ≡ false
because_adopts c None e = refl
because_adopts c (Some p) e = e

observed_adopts : (begun : ℕ) (last : Option Adoption) (t : ℕ) (offered mean : Option ℕ) → by_time (observed begun last t offered mean) ≡ false
observed_adopts begun None t offered mean = because_adopts First (first_price begun t offered mean) refl
observed_adopts begun (Some last) t offered mean = because_adopts Moved (moved_price last t mean) refl

either_adopts : (p : Option ℕ) (o : Option Priced) → by_time o ≡ false → by_time (or_else (because First p) o) ≡ false
either_adopts None o e = e
either_adopts (Some p) o e = refl

pub priced-adopts : (k : InStep) (step : Step) (mean : Option ℕ) (r : Priced) → reference k step mean ≡ Some r → is_times r.cause ≡ false
priced-adopts k step mean r e = sym (ap by_time e) ∙ by (is_trading k.kept.phase) k.opened.left_limit
  where
    last : Option Adoption
    last = (run_reference k.kept).last

    by : (trades left : Bool) → by_time (if not trades then None else if left then forced mean else later_price k step mean) ≡ false
    by false left = refl
    by true true = because_adopts Forced mean refl
    by true false = either_adopts (released_first k.opened.released last) (observed (run_reference k.kept).begun last step.moment (offered k.kept step) mean) (observed_adopts (run_reference k.kept).begun last step.moment (offered k.kept step) mean)
