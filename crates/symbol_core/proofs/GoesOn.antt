-- A symbol that isn't closed still isn't once a rule after the turn has said something.
use Rattle.std.proofs.Common.{◌≡◌, ℕ, Bool, true, false, List, [], ◌∷◌, refl}
use Rattle.std.specs.Prelude.{Option, Some, None, if◌then◌else◌, ◌&&◌, ◌||◌, not}
use Rattle.std.specs.Option.{option_map_or}
use Rattle.session_core.specs.declared.state.Phase.{Phase}
use Rattle.session_core.specs.declared.state.Phase.TheVariants as phase
use Rattle.session_core.specs.Times.{in_last_10_minutes}
use Rattle.price_core.specs.declared.quote.Cause.{Cause}
use Rattle.limit_core.specs.Timers.{has_lasted}
use Rattle.wire_out.specs.declared.message.Message.{Message}
use Rattle.wire_out.specs.declared.message.Message.TheVariants as out
use Rattle.pause_core.specs.Pauses.{is_asked, is_limited}
use Rattle.pause_core.specs.Phases.{is_done, is_limit, is_trading}
use Rattle.refprice_core.specs.declared.reference.Priced.{Priced}
use Rattle.reopen_core.specs.declared.auction.Trial.{Trial}
use Rattle.reopen_core.specs.declared.auction.Trial.TheVariants as trial
use Rattle.reopen_core.specs.AuctionState.{AuctionState, with_trial}
use Rattle.reopen_core.specs.Trials as trials
use Rattle.rulebook.specs.declared.symbol.Banded.{Banded}
use Rattle.rulebook.specs.declared.symbol.Terms.{Terms}
use Rattle.rulebook.specs.Rules.{asks_to_pause, at_band}
use Rattle.rulebook.specs.Symbol.{bands_of}
use Rattle.symbol_core.specs.declared.state.Kept.{Kept}
use Rattle.symbol_core.specs.declared.state.Step.{Step}
use Rattle.symbol_core.specs.InStep.{InStep}
use Rattle.symbol_core.specs.Kept.{auction_begun, collars_of, is_straddling_now, pausing, pausing_as, reopened, reopening, reopening_with, straddling}
use Rattle.symbol_core.specs.Pricing.{band, band_by_time, banding, reference, time_changes}
use Rattle.symbol_core.specs.Runs.{run_band, run_quote}
use Rattle.symbol_core.specs.Stands.{phase_after}
use Rattle.symbol_core.proofs.Gives.{entering, leaving}

-- a phase that isn't closed stays so after these messages
abbrev pub GoesOn : Phase → List Message → Type 0
GoesOn p ms = is_done p ≡ false → is_done (phase_after p ms) ≡ false

pub pausing-goes_on : (k : Kept) (step : Step) → GoesOn k.phase (pausing k step)
pausing-goes_on k step e =
    by (is_limited (has_lasted k.since step.moment) k.phase || is_asked (asks_to_pause k.id step.input) k.straddling k.phase) (in_last_10_minutes step.moment step.day) where
      round : (o : Option Banded) → is_done (phase_after phase.Paused (option_map_or (λ b. collars_of k.id (auction_begun k step b)) o [])) ≡ false
      round None = refl
      round (Some b) = refl

      by : (pauses last : Bool) → is_done (phase_after k.phase (option_map_or (pausing_as k step) (if pauses then (if last then Some phase.Closing else Some phase.Paused) else None) [])) ≡ false
      by false last = e
      by true true = refl
      by true false = round (run_band k)

pub reopening-goes_on : (k : Kept) (step : Step) → GoesOn k.phase (reopening k step)
reopening-goes_on k step e = by k.auction where
  by_trial : (a : AuctionState) (t : Trial) → is_done (phase_after k.phase (reopened k a t)) ≡ false
  by_trial a trial.NotDue = e
  by_trial a (trial.Extend collars) = e
  by_trial a (trial.Release price) = refl
  by_trial a trial.Closing = refl

  by : (o : Option AuctionState) → is_done (phase_after k.phase (option_map_or (reopening_with k step) o [])) ≡ false
  by None = e
  by (Some a) =
      let t = trials.trial step.moment (in_last_10_minutes step.moment step.day) a.round a.reference a.indication in
      by_trial (with_trial step.moment t a) t

pub leaving-goes_on : (k : Kept) (step : Step) → GoesOn k.phase (leaving k step)
leaving-goes_on k step e = by (is_limit k.phase && not (at_band k.phase (run_quote k) (run_band k))) where
  by : (leaves : Bool) → is_done (phase_after k.phase (if leaves then out.State k.id phase.Trading ∷ [] else [])) ≡ false
  by true = refl
  by false = e

pub banding-goes_on : (mean : Option ℕ) (k : InStep) (step : Step) → GoesOn k.kept.phase (banding mean k step)
banding-goes_on mean k step e = by (reference k step mean) where
  by_terms : (why : Cause) (price : ℕ) (o : Option Terms)
      → is_done (phase_after k.kept.phase (option_map_or (λ listed. let b = bands_of listed step.day step.moment price in out.Band k.kept.id why price b.lower b.upper ∷ []) o [])) ≡ false
  by_terms why price None = e
  by_terms why price (Some listed) = e

  by_change : (why : Cause) (price : ℕ) (b : Bool) → is_done (phase_after k.kept.phase (if b then band k.kept step why price else [])) ≡ false
  by_change why price true = by_terms why price k.kept.terms
  by_change why price false = e

  by_time : (o : Option Banded) → is_done (phase_after k.kept.phase (option_map_or (band_by_time k.kept step) o [])) ≡ false
  by_time None = e
  by_time (Some last) = by_change Cause.Times last.reference (is_trading k.kept.phase && time_changes k.kept step last)

  by : (o : Option Priced) → is_done (phase_after k.kept.phase (elim o [ Some r ↦ band k.kept step r.cause r.price | None ↦ option_map_or (band_by_time k.kept step) (run_band k.kept) [] ])) ≡ false
  by (Some r) = by_terms r.cause r.price k.kept.terms
  by None = by_time (run_band k.kept)

pub entering-goes_on : (k : Kept) (step : Step) → GoesOn k.phase (entering k step)
entering-goes_on k step e = by (is_trading k.phase) (at_band phase.LimitLow (run_quote k) (run_band k)) (at_band phase.LimitHigh (run_quote k) (run_band k)) where
  by : (trading low high : Bool) → is_done (phase_after k.phase (if not trading then [] else if low then out.State k.id phase.LimitLow ∷ [] else if high then out.State k.id phase.LimitHigh ∷ [] else [])) ≡ false
  by false low high = e
  by true true high = refl
  by true false true = refl
  by true false false = e

pub straddling-goes_on : (k : Kept) (step : Step) → GoesOn k.phase (straddling k step)
straddling-goes_on k step e = by (is_straddling_now k && not k.straddling) (k.straddling && not (is_straddling_now k)) where
  by : (begins ends : Bool) → is_done (phase_after k.phase (if begins then out.Straddle k.id true ∷ [] else if ends then out.Straddle k.id false ∷ [] else [])) ≡ false
  by true ends = e
  by false true = e
  by false false = e
