-- The rule of new reference prices and bands over what is kept and the mean. Private words: no public clause cites them.
use Rattle.std.specs.Prelude.{ℕ, Bool, false, Option, Some, None, List, [], ◌∷◌, if◌then◌else◌, not, ◌&&◌, is_some}
use Rattle.std.specs.Option.{option_map_or}
use Rattle.price_core.specs.declared.quote.Cause.{Cause}
use Rattle.price_core.specs.declared.quote.Cause.TheVariants as cause
use Rattle.wire_out.specs.declared.message.Message.{Message}
use Rattle.wire_out.specs.declared.message.Message.TheVariants as out
use Rattle.pause_core.specs.Phases.{is_trading}
use Rattle.refprice_core.specs.declared.reference.Adoption.{Adoption}
use Rattle.refprice_core.specs.declared.reference.Priced.{Priced}
use Rattle.refprice_core.specs.Prices.{because, forced, observed}
use Rattle.refprice_core.specs.ReferenceState.{ReferenceState}
use Rattle.rulebook.specs.declared.symbol.Banded.{Banded}
use Rattle.rulebook.specs.Rules.{or_else, opens_on_quotes, differs}
use Rattle.rulebook.specs.Symbol.{bands_of, prior_close_of, opening_price}
use Rattle.symbol_core.specs.declared.state.Kept.{Kept}
use Rattle.symbol_core.specs.declared.state.Step.{Step}
use Rattle.symbol_core.specs.InStep.{InStep}
use Rattle.symbol_core.specs.Runs.{run_band, run_reference}

abbrev pub offered : Kept → Step → Option ℕ
offered k step = or_else (opening_price step.day k.id step.input) (if opens_on_quotes k.id step.input then prior_close_of k.terms else None)

-- the price of a release, where the run has taken none yet
abbrev pub released_first : Option ℕ → Option Adoption → Option ℕ
released_first released last = if is_some last then None else released

-- a new reference price outside the end of a limit state: that of a release, else what the run observes
abbrev pub priced_by : Option ℕ → ReferenceState → ℕ → Option ℕ → Option ℕ → Option Priced
priced_by released reference t offered mean =
    or_else (because cause.First (released_first released reference.last)) (observed reference.begun reference.last t offered mean)

abbrev pub later_price : InStep → Step → Option ℕ → Option Priced
later_price k step mean = priced_by k.opened.released (run_reference k.kept) step.moment (offered k.kept step) mean

abbrev pub reference : InStep → Step → Option ℕ → Option Priced
reference k step mean =
    if not (is_trading k.kept.phase) then None
    else if k.opened.left_limit then forced mean
    else later_price k step mean

abbrev pub band : Kept → Step → Cause → ℕ → List Message
band k step why price =
    option_map_or (λ listed. let b = bands_of listed step.day step.moment price in out.Band k.id why price b.lower b.upper ∷ []) k.terms []

abbrev pub time_changes : Kept → Step → Banded → Bool
time_changes k step last = option_map_or (λ listed. differs (bands_of listed step.day step.moment last.reference) last.bands) k.terms false

abbrev pub band_by_time : Kept → Step → Banded → List Message
band_by_time k step last = if is_trading k.phase && time_changes k step last then band k step cause.Times last.reference else []

abbrev pub banding : Option ℕ → InStep → Step → List Message
banding mean k step =
    elim (reference k step mean) [
      | Some r ↦ band k.kept step r.cause r.price
      | None ↦ option_map_or (band_by_time k.kept step) (run_band k.kept) []
    ]
