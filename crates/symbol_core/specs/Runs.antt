-- What is kept of a stock's run, and nothing of it outside a run. Private words: no public clause cites them.
use Rattle.std.specs.Prelude.{ℕ, Option, None, option_map, option_and_then}
use Rattle.std.specs.Option.{option_map_or}
use Rattle.price_core.specs.declared.quote.Quotation.{Quotation}
use Rattle.refprice_core.specs.declared.reference.Adoption.{Adoption}
use Rattle.refprice_core.specs.ReferenceState.{ReferenceState}
use Rattle.rulebook.specs.declared.symbol.Banded.{Banded}
use Rattle.symbol_core.specs.declared.state.Kept.{Kept}

-- the moment at which the run began
abbrev pub run_begun : Kept → Option ℕ
run_begun k = option_map (λ run. run.reference.begun) k.run

-- its last quotation
abbrev pub run_quote : Kept → Option Quotation
run_quote k = option_and_then (λ run. run.quote) k.run

-- its last bands
abbrev pub run_band : Kept → Option Banded
run_band k = option_and_then (λ run. run.band) k.run

-- its last adoption of a reference price
abbrev pub run_adopted : Kept → Option Adoption
run_adopted k = option_and_then (λ run. run.reference.last) k.run

-- its reference price, and outside a run that of one that began at midnight
abbrev pub run_reference : Kept → ReferenceState
run_reference k = option_map_or (λ run. run.reference) k.run (record { begun = 0; last = None })

-- the adoption of the reference price of a run's last bands, where it last took one at that moment
abbrev pub adoption_by : ℕ → Option Banded → Option Adoption
adoption_by moment band = option_map (λ b. record { moment = moment; price = b.reference }) band
