use Rattle.std.proofs.Common.{◌≡◌, List, ℕ, [], sym, ap, ◌∙◌}
use Rattle.std.specs.Prelude.{Option, Some, None}
use Rattle.std.specs.Option.{option_map_or}
use Rattle.price_core.specs.declared.quote.Cause.TheVariants.{Moved}
use Rattle.refprice_core.specs.declared.reference.Priced.{Priced}
use Rattle.window_core.specs.Deals.{live, mean_of}
use Rattle.pause_core.specs.Phases.{is_done}
use Rattle.rulebook.specs.Rules as rules
use Rattle.wire_out.specs.declared.message.Message.{Message}
use Rattle.symbol_core.specs.InStep.{in_step}
use Rattle.symbol_core.specs.Pricing.{band, band_by_time, banding}
use Rattle.symbol_core.specs.Runs.{run_band}
use Rattle.symbol_core.specs.Stands.{phase_after}
use Rattle.symbol_core.specs.Window.{window}
use Rattle.symbol_core.proofs.Banding.{trading-goes_on}
use Rattle.symbol_core.proofs.Chains.{obeys_with}
use Rattle.symbol_core.proofs.Gives.{banding-gives, mean-gives}
use Rattle.symbol_core.proofs.GoesOn.{banding-goes_on}
use Rattle.symbol_core.proofs.state.Kept.publish_moved.Goals as goal

pub returns-in-Some-clause-obeys : goal.returns-in-Some-clause-obeys
returns-in-Some-clause-obeys c =
    let k = in_step c.args.self.now c.args.opened.now in
    let step = c.args.step.now in
    let deals = c.args.deals.now.deals in
    let mean = mean_of (live step.moment (window k deals)) in
    let price : Some c.requires.moves.price ≡ Some c.in-Some.mean = sym c.requires.moves.mean ∙ sym c.mean_with.ensures ∙ c.in-Some.is in
    let same : banding mean k step ≡ band k.kept step Moved c.in-Some.mean =
    ap (λ (o : Option Priced). elim o [ Some r ↦ band k.kept step r.cause r.price | None ↦ option_map_or (band_by_time k.kept step) (run_band k.kept) [] ]) c.requires.moves.prices
    ∙ ap (λ (o : Option ℕ). option_map_or (band k.kept step Moved) o []) price in
    let goes_on = trading-goes_on k.kept.phase c.requires.trading in
    obeys_with deals rules.publish_band goes_on (ap (λ (ms : List Message). is_done (phase_after k.kept.phase ms)) (sym same) ∙ banding-goes_on mean k step goes_on) c.band.ensures.says
    (λ mine h s. banding-gives mean k step mine deals h s (mean-gives k step mine deals h s) ∙ same)

pub returns-in_default : goal.returns-in_default
returns-in_default c =
    let none : Some c.requires.moves.price ≡ None = sym c.requires.moves.mean ∙ sym c.mean_with.ensures ∙ c.in_default.is in absurd cc
