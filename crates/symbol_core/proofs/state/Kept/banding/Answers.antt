use Rattle.std.proofs.Common.{◌≡◌, true, false, sym, ◌∙◌}
use Rattle.window_core.specs.Deals.{live, mean_of}
use Rattle.symbol_core.specs.Window.{window}
use Rattle.symbol_core.proofs.Pauses.{priced-adopts}
use Rattle.symbol_core.specs.InStep.{in_step}
use Rattle.symbol_core.proofs.state.Kept.banding.Goals as goal

pub band-requires-clause-times : goal.band-requires-clause-times
band-requires-clause-times c = λ times.
    let k = in_step c.args.self.now c.args.opened.now in
    let step = c.args.step.now in
    let mean = mean_of (live step.moment (window k c.args.deals.now.deals)) in
    let both : true ≡ false = sym times ∙ priced-adopts k step mean c.in-Some.r (sym c.reference.ensures ∙ c.in-Some.is) in absurd cc
