use Rattle.window_core.specs.Deals.{live, mean_of}
use Rattle.rulebook.specs.Rules as rules
use Rattle.symbol_core.specs.Window.{window}
use Rattle.symbol_core.proofs.Chains.{obeys_with}
use Rattle.symbol_core.proofs.Gives.{banding-gives, mean-gives}
use Rattle.symbol_core.proofs.GoesOn.{banding-goes_on}
use Rattle.symbol_core.specs.InStep.{in_step}
use Rattle.symbol_core.proofs.state.Kept.publish_band.Goals as goal

pub returns-clause-obeys : goal.returns-clause-obeys
returns-clause-obeys c =
    let k = in_step c.args.self.now c.args.opened.now in
    let step = c.args.step.now in
    let deals = c.args.deals.now.deals in
    let mean = mean_of (live step.moment (window k deals)) in
    obeys_with deals rules.publish_band c.requires.goes_on (banding-goes_on mean k step c.requires.goes_on) c.banding.ensures.says
    (λ mine h s. banding-gives mean k step mine deals h s (mean-gives k step mine deals h s))
