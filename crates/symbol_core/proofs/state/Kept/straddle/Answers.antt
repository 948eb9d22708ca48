use Rattle.rulebook.specs.Rules as rules
use Rattle.symbol_core.proofs.Chains.{obeys}
use Rattle.symbol_core.proofs.Gives.{straddle-gives}
use Rattle.symbol_core.proofs.GoesOn.{straddling-goes_on}
use Rattle.symbol_core.specs.InStep.{in_step}
use Rattle.symbol_core.proofs.state.Kept.straddle.Goals as goal

pub returns-clause-obeys : goal.returns-clause-obeys
returns-clause-obeys c = λ opened.
    let k = c.args.self.now in
    let step = c.args.step.now in
    obeys rules.straddle c.requires.goes_on (straddling-goes_on k step c.requires.goes_on) (c.straddling.ensures.says opened) (straddle-gives (in_step k opened) step)
