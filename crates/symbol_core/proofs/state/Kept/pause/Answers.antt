use Rattle.rulebook.specs.Rules as rules
use Rattle.symbol_core.proofs.Chains.{obeys}
use Rattle.symbol_core.proofs.Gives.{pause-gives}
use Rattle.symbol_core.proofs.GoesOn.{pausing-goes_on}
use Rattle.symbol_core.specs.InStep.{in_step}
use Rattle.symbol_core.proofs.state.Kept.pause.Goals as goal

pub returns-clause-obeys : goal.returns-clause-obeys
returns-clause-obeys c =
    let k = c.args.self.now in
    let step = c.args.step.now in
    obeys rules.pause c.requires.goes_on (pausing-goes_on k step c.requires.goes_on) c.pausing.ensures.says (pause-gives (in_step k c.args.opened.now) step)
