use Rattle.rulebook.specs.Rules as rules
use Rattle.symbol_core.proofs.Chains.{obeys}
use Rattle.symbol_core.proofs.Gives.{reopen-gives}
use Rattle.symbol_core.proofs.GoesOn.{reopening-goes_on}
use Rattle.symbol_core.specs.InStep.{in_step}
use Rattle.symbol_core.proofs.state.Kept.reopen.Goals as goal

pub returns-clause-obeys : goal.returns-clause-obeys
returns-clause-obeys c =
    let k = c.args.self.now in
    let step = c.args.step.now in
    obeys rules.reopen c.requires.goes_on (reopening-goes_on k step c.requires.goes_on) c.reopening.ensures.says (reopen-gives (in_step k c.args.opened.now) step)
