use Rattle.std.proofs.Common.{ap}
use Rattle.symbol_core.specs.InStep.{InStep, in_step}
use Rattle.symbol_core.proofs.Phases.{stands-turned}
use Rattle.symbol_core.proofs.state.Kept.becomes.Goals as goal

pub returns-clause-says : goal.returns-clause-says
returns-clause-says c = record { items = c.push.ensures.items; stands = λ mine deals h s. rw c.set_phase.ensures (stands-turned mine (in_step c.args.self.now c.args.opened.now) deals c.args.step.now c.args.phase h c.requires.alone s); phase = ap (λ (k : InStep). k.kept.phase) c.set_phase.ensures; id = ap (λ (k : InStep). k.kept.id) c.set_phase.ensures }
