use Rattle.std.proofs.Common.{refl}
use Rattle.symbol_core.proofs.Apart.{stands-listed}
use Rattle.symbol_core.specs.InStep.{in_step}
use Rattle.symbol_core.proofs.state.Kept.say_listed.Goals as goal

pub returns-clause-says : goal.returns-clause-says
returns-clause-says c = λ opened. record { items = c.push.ensures.items; stands = λ mine deals h s. stands-listed mine (in_step c.args.self.now opened) deals c.args.step.now c.args.name h s; phase = refl; id = refl }
