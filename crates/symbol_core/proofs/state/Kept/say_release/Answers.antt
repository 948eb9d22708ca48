use Rattle.std.proofs.Common.{refl}
use Rattle.symbol_core.proofs.OtherMessages.{stands-released}
use Rattle.symbol_core.specs.InStep.{in_step}
use Rattle.symbol_core.proofs.state.Kept.say_release.Goals as goal

pub returns-clause-says : goal.returns-clause-says
returns-clause-says c = record { items = c.push.ensures.items; stands = λ mine deals h s. stands-released mine (in_step c.args.self.now c.args.opened.now) deals c.args.step.now c.args.price h s; phase = refl; id = refl }
