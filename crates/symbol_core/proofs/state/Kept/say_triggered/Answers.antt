use Rattle.std.proofs.Common.{refl}
use Rattle.wire_out.specs.declared.message.ShortKind.TheVariants.{Triggered}
use Rattle.symbol_core.proofs.OtherMessages.{stands-short}
use Rattle.symbol_core.specs.InStep.{in_step}
use Rattle.symbol_core.proofs.state.Kept.say_triggered.Goals as goal

pub returns-clause-says : goal.returns-clause-says
returns-clause-says c = λ opened. record { items = c.push.ensures.items; stands = λ mine deals h s. stands-short mine (in_step c.args.self.now opened) deals c.args.step.now Triggered h s; phase = refl; id = refl }
