use Rattle.std.proofs.Common.{ap}
use Rattle.symbol_core.specs.InStep.{InStep, in_step}
use Rattle.symbol_core.proofs.OtherMessages.{stands-banded}
use Rattle.symbol_core.proofs.state.Kept.say_band.Goals as goal

pub returns-clause-says : goal.returns-clause-says
returns-clause-says c = record { items = c.push.ensures.items; stands = λ mine deals h s. rw c.take_band.ensures.banded (stands-banded mine (in_step c.args.self.now c.args.opened.now) deals c.args.step.now c.args.b.now h c.requires.unpaused c.requires.times s); phase = ap (λ (k : InStep). k.kept.phase) c.take_band.ensures.banded; id = ap (λ (k : InStep). k.kept.id) c.take_band.ensures.banded }
