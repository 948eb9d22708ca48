use Rattle.std.proofs.Common.{refl}
use Rattle.symbol_core.proofs.OtherMessages.{stands-with_round}
use Rattle.symbol_core.specs.InStep.{in_step}
use Rattle.symbol_core.proofs.state.Kept.say_round.Goals as goal

pub returns-clause-says : goal.returns-clause-says
returns-clause-says c = λ opened. record { items = rw (← c.collar.ensures) c.push.ensures.items; stands = λ mine deals h s. stands-with_round mine (in_step c.args.self.now opened) deals c.args.step.now c.args.auction.now h c.requires.same c.requires.now s; phase = refl; id = refl }
