use Rattle.symbol_core.specs.InStep.{in_step}
use Rattle.symbol_core.proofs.Banding.{bands-said, bands-unlisted}
use Rattle.symbol_core.proofs.state.Kept.band.Goals as goal

pub returns-in-Some-clause-bands : goal.returns-in-Some-clause-bands
returns-in-Some-clause-bands c =
    bands-said c.args.self.now c.args.opened.now c.args.step.now (record { cause = c.args.cause; reference = c.args.price; bands = c.bands_of-bands.result }) c.in-Some.listed (in_step c.say_band.new.self c.say_band.new.opened)
    c.in-Some.is c.bands_of-bands.ensures c.say_band.ensures.banded

pub returns-in_default-clause-bands : goal.returns-in_default-clause-bands
returns-in_default-clause-bands c = bands-unlisted c.args.self.now c.args.step.now c.in_default.is
