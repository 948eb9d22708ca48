use Rattle.std.proofs.Common.{arith}
use Rattle.standby_core.proofs.StoodBy.{taken_stood, unopened_stood}
use Rattle.standby_core.proofs.keeping.stand_by.Goals as goal

pub take_input-requires-clause-ready : goal.take_input-requires-clause-ready
take_input-requires-clause-ready g c = c.in-Ok.ensures.opened.ready c.args.bytes (omega (arith, c.requires.bytes))

-- the input was taken
pub returns-in-Ok : goal.returns-in-Ok
returns-in-Ok g c =
    taken_stood _ _ _ _ _ _ (g.met.H.Host.sent_now c.take_input.new.host) (g.met.H.Host.read_passes c.take_input.new.host)
    c.in-Ok.standby c.in-Ok.ensures.opened c.take_input.ensures c.in-Ok.ensures.frames

-- the journal was not opened
pub returns-in-Err : goal.returns-in-Err
returns-in-Err g c =
    unopened_stood _ _ _ _ _ _ (g.met.H.Host.sent_now c.open.new.host) (g.met.H.Host.read_passes c.open.new.host) c.in-Err.ensures.unopened
