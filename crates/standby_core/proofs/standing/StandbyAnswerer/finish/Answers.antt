use Rattle.std.proofs.Common.{take}
use Rattle.stream_core.proofs.Pieces.{exchanges_none, leaves_none}
use Rattle.stream_core.proofs.Sending.{sends_none}
use Rattle.standby_core.specs.Standing.{does_exchange, sends_leave}
use Rattle.standby_core.proofs.Settling.{ends_so, sent_all}
use Rattle.standby_core.proofs.standing.StandbyAnswerer.finish.Goals as goal

pub returns-clause-exact : goal.returns-clause-exact
returns-clause-exact g c = λ given same follows through. rw same (ends_so through c.ended.result (c.ended.ensures.status (take c.args.read given.input) follows.cutter), sent_all through)

pub returns-clause-held : goal.returns-clause-held
returns-clause-held g c = λ given follows. (follows.limit, follows.at_rest)

pub returns-clause-leaves : goal.returns-clause-leaves
returns-clause-leaves g c = λ given same follows through.
    sends_leave given c.args.read _ c.args.self.now _ _ follows (sends_none (g.H.Host.outside c.args.host.now) (g.met.H.Host.sent_now c.args.host.now) _ _ follows.pending_is)

pub returns-clause-does : goal.returns-clause-does
returns-clause-does g c = does_exchange _ _ _ (exchanges_none _)

pub returns-clause-keeps : goal.returns-clause-keeps
returns-clause-keeps g c = leaves_none _
