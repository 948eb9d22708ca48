use Rattle.std.proofs.Common.{length, ap, arith}
use Rattle.standby_core.specs.Rounds.{RoundState}
use Rattle.standby_core.proofs.round.Round.push.Goals as goal

pub push-requires-clause-room : goal.push-requires-clause-room
push-requires-clause-room c =
    omega (arith, c.requires.room, c.self.invariant.fewer, c.self.invariant.within, ap (λ (r : RoundState). length r.replies) c.self.view_is, ap (λ (r : RoundState). r.most) c.self.view_is)
