use Rattle.std.proofs.Common.{◌≡◌, ◌+◌, ◌-◌, ◌≤◌, [], ℕ, length}
use Rattle.host_core.specs.Outside.{Elapses, NoFault}
use Rattle.stream_core.specs.Answering.{IsNext, LeavesInput}
use Rattle.standby_core.specs.Standing.{Does, Follows, Given, IsSound, Leaves}
use Rattle.standby_core.proofs.standing.StandbyAnswerer.feed.Given as goal

abbrev pub invariant-loop-at : goal.invariant-loop-at
invariant-loop-at g l = record {
  within : l.at ≤ length l.piece;
  sound : IsSound l.self (g.H.Host.outside l.host).disk;
  replies : l.self.round.replies ≡ [];
  records : l.self.round.records ≡ [];
  few : l.self.answered ≤ l.initial.self.answered + l.at;
  follows : (given : Given) (count : ℕ) → Follows given count l.initial.outbox l.initial.self (g.H.Host.outside l.initial.host) → IsNext given.input given.most count l.piece
      → Follows given (count + l.at) l.outbox l.self (g.H.Host.outside l.host) × Elapses (g.H.Host.outside l.initial.host) (g.H.Host.outside l.host) (Leaves given);
  does : Does l.initial.self l.self (g.H.Host.outside l.initial.host) (g.H.Host.outside l.host);
  keeps : LeavesInput (g.H.Host.outside l.initial.host) (g.H.Host.outside l.host);
  none : NoFault (g.H.Host.outside l.initial.host) (g.H.Host.outside l.host);
}

abbrev pub decreases-loop-at : goal.decreases-loop-at
decreases-loop-at g l = length l.piece - l.at
