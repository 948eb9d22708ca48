use Rattle.std.proofs.Common.{◌≡◌, ◌+◌, ◌-◌, ◌≤◌, ◌++◌, [], ℕ, List, length, take, Ok}
use Rattle.host_core.specs.Outside.{NoFault}
use Rattle.engine_core.specs.Sessions.{Start}
use Rattle.engine_core.specs.Serving.{Serves, Runs, IsReady, OnlyAnswers}
use Rattle.engine_core.proofs.session.feed.Given as goal

abbrev pub invariant-loop-at : goal.invariant-loop-at
invariant-loop-at g l = record {
  within : l.at ≤ length l.piece;
  empty : l.session.round.outcomes ≡ [];
  few : l.session.answered ≤ l.initial.session.answered + l.at;
  still : l.at ≡ 0 → (g.H.Host.outside l.host).sent ≡ (g.H.Host.outside l.initial.host).sent;
  most : l.session.round.most ≡ l.initial.session.round.most;
  ready : IsReady (g.K.Keeper.has_room l.keeper (g.H.Host.outside l.host).disk) g.K.Keeper.most l.session;
  runs : (start : Start) (read : List ℕ) → start.acknowledges ≡ g.K.Keeper.acknowledges → Serves (g.K.Keeper.holds l.initial.keeper) start read l.initial.session (g.H.Host.outside l.initial.host)
      → Runs {T = Unit {0}} l.initial.session.round.most (g.K.Keeper.holds l.keeper) (g.K.Keeper.recovers l.initial.keeper (g.H.Host.outside l.initial.host)) (g.K.Keeper.recovers l.keeper (g.H.Host.outside l.host)) start (read ++ take l.at l.piece) (read ++ l.piece) (Ok tt) l.session
      (g.H.Host.outside l.initial.host) (g.H.Host.outside l.host);
  keeps : OnlyAnswers (g.K.Keeper.touches l.initial.session.round.most) (g.H.Host.outside l.initial.host) (g.H.Host.outside l.host);
  none : NoFault (g.H.Host.outside l.initial.host) (g.H.Host.outside l.host);
}

abbrev pub decreases-loop-at : goal.decreases-loop-at
decreases-loop-at g l = length l.piece - l.at
