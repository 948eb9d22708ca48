use Rattle.std.proofs.Common.{◌≡◌, ◌⊎◌, ◌+◌, ◌-◌, ◌<◌, ◌≤◌, false, [], ℕ, List, Ok, cond, length, take}
use Rattle.host_core.specs.Outside.{Continues, NoFault}
use Rattle.stream_core.specs.Taking.{ReadsAtMost}
use Rattle.engine_core.specs.Sessions.{Start, Answered, Prompt}
use Rattle.engine_core.specs.Serving.{Reads, Runs, IsReady}
use Rattle.engine_core.proofs.input.serve_input.Given as goal

-- of an input: how much of it was read, the run and its reads since it began, and at the end that all of this is answered
abbrev pub invariant-loop-open : goal.invariant-loop-open
invariant-loop-open g l = record {
  within : l.read ≤ l.most;
  answered : l.session.answered ≤ l.read;
  buffer : 0 < length l.buffer;
  empty : l.session.round.outcomes ≡ [];
  most : l.session.round.most ≡ l.initial.session.round.most;
  ready : IsReady (g.K.Keeper.has_room l.keeper (g.H.Host.outside l.host).disk) g.K.Keeper.most l.session;
  polls : (start : Start) (input : List ℕ) → start.acknowledges ≡ g.K.Keeper.acknowledges → Reads (g.K.Keeper.holds l.initial.keeper) start input 0 l.initial.session (g.H.Host.outside l.initial.host)
      → record {
        reads : Reads (g.K.Keeper.holds l.keeper) start input l.read l.session (g.H.Host.outside l.host);
        runs : Runs {T = Unit {0}} l.initial.session.round.most (g.K.Keeper.holds l.keeper) (g.K.Keeper.recovers l.initial.keeper (g.H.Host.outside l.initial.host)) (g.K.Keeper.recovers l.keeper (g.H.Host.outside l.host)) start (take l.read input) (take l.most input) (Ok tt) l.session
            (g.H.Host.outside l.initial.host) (g.H.Host.outside l.host);
        prompt : Prompt start input (g.H.Host.outside l.initial.host).asks (g.H.Host.outside l.host).asks;
        end : l.open ≡ false → ((l.read ≡ length input) ⊎ (l.read ≡ l.most)) × Answered (g.K.Keeper.holds l.keeper) start input l.read (g.H.Host.outside l.host);
      };
  taken : ReadsAtMost l.read (g.H.Host.outside l.initial.host).input (g.H.Host.outside l.host).input;
  touches : g.K.Keeper.touches l.initial.session.round.most (g.H.Host.outside l.initial.host) (g.H.Host.outside l.host);
  continues : Continues (g.H.Host.outside l.initial.host) (g.H.Host.outside l.host);
  none : NoFault (g.H.Host.outside l.initial.host) (g.H.Host.outside l.host);
}

abbrev pub decreases-loop-open : goal.decreases-loop-open
decreases-loop-open g l = l.most - l.read + cond l.open 1 0
