use Rattle.std.proofs.Common.{◌≡◌, ◌++◌, ℕ, List, drop}
use Rattle.std.specs.Prelude.{Option}
use Rattle.host_core.specs.Outside.{Elapses, NoFault}
use Rattle.host_core.specs.Frames.{OnlySends}
use Rattle.stream_core.specs.Pending.{Expects, SendsPrefix}
use Rattle.standby_core.specs.Rounds.{spelled}
use Rattle.standby_core.proofs.replying.append_replies.Given as goal

abbrev pub invariant-loop-reply : goal.invariant-loop-reply
invariant-loop-reply g l = record {
  pending : (begin : Option (List ℕ)) (text : List ℕ) → Expects begin (g.H.Host.outside l.initial.host).sent l.initial.outbox text
      → (so_far : List ℕ) × Expects begin (g.H.Host.outside l.host).sent l.outbox so_far × (so_far ++ spelled (drop l.reply-index l.replies) ≡ text ++ spelled l.replies);
  moments : (begin : Option (List ℕ)) (text : List ℕ) → Expects begin (g.H.Host.outside l.initial.host).sent l.initial.outbox text
      → Elapses (g.H.Host.outside l.initial.host) (g.H.Host.outside l.host) (SendsPrefix begin (text ++ spelled l.replies) (g.H.Host.outside l.initial.host));
  keeps : OnlySends (g.H.Host.outside l.initial.host) (g.H.Host.outside l.host);
  none : NoFault (g.H.Host.outside l.initial.host) (g.H.Host.outside l.host);
}
