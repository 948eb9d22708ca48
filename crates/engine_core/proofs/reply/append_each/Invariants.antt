use Rattle.std.proofs.Common.{◌≡◌, ◌+◌, ◌++◌, ℕ, List, [], drop, Option}
use Rattle.host_core.specs.Outside.{Elapses, NoFault}
use Rattle.host_core.specs.Frames.{OnlySends}
use Rattle.rulebook.specs.Sent.{spelled, numbered}
use Rattle.stream_core.specs.Pending.{Expects, SendsPrefix}
use Rattle.engine_core.proofs.reply.append_each.Given as goal

abbrev pub invariant-loop-message : goal.invariant-loop-message
invariant-loop-message g l = record {
  number : l.number ≡ l.before + l.message-index;
  pending : (begin : Option (List ℕ)) (text : List ℕ) → Expects begin (g.H.Host.outside l.initial.host).sent l.initial.outbox text
      → (so_far : List ℕ) × Expects begin (g.H.Host.outside l.host).sent l.outbox so_far
      × (so_far ++ spelled (numbered l.number (drop l.message-index l.messages)) ≡ text ++ spelled (numbered l.before l.messages));
  moments : (begin : Option (List ℕ)) (text : List ℕ) → Expects begin (g.H.Host.outside l.initial.host).sent l.initial.outbox text
      → Elapses (g.H.Host.outside l.initial.host) (g.H.Host.outside l.host) (SendsPrefix begin (text ++ spelled (numbered l.before l.messages)) (g.H.Host.outside l.initial.host));
  keeps : OnlySends (g.H.Host.outside l.initial.host) (g.H.Host.outside l.host);
  none : NoFault (g.H.Host.outside l.initial.host) (g.H.Host.outside l.host);
  empty : l.messages ≡ [] → (l.outbox ≡ l.initial.outbox) × (l.host ≡ l.initial.host);
}
