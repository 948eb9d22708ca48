use Rattle.std.proofs.Common.{◌+◌, ◌-◌, ◌≤◌, ◌++◌, ℕ, List, length, take}
use Rattle.std.specs.Prelude.{Option}
use Rattle.host_core.specs.Outside.{Elapses, NoFault}
use Rattle.host_core.specs.Frames.{OnlySends}
use Rattle.stream_core.specs.Pending.{SendsPrefix}
use Rattle.text_core.specs.Streams.{units_of, text_of}
use Rattle.text_core.specs.InternalStreams.{Reads}
use Rattle.text_core.proofs.translator.Translator.feed.Given as goal

abbrev pub invariant-loop-at : goal.invariant-loop-at
invariant-loop-at g l = record {
  within : l.at ≤ length l.piece;
  few : l.self.writer.number ≤ l.initial.self.writer.number + l.at;
  reads : (begin : Option (List ℕ)) (read : List ℕ) → Reads l.task l.kind begin read l.initial.self l.initial.outbox (g.H.Host.outside l.initial.host).sent
      → Reads l.task l.kind begin (read ++ take l.at l.piece) l.self l.outbox (g.H.Host.outside l.host).sent;
  moments : (begin : Option (List ℕ)) (read : List ℕ) → Reads l.task l.kind begin read l.initial.self l.initial.outbox (g.H.Host.outside l.initial.host).sent
      → Elapses (g.H.Host.outside l.initial.host) (g.H.Host.outside l.host) (SendsPrefix begin (text_of l.task l.kind (units_of l.task (read ++ l.piece))) (g.H.Host.outside l.initial.host));
  keeps : OnlySends (g.H.Host.outside l.initial.host) (g.H.Host.outside l.host);
  none : NoFault (g.H.Host.outside l.initial.host) (g.H.Host.outside l.host);
}

abbrev pub decreases-loop-at : goal.decreases-loop-at
decreases-loop-at g l = length l.piece - l.at
