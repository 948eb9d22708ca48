use Rattle.std.proofs.Common.{◌≡◌, ◌+◌, ℕ, List, length, take}
use Rattle.std.specs.Prelude.{Option}
use Rattle.host_core.specs.Outside.{Elapses, NoFault}
use Rattle.host_core.specs.Frames.{OnlySends}
use Rattle.wire_in.specs.declared.record.Record.{Record}
use Rattle.journal_core.specs.Layout.{with_batch}
use Rattle.stream_core.specs.Pending.{Expects, SendsPrefix}
use Rattle.standby_core.specs.Shipped.{parts_behind}
use Rattle.standby_core.proofs.shipping.ship_records.Given as goal

abbrev pub invariant-loop-x : goal.invariant-loop-x
invariant-loop-x g l = record {
  number : l.number ≡ l.before + l.x-index;
  advances : (begin : Option (List ℕ)) (past : ℕ) (held : List Record) → l.before ≡ past + length held → Expects begin (g.H.Host.outside l.initial.host).sent l.initial.outbox (parts_behind past l.from held)
      → Expects begin (g.H.Host.outside l.host).sent l.outbox (parts_behind past l.from (with_batch held (take l.x-index l.records)))
      × Elapses (g.H.Host.outside l.initial.host) (g.H.Host.outside l.host) (SendsPrefix begin (parts_behind past l.from (with_batch held l.records)) (g.H.Host.outside l.initial.host));
  keeps : OnlySends (g.H.Host.outside l.initial.host) (g.H.Host.outside l.host);
  none : NoFault (g.H.Host.outside l.initial.host) (g.H.Host.outside l.host);
}
