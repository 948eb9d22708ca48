use Rattle.std.proofs.Common.{◌≡◌, ◌≤◌, ◌++◌, ℕ, List, [], drop}
use Rattle.std.specs.Prelude.{Option}
use Rattle.std.specs.List.{flat_map}
use Rattle.std.specs.String.{string_capacity}
use Rattle.host_core.specs.Outside.{Elapses, NoFault}
use Rattle.host_core.specs.Frames.{OnlySends}
use Rattle.stream_core.specs.Pending.{Expects, SendsPrefix}
use Rattle.screen_core.specs.Rows.{row_line}
use Rattle.screen_core.proofs.sending.send_rows.Given as goal

abbrev pub invariant-loop-row : goal.invariant-loop-row
invariant-loop-row g l = record {
  room : 200 ≤ string_capacity l.line;
  pending : (begin : Option (List ℕ)) → Expects begin (g.H.Host.outside l.initial.host).sent l.initial.outbox []
      → (so_far : List ℕ) × Expects begin (g.H.Host.outside l.host).sent l.outbox so_far × (so_far ++ flat_map row_line (drop l.row-index l.rows) ≡ flat_map row_line l.rows);
  moments : (begin : Option (List ℕ)) → Expects begin (g.H.Host.outside l.initial.host).sent l.initial.outbox []
      → Elapses (g.H.Host.outside l.initial.host) (g.H.Host.outside l.host) (SendsPrefix begin (flat_map row_line l.rows) (g.H.Host.outside l.initial.host));
  keeps : OnlySends (g.H.Host.outside l.initial.host) (g.H.Host.outside l.host);
  none : NoFault (g.H.Host.outside l.initial.host) (g.H.Host.outside l.host);
}
