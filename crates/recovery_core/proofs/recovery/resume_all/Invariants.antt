use Rattle.std.proofs.Common.{◌≡◌, ◌+◌, ◌-◌, ◌≤◌, ℕ, List, [], length, drop}
use Rattle.std.specs.Prelude.{Option, None}
use Rattle.host_core.specs.Outside.{Elapses}
use Rattle.host_core.specs.Frames.{OnlySends}
use Rattle.host_core.specs.Outside.{NoFault}
use Rattle.wire_in.specs.declared.base.Base.{Base}
use Rattle.wire_in.specs.declared.record.Record.{Record}
use Rattle.evaluator_core.specs.Evaluating.{workers_of, IsWorking}
use Rattle.engine_core.specs.EngineState.{IsRoomy}
use Rattle.stream_core.specs.Pending.{SendsPrefix}
use Rattle.recovery_core.specs.Origins.{again}
use Rattle.recovery_core.specs.Recoveries.{IsSmall, Resumes}
use Rattle.recovery_core.proofs.recovery.resume_all.Given as goal

abbrev pub invariant-loop-x : goal.invariant-loop-x
invariant-loop-x g l = record {
  advances : (capacity : ℕ) (base : Option Base) (accepted : List Record) (begin : Option (List ℕ)) → Resumes l.from capacity base accepted l.records l.records begin l.initial.engine l.initial.outbox (g.H.Host.outside l.initial.host)
      → Resumes l.from capacity base accepted (drop l.x-index l.records) (drop l.x-index l.records) begin l.engine l.outbox (g.H.Host.outside l.host)
      × Elapses (g.H.Host.outside l.initial.host) (g.H.Host.outside l.host) (SendsPrefix begin (again l.from base accepted) (g.H.Host.outside l.initial.host));
  small : IsSmall l.engine;
  count : l.engine.admission.count ≡ l.engine.evaluated + (length l.records - l.x-index);
  roomy : IsRoomy l.engine;
  first : l.x-index ≡ 0 → l.engine ≡ l.initial.engine;
  working : 1 ≤ l.x-index → IsWorking l.engine.evaluator;
  workers : workers_of l.engine.evaluator ≡ workers_of l.initial.engine.evaluator;
  admission : l.engine.admission ≡ l.initial.engine.admission;
  keeps : OnlySends (g.H.Host.outside l.initial.host) (g.H.Host.outside l.host);
  unasked : l.from ≡ None → l.initial.outbox ≡ [] → (l.host ≡ l.initial.host) × (l.outbox ≡ []);
  none : NoFault (g.H.Host.outside l.initial.host) (g.H.Host.outside l.host);
}
