use Rattle.std.proofs.Common.{◌≡◌, ◌+◌, ℕ, List, Option, take}
use Rattle.wire_in.specs.declared.base.Base.{Base}
use Rattle.wire_in.specs.declared.record.Record.{Record}
use Rattle.journal_core.specs.Layout.{with_batch}
use Rattle.recovery_core.specs.Recoveries.{IsSmall, Admits}
use Rattle.recovery_core.proofs.recovery.admit_all.Given as goal

abbrev pub invariant-loop-x : goal.invariant-loop-x
invariant-loop-x l = record {
  admits : (capacity : ℕ) (base : Option Base) (accepted evaluated : List Record) → Admits capacity base accepted evaluated l.initial.engine → Admits capacity base (with_batch accepted (take l.x-index l.records)) evaluated l.engine;
  rest : l.engine ≡ record l.initial.engine { admission = l.engine.admission };
  small : IsSmall l.engine;
  count : l.engine.admission.count ≡ l.initial.engine.admission.count + l.x-index;
  capacity : l.engine.admission.capacity ≡ l.initial.engine.admission.capacity;
}
