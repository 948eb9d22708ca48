use Rattle.std.proofs.Common.{◌≡◌, ◌+◌, ◌≤◌, ℕ, List, Option, take}
use Rattle.wire_in.specs.declared.base.Base.{Base}
use Rattle.wire_in.specs.declared.record.Record.{Record}
use Rattle.journal_core.specs.Layout.{with_batch}
use Rattle.standby_core.specs.Reading.{Admits}
use Rattle.standby_core.proofs.reading.admit_all.Given as goal

abbrev pub invariant-loop-x : goal.invariant-loop-x
invariant-loop-x l = record {
  admits : (capacity : ℕ) (base : Option Base) (accepted : List Record) → Admits capacity base accepted l.initial.admission → Admits capacity base (with_batch accepted (take l.x-index l.records)) l.admission;
  within : l.admission.count ≤ l.admission.capacity;
  count : l.admission.count ≡ l.initial.admission.count + l.x-index;
  capacity : l.admission.capacity ≡ l.initial.admission.capacity;
}
