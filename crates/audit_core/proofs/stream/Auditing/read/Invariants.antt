use Rattle.std.proofs.Common.{◌≡◌, ◌+◌, ◌-◌, ◌≤◌, ◌++◌, true, ℕ, List, length, take}
use Rattle.std.specs.Prelude.{None}
use Rattle.audit_core.specs.InternalStreams.{Reads}
use Rattle.audit_core.proofs.stream.Auditing.read.Given as goal

abbrev pub invariant-loop-at : goal.invariant-loop-at
invariant-loop-at l = record {
  within : l.at ≤ length l.piece;
  few : l.self.inspection.taken ≤ l.initial.self.inspection.taken + l.at;
  clean : l.self.inspection.flaw ≡ None → l.self.inspection.audit.clean ≡ true;
  reads : (read : List ℕ) → Reads read l.initial.self → Reads (read ++ take l.at l.piece) l.self;
}

abbrev pub decreases-loop-at : goal.decreases-loop-at
decreases-loop-at l = length l.piece - l.at
