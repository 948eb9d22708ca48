use Rattle.std.proofs.Common.{◌+◌, ◌≤◌}
use Rattle.rulebook.specs.Admission.{most_names}
use Rattle.market_core.specs.Fresh.{AreFresh}
use Rattle.market_core.proofs.section.Section.restore.Given as goal

abbrev pub invariant-loop-id : goal.invariant-loop-id
invariant-loop-id l = record {
  fresh : AreFresh l.carried l.id l.section.symbols;
  room : most_names ≤ l.id + l.section.spare;
}
