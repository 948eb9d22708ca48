use Rattle.std.proofs.Common.{◌≡◌, ◌+◌, List, drop}
use Rattle.wire_in.specs.declared.record.Record.{Record}
use Rattle.rehearse_core.specs.InternalRehearsal.{IsSound, Rehearses}
use Rattle.rehearse_core.proofs.rehearsal.evaluate_each.Given as goal

abbrev pub invariant-loop-x : goal.invariant-loop-x
invariant-loop-x l = record {
  sound : IsSound l.engine l.tally;
  more : l.engine.evaluated ≡ l.initial.engine.evaluated + l.x-index;
  rehearses : (all left : List Record) → Rehearses all left l.block l.block l.initial.engine l.initial.tally → Rehearses all left (drop l.x-index l.block) (drop l.x-index l.block) l.engine l.tally;
}
