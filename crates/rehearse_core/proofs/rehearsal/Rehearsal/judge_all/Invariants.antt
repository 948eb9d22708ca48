use Rattle.std.proofs.Common.{◌+◌, ◌<◌, ◌^◌, [], List, length}
use Rattle.std.specs.Prelude.{vec_len}
use Rattle.wire_in.specs.declared.record.Record.{Record}
use Rattle.rehearse_core.specs.InternalRehearsal.{HasRoom, IsSound, Rehearses}
use Rattle.rehearse_core.proofs.rehearsal.Rehearsal.judge_all.Given as goal

abbrev pub invariant-loop-x : goal.invariant-loop-x
invariant-loop-x g l = record {
  sound : IsSound l.self.engine l.self.tally;
  room : HasRoom l.self;
  few : l.self.engine.evaluated + vec_len l.self.block + length l.generator < 2 ^ 42;
  rehearses : (all : List Record) → Rehearses all l.initial.generator l.initial.self.block.items [] l.initial.self.engine l.initial.self.tally
      → Rehearses all l.generator l.self.block.items [] l.self.engine l.self.tally;
}

abbrev pub decreases-loop-x : goal.decreases-loop-x
decreases-loop-x g l = length l.generator
