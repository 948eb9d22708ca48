use Rattle.std.proofs.Common.{refl, arith}
use Rattle.journal_core.proofs.Offsets.{gate_reaches}
use Rattle.roll_core.proofs.rolling.finish.Goals as goal

pub add-requires-clause-count : goal.add-requires-clause-count
add-requires-clause-count g c = omega (arith, c.requires.reading.count, c.requires.reading.all, c.finish-journal.ensures.count)

pub add-requires-clause-gate : goal.add-requires-clause-gate
add-requires-clause-gate g c = gate_reaches (c.finish-journal.ensures.of_disk _ c.requires.reading.of_disk)

pub returns : goal.returns
returns g c = c.add.ensures c.args.recovery (record {
  engine_is = refl;
  closed = c.requires.closed;
  limit = c.finish-journal.ensures.capacity;
  rolled_is = c.finish-journal.ensures.rolled;
  keeps = c.finish-journal.ensures.keeps;
}) refl
