use Rattle.std.proofs.Common.{refl}
use Rattle.standby_core.proofs.opening.finish.Goals as goal

pub returns : goal.returns
returns c = record {
  cutter = c.new.ensures;
  admission = refl;
  gathers = refl;
  answered = refl;
  capacity = c.finish.ensures.capacity;
  count = c.finish.ensures.count;
  whole = c.finish.ensures.whole;
  keeps = c.finish.ensures.keeps;
  of_disk = c.finish.ensures.of_disk;
}
