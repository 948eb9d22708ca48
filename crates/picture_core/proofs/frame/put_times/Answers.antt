use Rattle.std.proofs.Common.{rules}
use Rattle.picture_core.specs.Frames.{time_tick}
use Rattle.picture_core.proofs.Ticks.{tick_put}
use Rattle.picture_core.proofs.frame.put_times.Goals as goal

pub loop-count-preserved : goal.loop-count-preserved
loop-count-preserved c = tick_put (time_tick c.args.bottom) c.loop-count.count _ _ _ c.loop-count.invariant (search rules)
