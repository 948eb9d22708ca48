use Rattle.std.proofs.Common.{ℕ, ◌+◌, ◌*◌, ◌/◌}
use Rattle.picture_core.specs.Frames.{tick_within}
use Rattle.picture_core.proofs.Ticks.{tick_put}
use Rattle.picture_core.proofs.frame.put_multiples.Goals as goal

pub loop-count-preserved : goal.loop-count-preserved
loop-count-preserved c =
    let axis = c.args.axis.now in
    let step = c.from-step.result in
    tick_put (λ (count : ℕ). tick_within axis ((axis.low / step + 1 + count) * step)) c.loop-count.count _ _ _ c.loop-count.invariant
    (rw c.from.ensures at c.in_ok-put_price.ensures)
